-- A part that was written is `put`.
use native.Mathlib.Omega.{arith}
use Rattle.bitfield.proofs.Laws.{put_mid-put}
use Rattle.bitfield.proofs.write.Goals as goal

pub returns-clause-s_after : goal.returns-clause-s_after
returns-clause-s_after c =
    let a = c.args in
    put_mid-put a.s.now a.k _ a.n a.v _ c.put_bytes.ensures (omega arith) (omega arith) (omega arith)
