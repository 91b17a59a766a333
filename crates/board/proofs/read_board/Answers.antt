-- Each end gives `read_of`: by the first test that failed, or what both let through. The number follows from it, and that it writes
-- back, since the slice holds bytes.
use Rattle.std.proofs.Common.{arith, sym, ◌∙◌, ◌≡◌}
use Rattle.std.proofs.lemmas.Result.{err_from_is_err_and}
use Rattle.board.specs.Packed.{read_of}
use Rattle.board.proofs.Laws.{read-shaped, read-misshaped, read-broken}
use Rattle.board.proofs.Round.{read_back}
use Rattle.board.proofs.Numbers.{read-given}
use Rattle.board.proofs.read_board.Goals as goal

pub returns-in_err-shape : goal.returns-in_err-shape
returns-in_err-shape c =
    let p = err_from_is_err_and c.from_residual.result c.from_residual.ensures.1 in
    let e : c.from_residual.result ≡ read_of c.args.s.now = p.1 ∙ rw p.2 (read-misshaped _ _ (sym c.in_err-shape.ensures)) in
    record { value = e; writes_back = read_back _ _ (λ i. omega (arith, c.type_inv.s i)) e; numbers = read-given _ _ e }

pub returns-in_err-judged : goal.returns-in_err-judged
returns-in_err-judged c =
    let p = err_from_is_err_and c.from_residual-in_err-judged.result c.from_residual-in_err-judged.ensures.1 in
    let e : c.from_residual-in_err-judged.result ≡ read_of c.args.s.now = p.1 ∙ rw p.2 (read-broken _ _ _ (sym c.shape.ensures ∙ c.in_ok-shape.was) c.board_at-b.ensures (sym c.in_err-judged.ensures)) in
    record { value = e; writes_back = read_back _ _ (λ i. omega (arith, c.type_inv.s i)) e; numbers = read-given _ _ e }

pub returns : goal.returns
returns c =
    let e = read-shaped _ _ (sym c.shape.ensures ∙ c.in_ok-shape.was) c.board_at-b.ensures (sym c.judged.ensures ∙ c.in_ok-judged.was) in
    record { value = e; writes_back = read_back _ _ (λ i. omega (arith, c.type_inv.s i)) e; numbers = read-given _ _ e }
