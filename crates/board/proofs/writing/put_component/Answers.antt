-- Three writes in a row are one (`put_three`), of the component's bytes since each value fits its field.
use Rattle.std.proofs.Common.{◌≡◌, ◌<◌, ◌^◌, ◌*◌, length, arith, rules}
use Rattle.bitfield.specs.Layout.{Fit}
use Rattle.bitfield.proofs.Laws.{length-bytes, put_three}
use Rattle.board.specs.Description.{uuid_bytes}
use Rattle.board.specs.Packed.{tail_widths, tail_values, flags_number}
use Rattle.board.proofs.Laws.{digit-fits, component-bytes}
use Rattle.board.proofs.writing.put_component.Goals as goal
use Rattle.board.proofs.writing.put_component.Goals.{Start}

pub returns : goal.returns
returns c =
    let a = c.args.c.now in
    let u : length a.uuid ≡ uuid_bytes = search rules in
    let s : a.svn < 2 ^ 32 = search rules in
    let fit : Fit tail_widths (tail_values a) = (digit-fits a.capable, (digit-fits a.may_reset, (digit-fits a.optional, (omega arith, (s, tt))))) in
    let y = length-bytes 1 (flags_number a * 32) in
    let z = length-bytes 4 a.svn in
    record {
      buf_after = rw (component-bytes a fit) (put_three _ _ _ _ _ _ _ a.uuid _ _ c.put_uuid.ensures.buf_after (rw c.flags.ensures at c.put_number.ensures) (rw c.from.ensures at c.put_number-2.ensures) (omega arith) (omega arith) (omega arith));
      typed = record { long = u; bytes = c.put_uuid.ensures.are_bytes; svn = s };
    }
