-- The table of rules (document 01, "Calls", from Calls 9 to 19; CANCEL in preparing and the last row: request 3). Assumes nothing.
use Rattle.std.specs.Prelude.{ℕ, map, get_or}
use Rattle.board_record.specs.Record.{in_order}
use Rattle.board_record.specs.declared.State.{State}
use Rattle.board_record.specs.declared.State.TheVariants.{Idle, Preparing, HalfPrepared, Ready, Gathering, Together, Alone, HalfActivated, Dead, Withdrawn}
use Rattle.rules.specs.declared.cells.PrimeCell.{PrimeCell}
use Rattle.rules.specs.declared.cells.PrimeCell.TheVariants as prime
use Rattle.rules.specs.declared.cells.ActivateCell.{ActivateCell}
use Rattle.rules.specs.declared.cells.ActivateCell.TheVariants as activate
use Rattle.rules.specs.declared.cells.CancelCell.{CancelCell}
use Rattle.rules.specs.declared.cells.CancelCell.TheVariants as cancel
use Rattle.rules.specs.declared.cells.PowerCell.{PowerCell}
use Rattle.rules.specs.declared.cells.PowerCell.TheVariants as power
use Rattle.rules.specs.declared.cells.Row.{Row}

-- a cell `Answers k` is the status -k
abbrev cells : PrimeCell → ActivateCell → CancelCell → PowerCell → Row
cells p a c w = record { prime = p; activate = a; cancel = c; power = w }

-- | State | PRIME | ACTIVATE | CANCEL | OFF, ON |
abbrev pub rule_of : State → Row
rule_of Idle = cells prime.Try (activate.Answers 7) (cancel.Answers 0) power.Free
rule_of (Preparing c) = cells (prime.Answers 2) (activate.Answers 7) cancel.Withdraw power.Free
rule_of (HalfPrepared c) = cells prime.TrySame (activate.Answers 7) cancel.ToIdle power.Free
rule_of (Ready c) = cells (prime.Answers 7) activate.Try cancel.ToIdle power.Free
rule_of (Gathering c) = cells (prime.Answers 7) activate.Try cancel.ToIdle power.Frozen
rule_of (Together c) = cells prime.NoCaller activate.NoCaller cancel.NoCaller power.NoCaller
rule_of (Alone c) = cells (prime.Answers 7) activate.Try (cancel.Answers 2) power.Frozen
rule_of (HalfActivated c) = cells (prime.Answers 7) activate.Try cancel.ToIdle power.Frozen
rule_of Dead = cells (prime.Answers 7) (activate.Answers 7) (cancel.Answers 0) power.Free
rule_of (Withdrawn c) = cells (prime.Answers 2) (activate.Answers 7) (cancel.Answers 0) power.Free

-- the code's table has a row for each of the states in order; no state asks for a row past the last: the first cell of each kind
-- there is the kit's reading of an array past its end
abbrev pub row_at : ℕ → Row
row_at i = get_or (map rule_of (in_order 0)) i (cells prime.Try activate.Try cancel.ToIdle power.Free)
