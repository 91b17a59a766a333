-- The rows by place, which the code's table has (`row_at`), are the rules of the states: one test over the whole table. Assumes
-- nothing.
use mathlib.Core.Path.{◌≡◌, refl}
use Rattle.board_record.specs.declared.State.{State}
use Rattle.board_record.specs.Record.{place_of}
use Rattle.board_record.proofs.States.{every-state, place-below}
use Rattle.rules.specs.Table.{row_at, rule_of}

pub row-rule : (s : State) → row_at (place_of s) ≡ rule_of s
row-rule = every-state (λ s. row_at (place_of s)) rule_of (λ c. refl)

-- what the check cites of `rule`
pub ruleset rows = (row-rule, place-below)
