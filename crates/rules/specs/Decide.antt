-- What an event calls for: the rules in their order of precedence (document 01, "Events and what they answer").
-- Assumes nothing.
use Rattle.std.specs.Prelude.{ℕ, ltb, Err, Ok, Result}
use Rattle.basics.specs.Choice.{pick}
use Rattle.board_record.specs.WellFormed.{well_formed}
use Rattle.board_record.specs.declared.Record.{Record}
use Rattle.rules.specs.Calls.{call_of}
use Rattle.rules.specs.Reports.{prime_report_of, activate_report_of, image_of}
use Rattle.rules.specs.declared.Event.{Event}
use Rattle.rules.specs.declared.Event.TheVariants as event
use Rattle.rules.specs.declared.Refusal.{Refusal}
use Rattle.rules.specs.declared.Refusal.TheVariants.{NotWellFormed, TableShort}
use Rattle.rules.specs.declared.Move.{Move}
use Rattle.rules.specs.declared.Move.TheVariants.{Refuse}

-- 9, then 1 (Events 9 and 10), else what is given
abbrev pub admitted : {A : Type 0} → (Refusal → A) → Record → ℕ → ℕ → A → A
admitted refuse r entry_places context_places given =
    pick (well_formed r)
    (pick (ltb entry_places r.board.cpus) (refuse TableShort)
    (pick (ltb context_places r.board.cpus) (refuse TableShort)
    given))
    (refuse NotWellFormed)

unfoldable pub admission_of : Record → ℕ → ℕ → Result Unit Refusal
admission_of r entry_places context_places = admitted Err r entry_places context_places (Ok tt)

-- 2 to 8, and what is not refused
abbrev pub event_of : Record → Event → Move
event_of r (event.Call call) = call_of r call
event_of r (event.Prime p) = prime_report_of r p
event_of r (event.Activate p) = activate_report_of r p
event_of r (event.Image i) = image_of r i

unfoldable pub decide_of : Record → Event → ℕ → ℕ → Move
decide_of r e entry_places context_places = admitted Refuse r entry_places context_places (event_of r e)
