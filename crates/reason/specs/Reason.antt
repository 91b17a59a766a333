-- Why an ACTIVATE is answered as it is: the rules of ACTIVATE (document 01, "Calls", from Calls 10 to 25) read once more as reasons, of
-- which the first that applies is given (document 02, request 1). (H) marks a house choice. Assumes nothing.
use Rattle.std.specs.Prelude.{ℕ, true, not, ◌&&◌, List, [], ◌∷◌, ◌++◌, eqb}
use Rattle.basics.specs.First.{RowOf, first_in}
use Rattle.codes.specs.Numbers.{activate_number}
use Rattle.codes.specs.declared.Call.{Call}
use Rattle.cpuset.specs.Set.{without_of, less_of}
use Rattle.cpuset.specs.declared.CpuSet.{CpuSet}
use Rattle.board.specs.Description.{numbered_of, entry_right}
use Rattle.board_record.specs.Record.{idle_place, preparing_place, half_prepared_place, dead_place, withdrawn_place, place_of, subject_number, is_for, is_gathering, is_alone, skips_rendezvous}
use Rattle.board_record.specs.declared.Record.{Record}
use Rattle.board_record.specs.declared.State.{State}
use Rattle.rules.specs.Calls.{skips, other_flags, all_present}
use Rattle.reason.specs.declared.Activate.{Activate}
use Rattle.reason.specs.declared.Reason.{Reason}
use Rattle.reason.specs.declared.Reason.TheVariants.{NothingPrepared, BeingPrepared, HalfPrepared, BoardDead, WasWithdrawn, OtherComponent, OtherFlags, NotOptional, SkipInGathering, NoSkip, BadEntry, BeingActivated, Skipped, Held, AllPresent}

-- the call that is asked about
unfoldable pub call_of : Activate → Call
call_of a = record { cpu = a.cpu; x0 = activate_number; x1 = a.x1; x2 = a.x2; x3 = a.x3; x4 = a.x4 }

-- "the CPUs powered, not held and not the caller"
unfoldable pub missing_of : Record → ℕ → CpuSet
missing_of r cpu = less_of (without_of r.on cpu) r.held

-- a reason, and whether its rule applies
abbrev pub Rule : Type 0
Rule = RowOf Reason

-- -7, by the state (the column ACTIVATE of the table, Calls 11 to 19; withdrawn: request 3)
abbrev pub state_rows : State → List Rule
state_rows s =
    (NothingPrepared, eqb (place_of s) idle_place)
    ∷ (BeingPrepared (subject_number s), eqb (place_of s) preparing_place)
    ∷ (HalfPrepared (subject_number s), eqb (place_of s) half_prepared_place)
    ∷ (BoardDead, eqb (place_of s) dead_place)
    ∷ (WasWithdrawn (subject_number s), eqb (place_of s) withdrawn_place)
    ∷ []

-- -8 (Calls 21): the id, then the flags
abbrev pub ask_rows : Record → Activate → List Rule
ask_rows r a =
    (OtherComponent (subject_number r.state), not (is_for r.state a.x1))
    ∷ (OtherFlags, other_flags (call_of a))
    ∷ []

-- then skip: on a component that isn't optional, in gathering; none in alone or half-activated (H)
abbrev pub skip_rows : Record → Activate → List Rule
skip_rows r a =
    (NotOptional, skips (call_of a) && not (numbered_of r.board a.x1).optional)
    ∷ (SkipInGathering, skips (call_of a) && is_gathering r.state)
    ∷ (NoSkip, not (skips (call_of a)) && skips_rendezvous r.state)
    ∷ []

-- -10 (Calls 22, H), then -2 (Calls 23)
abbrev pub answer_rows : Record → Activate → List Rule
answer_rows r a =
    (BadEntry, not (entry_right r.board a.x1 a.x3))
    ∷ (BeingActivated (subject_number r.state), is_alone r.state)
    ∷ []

-- then skip starts (Calls 24); without it the caller is held, unless all powered CPUs now are (Calls 25)
abbrev pub join_rows : Record → Activate → List Rule
join_rows r a =
    (Skipped, skips (call_of a))
    ∷ (Held (missing_of r a.cpu), not (all_present r a.cpu))
    ∷ (AllPresent, true)
    ∷ []

abbrev pub reason_rows : Record → Activate → List Rule
reason_rows r a = state_rows r.state ++ (ask_rows r a ++ (skip_rows r a ++ (answer_rows r a ++ join_rows r a)))

-- "the first rule of document 01 that applies"; the last of them always does
unfoldable pub reason_of : Record → Activate → Reason
reason_of r a = first_in AllPresent (reason_rows r a)
