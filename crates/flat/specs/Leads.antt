-- A reader of deliveries as numbers and back, and what its functions answer (document 02, request 4). Assumes nothing.
use Rattle.std.specs.Prelude.{ℕ, List, eqb, Err, None, Ok, Option, Result, Some}
use Rattle.basics.specs.Choice.{pick}
use Rattle.log_record.specs.Rules.{number_of}
use Rattle.log_record.specs.declared.LogRecord.{LogRecord}
use Rattle.log_record.specs.declared.Refusal.{Refusal as LogRefusal}
use Rattle.log_record.specs.declared.Refusal.TheVariants.{TooShort, UnusedBit, Unknown, OutsideLimits, NoRoom}
use Rattle.log_book.specs.Log.{blank, flaw}
use Rattle.deliveries.specs.Lead.{opened_of}
use Rattle.deliveries.specs.Taken.{taken_of, closing_of}
use Rattle.deliveries.specs.Numbers.{refusal_given, place_given, refusal_ended, place_ended, records_ended}
use Rattle.deliveries.specs.declared.Standing.{Standing}
use Rattle.deliveries.specs.declared.Standing.TheVariants.{Open, Closed, Refused}
use Rattle.deliveries.specs.declared.Refusal.{Refusal}
use Rattle.deliveries.specs.declared.Refusal.TheVariants.{NoReader, AfterClose, Log}
use Rattle.deliveries.specs.declared.Lead.{Lead}
use Rattle.deliveries.specs.declared.Taken.{Taken}
use Rattle.deliveries.specs.declared.Closing.{Closing}
use Rattle.flat.specs.declared.FlatLead.{FlatLead}
use Rattle.flat.specs.declared.FlatTaken.{FlatTaken}
use Rattle.flat.specs.declared.FlatClosed.{FlatClosed}

-- ---- standings: 0 open, 1 closed well, 2 refused, with the refusal's number and its place

abbrev pub standing_number : Standing → ℕ
standing_number Open = 0
standing_number Closed = 1
standing_number (Refused f) = 2

abbrev pub standing_refusal : Standing → ℕ
standing_refusal Open = 0
standing_refusal Closed = 0
standing_refusal (Refused f) = number_of f.refusal

abbrev pub standing_place : Standing → ℕ
standing_place Open = 0
standing_place Closed = 0
standing_place (Refused f) = f.place

unfoldable pub flat_lead : Lead → FlatLead
flat_lead l = record { standing = standing_number l.standing; refusal = standing_refusal l.standing; place = standing_place l.standing; records = l.records; length = l.length; kept = l.kept }

-- and back: whatever else is a writer's refusal, at which no reader stands
abbrev pub refusal_in : ℕ → LogRefusal
refusal_in n =
    pick (eqb n 30) TooShort
    (pick (eqb n 31) UnusedBit
    (pick (eqb n 32) Unknown
    (pick (eqb n 33) OutsideLimits
    NoRoom)))

abbrev pub nobodys : Standing
nobodys = Refused (flaw NoRoom 0)

-- without a refusal there is no number and no place of one
abbrev pub unrefused_in : ℕ → Standing
unrefused_in n = pick (eqb n 0) Open (pick (eqb n 1) Closed nobodys)

unfoldable pub standing_in : ℕ → ℕ → ℕ → Standing
standing_in n refusal place =
    pick (eqb n 2) (Refused (flaw (refusal_in refusal) place))
    (pick (eqb refusal 0) (pick (eqb place 0) (unrefused_in n)
    nobodys)
    nobodys)

unfoldable pub lead_in : FlatLead → Lead
lead_in f = record { standing = standing_in f.standing f.refusal f.place; records = f.records; length = f.length; kept = f.kept }

-- ---- answers

-- the reader after it; one that no reader is stays as it was given
abbrev pub lead_after : {A : Type 0} → Result A Refusal → FlatLead → Lead → FlatLead
lead_after (Err NoReader) f l = f
lead_after (Err AfterClose) f l = flat_lead l
lead_after (Err (Log x)) f l = flat_lead l
lead_after (Ok x) f l = flat_lead l

-- 1 where a record is given, and the record; zeros where none is
abbrev pub count_given : Result (Option LogRecord) Refusal → ℕ
count_given (Ok None) = 0
count_given (Ok (Some r)) = 1
count_given (Err x) = 0

abbrev pub record_given : Result (Option LogRecord) Refusal → LogRecord
record_given (Ok None) = blank
record_given (Ok (Some r)) = r
record_given (Err x) = blank

unfoldable pub taken_by : FlatLead → Taken → FlatTaken
taken_by f t = record { lead = lead_after t.given f t.lead; refusal = refusal_given t.given; place = place_given t.given; used = t.used; given = count_given t.given; rec = record_given t.given }

unfoldable pub closed_by : FlatLead → Closing → FlatClosed
closed_by f c = record { lead = lead_after c.ending f c.lead; refusal = refusal_ended c.ending; place = place_ended c.ending; records = records_ended c.ending }

-- ---- the functions

abbrev pub opened_in : FlatLead
opened_in = flat_lead opened_of

unfoldable pub taken_in : FlatLead → List ℕ → FlatTaken
taken_in f d = taken_by f (taken_of (lead_in f) d)

unfoldable pub closed_in : FlatLead → FlatClosed
closed_in f = closed_by f (closing_of (lead_in f))
