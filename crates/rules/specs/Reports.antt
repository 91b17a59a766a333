-- What reports and images call for (document 01, "Reports" and "Events and what they answer"). Assumes nothing.
use Rattle.std.specs.Prelude.{ℕ, Bool, not, ◌&&◌, [], ◌∷◌, eqb}
use Rattle.basics.specs.Choice.{pick}
use Rattle.basics.specs.Every.{one_of}
use Rattle.codes.specs.Codes.{by_reset, is_prime_code, is_activate_code}
use Rattle.board.specs.Description.{is_capable, may_reset_at}
use Rattle.board_record.specs.Record.{is_for, place_of, together_place, alone_place, has_prime_job, is_withdrawn, is_alone}
use Rattle.board_record.specs.declared.Record.{Record}
use Rattle.board_record.specs.declared.State.{State}
use Rattle.rules.specs.declared.Report.{Report}
use Rattle.rules.specs.declared.Image.{Image}
use Rattle.rules.specs.declared.Refusal.TheVariants.{NoSuchJob, CodeNotAllowed, NotCapable, StateComponent}
use Rattle.rules.specs.declared.Move.{Move}
use Rattle.rules.specs.declared.Move.TheVariants.{Refuse, EndPrime, EndWithdrawn, EndActivate, NoteImage}

-- "preparing (job)" (Calls 12), and withdrawn (request 3): a prime job is running for component id
abbrev pub is_priming : State → ℕ → Bool
is_priming s id = has_prime_job s && is_for s id

-- "together (job)", "alone (job)" (Calls 16 and 17): an activate job is
abbrev pub is_activating : State → ℕ → Bool
is_activating s id = one_of (place_of s) (together_place ∷ alone_place ∷ []) && is_for s id

-- where 12 is allowed (Reports 4): an activate job that is not in alone is in together
abbrev pub resumes_of : Bool → Bool → Bool
resumes_of alone reset = not alone && reset

-- what "Activate allows" (Reports 4)
unfoldable pub activate_allows : Bool → Bool → ℕ → Bool
activate_allows alone reset code =
    pick (eqb code 1) alone
    (pick (eqb code by_reset) (resumes_of alone reset)
    (is_activate_code code))

-- a withdrawn preparation ends as such with "Any allowed prime report" (request 3)
abbrev pub ending_of : State → Report → Move
ending_of s p = pick (is_withdrawn s) EndWithdrawn (EndPrime p)

-- 5, then 6 (Events 12)
unfoldable pub prime_report_of : Record → Report → Move
prime_report_of r p =
    pick (is_priming r.state p.component)
    (pick (is_prime_code p.code) (ending_of r.state p)
    (Refuse CodeNotAllowed))
    (Refuse NoSuchJob)

unfoldable pub activate_report_of : Record → Report → Move
activate_report_of r p =
    pick (is_activating r.state p.component)
    (pick (activate_allows (is_alone r.state) (may_reset_at r.board p.component) p.code) (EndActivate p)
    (Refuse CodeNotAllowed))
    (Refuse NoSuchJob)

-- 7, then 8 (Events 13)
unfoldable pub image_of : Record → Image → Move
image_of r i =
    pick (is_capable r.board i.component)
    (pick (is_for r.state i.component) (Refuse StateComponent)
    (NoteImage i))
    (Refuse NotCapable)
