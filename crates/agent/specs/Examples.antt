-- Document 01's bench examples of the agent (marked P), the postponed one, rules that no bench example has, and every refusal of
-- an event: one claim over one list. Assumes nothing.
use Rattle.std.specs.Prelude.{ℕ, ◌+◌, ◌-◌, ◌^◌, ◌≡◌, refl, Bool, true, false, not, ◌&&◌, List, [], ◌∷◌, ◌++◌, eqb, replicate, Err, Ok, Result}
use Rattle.basics.specs.Every.{all_below, all_hold}
use Rattle.basics.specs.Places.{firsts}
use Rattle.codes.specs.Numbers.{version_number, features_number, info_number, inventory_number, prime_number, activate_number, cancel_number, off_number, on_number}
use Rattle.codes.specs.Codes.{is_prime_code, is_activate_code}
use Rattle.cpuset.specs.Bit.{bit}
use Rattle.cpuset.specs.Tally.{tally}
use Rattle.cpuset.specs.Set.{room, has_of, none_of, only_of, union_of, less_of, below_of, same_of, count_of}
use Rattle.board.specs.Description.{blank, numbered_of, is_capable, good_entry, within_limit, judged_of, entry_right}
use Rattle.board.specs.Packed.{writable_of, board_stands}
use Rattle.board.specs.declared.Board.{Board}
use Rattle.board.specs.declared.Component.{Component}
use Rattle.board_record.specs.Record.{place_of, is_pending, fresh_of}
use Rattle.board_record.specs.WellFormed.{powered_stand, image_stands, images_stand, subject_stands, state_stands, held_stand, entry_stands, entries_stand, work_stands, rest_stands, well_formed}
use Rattle.rules.specs.Statuses.{minus_of, number_of}
use Rattle.rules.specs.Numbers.{decode_of}
use Rattle.rules.specs.Calls.{returned, features_of, info_of, lowest_first, described_of, inventory_of, arrival_of, may_prime, try_prime_of, try_same_of, skip_right, fields_right, join_of, try_activate_of, cancel_of, off_free, on_of, answer_of, call_of}
use Rattle.rules.specs.Reports.{activate_allows, prime_report_of, activate_report_of, image_of}
use Rattle.rules.specs.Decide.{decide_of}
use Rattle.rules.specs.declared.Event.{Event}
use Rattle.rules.specs.declared.Event.TheVariants as event
use Rattle.agent.specs.Perform.{refused_of, accepted_of, informed_of, joined_of, settled_of, withdrawn_of, powered_of, reported_of, after_prime, after_activate, imaged_of, is_done, ended_of, released_of}
use Rattle.agent.specs.Numbers.{Said, said_of, refused_with, accepted_with}
use Rattle.agent.specs.Step.{step_of, stepped, after}
use Rattle.agent.specs.declared.Caller.{Caller}
use Rattle.agent.specs.declared.Caller.TheVariants as caller
use Rattle.agent.specs.declared.Answer.{Answer}
use Rattle.rules.specs.declared.Refusal.{Refusal}

-- a board of 4 CPUs: component 0 may reset, component 1 is optional, component 2 is not capable
abbrev part : ℕ → Bool → Bool → Bool → Component
part k able reset optional = record { uuid = firsts 16 (λ j. k + j); capable = able; may_reset = reset; optional = optional; svn = 5 }

abbrev board : Board
board = record {
  components = 3;
  cpus = 4;
  first = 0x1000;
  last = 0x1FFF;
  component = part 0 true true false ∷ part 16 true false true ∷ part 32 false false false ∷ replicate 29 blank;
}

-- ---- events
abbrev call : ℕ → ℕ → ℕ → ℕ → ℕ → ℕ → Event
call cpu x0 x1 x2 x3 x4 = event.Call (record { cpu = cpu; x0 = x0; x1 = x1; x2 = x2; x3 = x3; x4 = x4 })

abbrev image : ℕ → ℕ → Event
image c v = event.Image (record { component = c; version = v })

abbrev primed : ℕ → ℕ → Event
primed c code = event.Prime (record { component = c; code = code })

abbrev activated : ℕ → ℕ → Event
activated c code = event.Activate (record { component = c; code = code })

abbrev info : Event
info = call 0 info_number 0 0 0 0

abbrev prime : ℕ → Event
prime c = call 0 prime_number c 0 0 0

abbrev activate : ℕ → ℕ → Event
activate cpu c = call cpu activate_number c 0 0x1000 0

abbrev switch_on : ℕ → ℕ → Event
switch_on cpu target = call cpu on_number target 0x1FFC 7 0

-- the events that make component c ready
abbrev ready : ℕ → List Event
ready c = image c 5 ∷ prime c ∷ primed c 0 ∷ []

-- ---- answers: 0 and the refusal's number, 1 and X0, or one number for each other caller's part
abbrev told : Caller → List ℕ
told caller.Nothing = 6 ∷ []
told (caller.Returned x) = 1 ∷ x.x0 ∷ []
told caller.Held = 2 ∷ []
told caller.PrimeStarted = 3 ∷ []
told caller.ActivationStarted = 4 ∷ []
told caller.Gone = 5 ∷ []

abbrev answered : Result Answer Refusal → List ℕ
answered (Err x) = 0 ∷ number_of x ∷ []
answered (Ok a) = told a.caller

abbrev same : List ℕ → List ℕ → Bool
same [] [] = true
same [] (y ∷ ys) = false
same (x ∷ xs) [] = false
same (x ∷ xs) (y ∷ ys) = eqb x y && same xs ys

-- what a fresh board answers to an event after others
abbrev answer : List Event → Event → List ℕ
answer es e = answered (stepped (after (fresh_of board) es) e).outcome

abbrev says : List Event → Event → ℕ → Bool
says es e x0 = same (answer es e) (1 ∷ x0 ∷ [])

abbrev refuses : List Event → Event → ℕ → Bool
refuses es e n = same (answer es e) (0 ∷ n ∷ [])

-- X1 and X3 that a call returns
abbrev given : Caller → List ℕ
given caller.Nothing = []
given (caller.Returned x) = x.x1 ∷ x.x3 ∷ []
given caller.Held = []
given caller.PrimeStarted = []
given caller.ActivationStarted = []
given caller.Gone = []

abbrev gives : List Event → Event → List ℕ
gives es e = by (stepped (after (fresh_of board) es) e).outcome
  where
    by : Result Answer Refusal → List ℕ
    by (Err x) = []
    by (Ok a) = given a.caller

abbrev inventory : ℕ → Event
inventory c = call 0 inventory_number c 0 0 0

-- where some events lead: the state's row in the table of rules, and whether component c is pending
abbrev leads : List Event → ℕ → Bool
leads es row = eqb (place_of (after (fresh_of board) es).state) row

abbrev pends : List Event → ℕ → Bool
pends es c = is_pending (after (fresh_of board) es).pending c

-- component 1 primed with this code; component 0 activated by CPU 0, which alone is on; component 1 without rendezvous
abbrev primes : ℕ → List Event
primes code = image 1 5 ∷ prime 1 ∷ primed 1 code ∷ []

abbrev activates : ℕ → List Event
activates code = ready 0 ++ activate 0 0 ∷ activated 0 code ∷ []

abbrev skips : ℕ → List Event
skips code = ready 1 ++ call 0 activate_number 1 1 0 0 ∷ activated 1 code ∷ []

-- component 1 withdrawn by CPU 2 while it is prepared for CPU 0
abbrev cancel : ℕ → ℕ → Event
cancel cpu c = call cpu cancel_number c 0 0 0

abbrev preparing : List Event
preparing = switch_on 0 2 ∷ image 1 5 ∷ prime 1 ∷ []

abbrev withdrawn : List Event
withdrawn = preparing ++ cancel 2 1 ∷ []

-- whom an event releases, with X0 and X1
abbrev frees : List Event → Event → Said
frees es e = said_of (stepped (after (fresh_of board) es) e).outcome

-- with this code it leads to idle, and CPU 0 goes on with -11 and 0
abbrev is_given_up : ℕ → Bool
is_given_up code =
    let s = frees withdrawn (primed 1 code) in
    same_of s.freed.cpus (only_of 0) && (eqb s.freed.x0 (2 ^ 64 - 11) && (eqb s.freed.x1 0 && leads (withdrawn ++ primed 1 code ∷ []) 0))

unfoldable pub examples : List Bool
unfolding all_below firsts bit tally room has_of none_of only_of union_of less_of below_of same_of count_of numbered_of good_entry within_limit judged_of writable_of board_stands fresh_of powered_stand image_stands images_stand subject_stands state_stands held_stand entry_stands entries_stand work_stands rest_stands well_formed minus_of is_capable decode_of returned features_of info_of lowest_first described_of inventory_of arrival_of may_prime try_prime_of try_same_of skip_right fields_right entry_right join_of try_activate_of cancel_of off_free on_of answer_of call_of is_prime_code is_activate_code activate_allows prime_report_of activate_report_of image_of decide_of refused_of accepted_of informed_of joined_of settled_of withdrawn_of powered_of reported_of after_prime after_activate imaged_of is_done ended_of released_of step_of accepted_with refused_with
examples =
    -- Bench 1 and 2: a word that names no function, and FEATURES of one of PSCI's
    says [] (call 0 0xC40002E7 0 0 0 0) (2 ^ 64 - 1)
    ∷ says [] (call 0 features_number off_number 0 0 0) (2 ^ 64 - 1)
    ∷ says [] (call 0 version_number 0 0 0 0) 65536
    -- Bench 3: the first word of a UUID
    ∷ same (gives (info ∷ []) (inventory 0)) (0x0706050403020100 ∷ 5 ∷ [])
    -- Bench 4: GET_INVENTORY of too large an id, without GET_INFO and with it
    ∷ says [] (inventory 99) (2 ^ 64 - 7)
    ∷ says (info ∷ []) (inventory 99) (2 ^ 64 - 8)
    -- flags: capable, pending and optional
    ∷ same (gives (info ∷ image 1 5 ∷ []) (inventory 1)) (0x1716151413121110 ∷ 11 ∷ [])
    -- PRIME of no component, of one that is not capable, and of one with no image
    ∷ says [] (prime 99) (2 ^ 64 - 7)
    ∷ says [] (prime 2) (2 ^ 64 - 7)
    ∷ says [] (prime 1) (2 ^ 64 - 7)
    -- Calls 1 and 3: the upper half of X0 doesn't count, that of X1 to X4 does
    ∷ says [] (call 0 (2 ^ 32 + version_number) 0 0 0 0) 65536
    ∷ says (ready 1) (call 0 cancel_number (2 ^ 32 + 1) 0 0 0) (2 ^ 64 - 8)
    ∷ says (ready 1) (call 0 activate_number 1 (2 ^ 32) 0 0) (2 ^ 64 - 8)
    ∷ says [] (switch_on 0 (2 ^ 32 + 1)) (2 ^ 64 - 2)
    -- Bench 5: an image one below the SVN, and one at it
    ∷ says (image 1 4 ∷ []) (prime 1) (2 ^ 64 - 3)
    ∷ same (answer (image 1 5 ∷ []) (prime 1)) (3 ∷ [])
    -- Bench 6 and 7: ACTIVATE by the only CPU, and by both of two
    ∷ same (answer (ready 0) (activate 0 0)) (4 ∷ [])
    ∷ same (answer (switch_on 0 2 ∷ ready 0) (activate 0 0)) (2 ∷ [])
    ∷ same (answer (switch_on 0 2 ∷ ready 0 ++ activate 0 0 ∷ []) (activate 2 0)) (4 ∷ [])
    -- Bench 8: CPU_ON in gathering
    ∷ says (switch_on 0 2 ∷ ready 0 ++ activate 0 0 ∷ []) (switch_on 2 3) (2 ^ 64 - 6)
    ∷ same_of (after (fresh_of board) (switch_on 0 2 ∷ ready 0 ++ activate 0 0 ∷ switch_on 2 3 ∷ [])).on (union_of (only_of 0) (only_of 2))
    -- Bench 9: CANCEL of 99 in idle and in ready
    ∷ says [] (call 0 cancel_number 99 0 0 0) 0
    ∷ says (ready 1) (call 0 cancel_number 99 0 0 0) (2 ^ 64 - 8)
    -- Bench 10: call again in together
    ∷ refuses (ready 0 ++ activate 0 0 ∷ []) (activated 0 1) 6
    -- Bench 16: one of two CPUs after a postponement
    ∷ same (answer (switch_on 0 2 ∷ ready 0 ++ activate 0 0 ∷ activate 2 0 ∷ activated 0 2 ∷ []) (activate 0 0)) (2 ∷ [])
    -- where the reports lead: idle 0, half-prepared 2, ready 3, half-activated 7, dead 8
    ∷ leads (primes 0) 3
    ∷ leads (primes 1) 2
    ∷ leads (primes 11) 0
    ∷ pends (primes 11) 1
    ∷ leads (activates 12) 0
    ∷ not (pends (activates 12) 0)
    ∷ leads (activates 2) 3
    ∷ leads (activates 5) 8
    ∷ pends (activates 5) 0
    ∷ leads (activates 9) 0
    ∷ pends (activates 9) 0
    ∷ leads (skips 1) 7
    -- a withdrawn preparation: another id, then nobody released and the caller held; again; PRIME, ACTIVATE, CPU_ON, CPU_OFF
    ∷ says preparing (cancel 2 0) (2 ^ 64 - 8)
    ∷ says preparing (cancel 2 1) 0
    ∷ same_of (frees preparing (cancel 2 1)).freed.cpus none_of
    ∷ leads withdrawn 9
    ∷ pends withdrawn 1
    ∷ same_of (after (fresh_of board) withdrawn).held (only_of 0)
    ∷ says withdrawn (cancel 2 0) (2 ^ 64 - 8)
    ∷ says withdrawn (cancel 2 1) 0
    ∷ leads (withdrawn ++ cancel 2 1 ∷ []) 9
    ∷ says withdrawn (call 2 prime_number 1 0 0 0) (2 ^ 64 - 2)
    ∷ says withdrawn (activate 2 1) (2 ^ 64 - 7)
    ∷ says withdrawn (switch_on 2 3) 0
    ∷ same (answer withdrawn (call 2 off_number 0 0 0 0)) (5 ∷ [])
    -- its report, whatever the code that prime allows
    ∷ is_given_up 0
    ∷ is_given_up 1
    ∷ is_given_up 3
    ∷ is_given_up 4
    ∷ is_given_up 6
    ∷ is_given_up 11
    ∷ pends (withdrawn ++ primed 1 0 ∷ []) 1
    ∷ refuses withdrawn (primed 1 2) 6
    ∷ refuses withdrawn (primed 0 0) 5
    ∷ refuses withdrawn (image 1 6) 8
    -- every refusal of an event
    ∷ same (answered (step_of (fresh_of board) info 3 4).outcome) (0 ∷ 1 ∷ [])
    ∷ same (answered (step_of (fresh_of board) info 4 3).outcome) (0 ∷ 1 ∷ [])
    ∷ same (answered (step_of (fresh_of (record { components = 3; cpus = 65; first = 0; last = 0; component = board.component })) info 99 99).outcome) (0 ∷ 9 ∷ [])
    ∷ refuses [] (call 4 version_number 0 0 0 0) 2
    ∷ refuses [] (call 3 version_number 0 0 0 0) 3
    ∷ refuses (image 1 5 ∷ prime 1 ∷ []) (call 0 version_number 0 0 0 0) 4
    ∷ refuses [] (primed 1 0) 5
    ∷ refuses (image 1 5 ∷ prime 1 ∷ []) (primed 1 2) 6
    ∷ refuses [] (image 2 5) 7
    ∷ refuses (ready 1) (image 1 6) 8
    ∷ []

pub examples-hold : all_hold examples ≡ true
unfolding all_hold examples
examples-hold = refl
