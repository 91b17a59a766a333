-- The facts of Facts.antt hold where their moves are decided: each rule is gone along once, and its tests on the way are the facts.
-- Assumes nothing.
use Rattle.std.specs.Prelude.{None, Option, Some}
use Prim.Native.Nat.{ℕ, ◌-◌, ◌^◌, ◌<◌, ◌≤◌}
use mathlib.Core.Path.{◌≡◌, refl, sym, ap, ◌∙◌}
use mathlib.Core.Bool.{Bool, true, false, not, ◌&&◌, ◌||◌}
use mathlib.Core.Logic.{⊎_elim}
use native.Mathlib.Omega.{arith}
use lib.Dec.{eqb, leb, ltb}
use borrow.Author.Tests.{leb-false, ltb-false, eqb-true, eqb-false, not-true}
use Rattle.basics.specs.Choice.{pick, not-both, refuted, and_left, and_right, never}
use Rattle.basics.proofs.Choice.{pick-cases}
use Rattle.codes.specs.Numbers.{version_number, cancel_number, on_number, function_number}
use Rattle.codes.specs.Codes.{is_prime_code}
use Rattle.codes.specs.declared.Call.{Call}
use Rattle.cpuset.specs.Set.{has_of, only_of, with_of, same_of}
use Rattle.board.specs.Description.{numbered_of, is_capable, may_reset_at, good_entry, entry_right}
use Rattle.board_record.specs.Record.{is_for, holding_of, skips_rendezvous, is_gathering, is_alone, is_pending, version_of, is_withdrawn}
use Rattle.board_record.specs.WellFormed.{well_formed}
use Rattle.board_record.proofs.Clauses.{told, none_free}
use Rattle.board_record.specs.declared.Holding.TheVariants.{All}
use Rattle.board_record.specs.declared.Record.{Record}
use Rattle.rules.specs.Statuses.{minus_of, number_of}
use Rattle.rules.specs.Numbers.{number_for, decode_of}
use Rattle.rules.specs.Table.{rule_of}
use Rattle.rules.specs.Calls.{returned, says, no_caller, features_of, info_of, described_of, inventory_of, arrival_of, may_prime, try_prime_of, try_same_of, prime_by, skips, skip_right, fields_right, join_of, try_activate_of, activate_by, is_other, cancel_by, cancel_of, off_free, off_by, wake_by, on_of, function_of, answer_by, answer_of, call_of}
use Rattle.rules.specs.Reports.{is_priming, is_activating, activate_allows, ending_of, prime_report_of, activate_report_of, image_of}
use Rattle.rules.specs.Decide.{event_of, decide_of}
use Rattle.rules.specs.declared.Event.{Event}
use Rattle.rules.specs.declared.Event.TheVariants as event
use Rattle.rules.specs.declared.Image.{Image}
use Rattle.rules.specs.declared.Move.{Move}
use Rattle.rules.specs.declared.Move.TheVariants.{Refuse, Return, NoteInfo, StartPrime, Gather, StartTogether, StartAlone, ToIdle, Withdraw, PowerOff, PowerOn, EndPrime, EndWithdrawn, EndActivate, NoteImage}
use Rattle.rules.specs.declared.Refusal.{Refusal}
use Rattle.rules.specs.declared.Refusal.TheVariants.{NotWellFormed}
use Rattle.rules.specs.declared.Registers.{Registers}
use Rattle.rules.specs.declared.Report.{Report}
use Rattle.rules.specs.declared.cells.PrimeCell.{PrimeCell}
use Rattle.rules.specs.declared.cells.PrimeCell.TheVariants as prime
use Rattle.rules.specs.declared.cells.ActivateCell.{ActivateCell}
use Rattle.rules.specs.declared.cells.ActivateCell.TheVariants as activate
use Rattle.rules.specs.declared.cells.CancelCell.{CancelCell}
use Rattle.rules.specs.declared.cells.CancelCell.TheVariants as cancel
use Rattle.rules.specs.declared.cells.PowerCell.{PowerCell}
use Rattle.rules.specs.declared.cells.PowerCell.TheVariants as power
use Rattle.rules.specs.declared.numbers.Function.{Function}
use Rattle.rules.specs.declared.numbers.Function.TheVariants as function
use Rattle.rules.proofs.States.{Primable, Tried, Vacant, PowerFree, PrimeSays, ActivateSays, CancelSays, PowerSays, row-says, jobs, gatherable, skippable}
use Rattle.rules.proofs.Facts.{Called, Asks, Joins, Facts}

-- the facts behind a name, so that a proof goes along a rule without opening it
unfoldable Guard : Record → Event → Move → Type 0
Guard r e m = Facts r e m

made : (r : Record) (e : Event) (m : Move) → Facts r e m → Guard r e m
unfolding Guard
made r e m f = f

opened : (r : Record) (e : Event) (m : Move) → Guard r e m → Facts r e m
unfolding Guard
opened r e m g = g

-- a refusal with another number
other : (r : Record) (e : Event) (x : Refusal) → eqb (number_of x) 9 ≡ false → Guard r e (Refuse x)
other r e x d = made r e (Refuse x) (λ q. absurd (eqb-false _ _ d q))

-- ---- calls

-- a status is a word
pub minus-word : (k : ℕ) → minus_of k < 2 ^ 64
unfolding minus_of
minus-word k =
    pick-cases (λ n. n < 2 ^ 64) (eqb k 0) 0 (2 ^ 64 - k) (λ t. omega arith) (λ f. let d = eqb-false k 0 f in omega arith)

-- the functions whose success the record shows, and so the log
abbrev tells : Option Function → Bool
tells (Some f) = eqb (number_for f) cancel_number || eqb (number_for f) on_number
tells None = false

passed : (stop ok : Bool) → pick stop false ok ≡ true → (stop ≡ false) × (ok ≡ true)
passed true ok e = absurd (not-both refl (sym e))
passed false ok e = (refl, e)

-- an accepted call; all that follows is about what it asks for
module _ (r : Record) (e : Event) (by : Called r e) where
  abbrev call : Call
  call = by.call

  -- where all are held there is no caller
  nobody-calls : holding_of r.state ≡ All → Guard r e no_caller
  nobody-calls h = made r e no_caller λ q. refuted (well_formed r) λ w. none_free r (told r w) h call.cpu by.powered by.free

  -- it returns, and was neither CANCEL nor CPU_ON
  plain : (d : Option Function) (x : Registers) → x.x0 < 2 ^ 64 → decode_of (function_number call.x0) ≡ d → tells d ≡ false → Guard r e (Return x)
  plain d x l a n = made r e (Return x) (record {
    by = by;
    word = l;
    cancelled = λ c z. absurd (not-both (ap tells (sym a ∙ c)) n);
    switched = λ c z. not-both (ap tells (sym a ∙ c)) n;
  })

  told-plain : (d : Option Function) (x0 : ℕ) → x0 < 2 ^ 64 → decode_of (function_number call.x0) ≡ d → tells d ≡ false → Guard r e (returned x0)
  unfolding returned
  told-plain d x0 l a n = plain d (record { x0 = x0; x1 = 0; x2 = 0; x3 = 0 }) l a n

  said : (d : Option Function) (k : ℕ) → decode_of (function_number call.x0) ≡ d → tells d ≡ false → Guard r e (says k)
  said d k a n = told-plain d (minus_of k) (minus-word k) a n

  features-guard : Asks call function.Features → Guard r e (features_of call.x1)
  unfolding features_of
  features-guard a =
      pick-cases (Guard r e) (leb version_number call.x1 && leb call.x1 cancel_number) _ _ (λ t. said _ _ a refl) (λ t. said _ _ a refl)

  info-guard : Asks call function.GetInfo → Guard r e (info_of call.x1)
  unfolding info_of
  info-guard a = pick-cases (Guard r e) (eqb call.x1 0) _ _ (λ t. made r e NoteInfo (record { by = by; asks = a })) (λ t. said _ _ a refl)

  described : (pending : Bool) → Asks call function.GetInventory → Guard r e (Return (described_of (numbered_of r.board call.x1) pending))
  unfolding described_of
  described pending a = plain _ _ (omega arith) a refl

  inventory-guard : Asks call function.GetInventory → Guard r e (inventory_of r call.x1)
  unfolding inventory_of
  inventory-guard a =
      pick-cases (Guard r e) r.informed _ _
      (λ t. pick-cases (Guard r e) (ltb call.x1 r.board.components) _ _ (λ u. described (is_pending r.pending call.x1) a) (λ u. said _ _ a refl))
      (λ t. said _ _ a refl)

  primes : Asks call function.Prime → Primable r.state call.x1 → may_prime r call.x1 ≡ true
      → ltb (version_of r.version call.x1) (numbered_of r.board call.x1).svn ≡ false → Guard r e (StartPrime (arrival_of call false))
  unfolding may_prime
  primes a s m t =
      let x = is_capable r.board call.x1 in
      let y = is_pending r.pending call.x1 in
      made r e (StartPrime (arrival_of call false)) (record {
        by = by;
        asks = a;
        arrival = refl;
        state = s;
        capable = and_left x y m;
        pending = and_right x y m;
        enough = ltb-false _ _ t;
      })

  try-prime : Asks call function.Prime → Primable r.state call.x1 → Guard r e (try_prime_of r call)
  unfolding try_prime_of
  try-prime a s =
      pick-cases (Guard r e) (may_prime r call.x1) _ _
      (λ m. pick-cases (Guard r e) (ltb (version_of r.version call.x1) (numbered_of r.board call.x1).svn) _ _
      (λ t. said _ _ a refl) (primes a s m))
      (λ m. said _ _ a refl)

  prime-guard : Asks call function.Prime → (x : PrimeCell) → PrimeSays x r.state call.x1 → Guard r e (prime_by x r call)
  unfolding try_same_of
  prime-guard a prime.Try s = try-prime a s
  prime-guard a prime.TrySame s = pick-cases (Guard r e) (is_for r.state call.x1) _ _ (λ t. try-prime a (s t)) (λ t. said _ _ a refl)
  prime-guard a (prime.Answers k) s = said _ _ a refl
  prime-guard a prime.NoCaller s = nobody-calls s

  -- what the fields of an ACTIVATE passed
  fields : fields_right r call ≡ true → (is_for r.state call.x1 ≡ true) × (call.x2 ≤ 1)
      × (skip_right (numbered_of r.board call.x1) r.state (skips call) ≡ true)
  unfolding fields_right
  fields f =
      let mine = is_for r.state call.x1 in
      let fits = skip_right (numbered_of r.board call.x1) r.state (skips call) in
      let g = passed (ltb 1 call.x2) fits (and_right mine (pick (ltb 1 call.x2) false fits) f) in
      (and_left mine _ f, ltb-false _ _ g.0, g.1)

  -- where they passed
  module _ (a : Asks call function.Activate) (t : Tried r.state) (f : fields_right r call ≡ true) where
    skips-guard : is_alone r.state ≡ false → skips call ≡ true → Guard r e (StartAlone (arrival_of call false))
    unfolding skip_right
    skips-guard n k =
        let g = fields f in
        let h = passed (is_gathering r.state) (numbered_of r.board call.x1).optional (rw k at g.2) in
        made r e (StartAlone (arrival_of call false)) (record {
          by = by;
          asks = a;
          arrival = refl;
          state = skippable call.x1 t g.0 n h.0;
          flags = eqb-true _ _ k;
          optional = h.1;
        })

    joins : entry_right r.board call.x1 call.x3 ≡ true → skips call ≡ false → (all : Bool) → same_of (with_of r.held call.cpu) r.on ≡ all
        → Joins r e (arrival_of call (may_reset_at r.board call.x1)) all
    unfolding skip_right
    joins entry k all p =
        let g = fields f in
        let h : not (skips_rendezvous r.state) ≡ true = rw k at g.2 in
        let ne = eqb-false call.x2 1 k in
        let le = g.1 in
        record {
          by = by;
          asks = a;
          arrival = refl;
          state = gatherable call.x1 t g.0 (not-true _ h);
          flags = omega arith;
          entry = entry;
          present = p;
        }

    join-guard : entry_right r.board call.x1 call.x3 ≡ true → skips call ≡ false → Guard r e (join_of r call)
    unfolding join_of
    join-guard entry k =
        pick-cases (Guard r e) (same_of (with_of r.held call.cpu) r.on) _ _
        (λ p. made r e (StartTogether _) (joins entry k true p)) (λ p. made r e (Gather _) (joins entry k false p))

  try-activate : Asks call function.Activate → Tried r.state → Guard r e (try_activate_of r call)
  unfolding try_activate_of
  try-activate a t =
      pick-cases (Guard r e) (fields_right r call) _ _
      (λ f. pick-cases (Guard r e) (entry_right r.board call.x1 call.x3) _ _
      (λ g. pick-cases (Guard r e) (is_alone r.state) _ _ (λ n. said _ _ a refl)
      (λ n. pick-cases (Guard r e) (skips call) _ _ (skips-guard a t f n) (join-guard a t f g)))
      (λ g. said _ _ a refl))
      (λ f. said _ _ a refl)

  activate-guard : Asks call function.Activate → (x : ActivateCell) → ActivateSays x r.state → Guard r e (activate_by x r call)
  activate-guard a activate.Try s = try-activate a s
  activate-guard a (activate.Answers k) s = said _ _ a refl
  activate-guard a activate.NoCaller s = nobody-calls s

  -- a status that is not 0
  denied : (k : ℕ) → eqb (minus_of k) 0 ≡ false → Guard r e (says k)
  unfolding returned
  denied k d =
      made r e (Return _) (record { by = by; word = minus-word k; cancelled = λ c z. absurd (eqb-false _ _ d z); switched = λ c z. eqb-false _ _ d z })

  -- one of a CANCEL that finds nothing to end
  nothing : Asks call function.Cancel → (k : ℕ) → Vacant r.state → Guard r e (says k)
  unfolding returned
  nothing a k v = made r e (Return _) (record { by = by; word = minus-word k; cancelled = λ c z. v; switched = λ c z. let q = sym a ∙ c in never cc })

  cancel-cell : Asks call function.Cancel → is_other r.state call.x1 ≡ false → (x : CancelCell) → CancelSays x r.state call.x1 → Guard r e (cancel_by x call.x1)
  unfolding minus_of
  cancel-cell a o cancel.ToIdle s = made r e ToIdle (record { by = by; asks = a; state = s o })
  cancel-cell a o cancel.Withdraw s = made r e (Withdraw _) (record { by = by; asks = a; state = s o })
  cancel-cell a o (cancel.Answers k) s = ⊎_elim (nothing a k) (λ q. rw q (denied 2 refl)) s
  cancel-cell a o cancel.NoCaller s = nobody-calls s

  cancel-guard : Asks call function.Cancel → CancelSays (rule_of r.state).cancel r.state call.x1 → Guard r e (cancel_of r call)
  unfolding cancel_of minus_of
  cancel-guard a s =
      pick-cases (Guard r e) (is_other r.state call.x1) _ _ (λ o. denied 8 refl) (λ o. cancel-cell a o (rule_of r.state).cancel s)

  off-free : Asks call function.CpuOff → PowerFree r.state → Guard r e (off_free r call.cpu)
  unfolding off_free
  off-free a l =
      pick-cases (Guard r e) (same_of r.on (only_of call.cpu)) _ _ (λ t. said _ _ a refl)
      (λ t. made r e (PowerOff call.cpu) (record { by = by; asks = a; caller = refl; power = l; others = t }))

  off-guard : Asks call function.CpuOff → (x : PowerCell) → PowerSays x r.state → Guard r e (off_by x r call.cpu)
  off-guard a power.Free s = off-free a s
  off-guard a power.Frozen s = said _ _ a refl
  off-guard a power.NoCaller s = nobody-calls s

  -- a target that exists, is off and has a good entry
  module _ (a : Asks call function.CpuOn) (l : call.x1 < r.board.cpus)
      (g : good_entry r.board.first r.board.last call.x2 ≡ true) (o : has_of r.on call.x1 ≡ false) where
    wakes : PowerFree r.state → Guard r e (PowerOn (record { target = call.x1; entry = call.x2; context = call.x3 }))
    wakes f = made r e (PowerOn _) (record { by = by; asks = a; target = refl; exists = l; off = o; entry = g; power = f })

    wake-guard : (x : PowerCell) → PowerSays x r.state → Guard r e (wake_by x call)
    unfolding minus_of
    wake-guard power.Free s = wakes s
    wake-guard power.Frozen s = denied 6 refl
    wake-guard power.NoCaller s = nobody-calls s

  on-guard : Asks call function.CpuOn → PowerSays (rule_of r.state).power r.state → Guard r e (on_of r call)
  unfolding on_of minus_of
  on-guard a s =
      pick-cases (Guard r e) (leb r.board.cpus call.x1) _ _ (λ t. denied 2 refl)
      (λ l. pick-cases (Guard r e) (good_entry r.board.first r.board.last call.x2) _ _
      (λ g. pick-cases (Guard r e) (has_of r.on call.x1) _ _ (λ t. denied 4 refl)
      (λ o. wake-guard a (leb-false _ _ l) g o (rule_of r.state).power s))
      (λ g. denied 9 refl))

  function-guard : (f : Function) → Asks call f → Guard r e (function_of r call f)
  function-guard function.Version a = told-plain _ _ (omega arith) a refl
  function-guard function.Features a = features-guard a
  function-guard function.GetInfo a = info-guard a
  function-guard function.GetInventory a = inventory-guard a
  function-guard function.Prime a = prime-guard a (rule_of r.state).prime (row-says r.state call.x1).0
  function-guard function.Activate a = activate-guard a (rule_of r.state).activate (row-says r.state call.x1).1
  function-guard function.Cancel a = cancel-guard a (row-says r.state call.x1).2
  function-guard function.CpuOff a = off-guard a (rule_of r.state).power (row-says r.state call.x1).3
  function-guard function.CpuOn a = on-guard a (row-says r.state call.x1).3

  answer-guard : (d : Option Function) → decode_of (function_number call.x0) ≡ d → Guard r e (answer_by d r call)
  answer-guard (Some f) a = function-guard f a
  answer-guard None a = said _ _ a refl

-- ---- every event
module _ (r : Record) where
  call-guard : (call : Call) → Guard r (event.Call call) (call_of r call)
  unfolding call_of answer_of
  call-guard call =
      let e = event.Call call in
      pick-cases (Guard r e) (leb r.board.cpus call.cpu) _ _ (λ t. other r e _ refl)
      (λ l. pick-cases (Guard r e) (has_of r.on call.cpu) _ _
      (λ p. pick-cases (Guard r e) (has_of r.held call.cpu) _ _ (λ t. other r e _ refl)
      (λ q. answer-guard r e (record { call = call; event = refl; exists = leb-false _ _ l; powered = p; free = q }) _ refl))
      (λ p. other r e _ refl))

  ending-guard : (p : Report) → is_priming r.state p.component ≡ true → is_prime_code p.code ≡ true → Guard r (event.Prime p) (ending_of r.state p)
  ending-guard p t u =
      let e = event.Prime p in
      let running = (jobs r.state p.component).0 t in
      pick-cases (Guard r e) (is_withdrawn r.state) _ _
      (λ w. made r e EndWithdrawn (record { report = p; event = refl; running = rw w at running; allowed = u }))
      (λ w. made r e (EndPrime p) (record { event = refl; running = rw w at running; allowed = u }))

  prime-report-guard : (p : Report) → Guard r (event.Prime p) (prime_report_of r p)
  unfolding prime_report_of
  prime-report-guard p =
      let e = event.Prime p in
      pick-cases (Guard r e) (is_priming r.state p.component) _ _
      (λ t. pick-cases (Guard r e) (is_prime_code p.code) _ _ (ending-guard p t) (λ u. other r e _ refl))
      (λ t. other r e _ refl)

  activate-report-guard : (p : Report) → Guard r (event.Activate p) (activate_report_of r p)
  unfolding activate_report_of
  activate-report-guard p =
      let e = event.Activate p in
      pick-cases (Guard r e) (is_activating r.state p.component) _ _
      (λ t. pick-cases (Guard r e) (activate_allows (is_alone r.state) (may_reset_at r.board p.component) p.code) _ _
      (λ u. made r e (EndActivate p) (record { event = refl; running = (jobs r.state p.component).1 t; allowed = u })) (λ u. other r e _ refl))
      (λ t. other r e _ refl)

  image-guard : (i : Image) → Guard r (event.Image i) (image_of r i)
  unfolding image_of
  image-guard i =
      let e = event.Image i in
      pick-cases (Guard r e) (is_capable r.board i.component) _ _
      (λ t. pick-cases (Guard r e) (is_for r.state i.component) _ _ (λ u. other r e _ refl)
      (λ u. made r e (NoteImage i) (record { event = refl; capable = t; other = u })))
      (λ t. other r e _ refl)

  event-guard : (e : Event) → Guard r e (event_of r e)
  event-guard (event.Call call) = call-guard call
  event-guard (event.Prime p) = prime-report-guard p
  event-guard (event.Activate p) = activate-report-guard p
  event-guard (event.Image i) = image-guard i

-- and what is decided before the rules of the event are only refusals
guarded : (r : Record) (e : Event) (entries contexts : ℕ) → Guard r e (decide_of r e entries contexts)
unfolding decide_of
guarded r e entries contexts =
    pick-cases (Guard r e) (well_formed r) _ _
    (λ w. pick-cases (Guard r e) (ltb entries r.board.cpus) _ _ (λ t. other r e _ refl)
    (λ t. pick-cases (Guard r e) (ltb contexts r.board.cpus) _ _ (λ u. other r e _ refl) (λ u. event-guard r e)))
    (λ w. made r e (Refuse NotWellFormed) (λ q. w))

-- so where a move is decided its facts hold
pub decide-guard : (r : Record) (e : Event) (entries contexts : ℕ) → Facts r e (decide_of r e entries contexts)
decide-guard r e entries contexts = opened r e (decide_of r e entries contexts) (guarded r e entries contexts)
