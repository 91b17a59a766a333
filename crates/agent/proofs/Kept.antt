-- Every step keeps a well-formed record well formed: move by move, clause by clause, from the facts where it is decided. Assumes nothing.
use Rattle.std.specs.Prelude.{None, Some}
use Prim.Native.Nat.{ℕ, ◌<◌, ◌≤◌}
use mathlib.Core.Path.{◌≡◌, refl, sym, ap, subst, ◌∙◌}
use mathlib.Core.Bool.{Bool, true, false, ◌&&◌}
use mathlib.Core.List.{List, [], ◌∷◌}
use native.Mathlib.Omega.{arith}
use lib.Dec.{leb}
use lib.ListN.{length, set, length-set}
use borrow.Author.Tests.{lt-ltb, leb-true, le-leb}
use Rattle.basics.specs.Choice.{pick, not-both, and_left, and_right}
use Rattle.basics.proofs.Choice.{pick-cases}
use Rattle.codes.specs.declared.Call.{Call}
use Rattle.cpuset.specs.Set.{room, has_of, none_of, below_of, with_of, without_of}
use Rattle.cpuset.specs.Laws.{has_room, has-none, has-with, has-without, has-below, set_below, set-without, same-eq, within_has, within-of, without_other, with-some, without-some, with-within}
use Rattle.cpuset.specs.declared.CpuSet.{CpuSet}
use Rattle.board.specs.Description.{most_components, most_cpus, numbered_of, is_capable, may_reset_at, entry_right}
use Rattle.board.specs.Packed.{board_stands}
use Rattle.board.specs.declared.Board.{Board}
use Rattle.board.proofs.Laws.{stands-counted}
use Rattle.board_record.proofs.Laws.{room_most, fresh-stands, fresh-sized}
use Rattle.board_record.specs.Record.{subject_of, holding_of, skips_rendezvous, is_pending, version_of, fresh_of}
use Rattle.board_record.specs.WellFormed.{powered_stand, image_stands, images_stand, subject_stands, state_stands, held_stand, keeps_entries, keepers_of, entry_stands, entries_stand, well_formed}
use Rattle.board_record.proofs.Clauses.{WellFormed, Sized, told, shown, powered-within, on-set, held_on, held-set, held_none, entries-zero}
use Rattle.board_record.specs.declared.Record.{Record}
use Rattle.board_record.specs.declared.State.{State}
use Rattle.board_record.specs.declared.State.TheVariants.{Idle, Preparing, HalfPrepared, Ready, Gathering, Together, Alone, HalfActivated, Dead}
use Rattle.board_record.specs.declared.Holding.TheVariants.{One}
use Rattle.rules.specs.declared.Arrival.{Arrival}
use Rattle.rules.specs.declared.Event.{Event}
use Rattle.rules.specs.declared.Move.{Move}
use Rattle.rules.specs.declared.Move.TheVariants as move
use Rattle.rules.specs.Decide.{decide_of}
use Rattle.rules.specs.declared.Image.{Image}
use Rattle.rules.specs.Calls.{arrival_of}
use Rattle.rules.specs.declared.Report.{Report}
use Rattle.rules.specs.declared.Waking.{Waking}
use Rattle.rules.proofs.Facts.{Primes, Skips, Joins, Withdraws, TurnsOff, TurnsOn, EndsPrime, EndsActivate, NotesImage, Facts, again_alone}
use Rattle.rules.proofs.Guards.{decide-guard}
use Rattle.rules.proofs.States.{PowerFree, Rests, prime-rests, skip-rests, skip-subject, gather-subject, priming-subject, priming-holds, activating-subject, free-apart}
use Rattle.agent.specs.Perform.{refused_of, accepted_of, informed_of, joined_of, settled_of, withdrawn_of, powered_of, after_prime, after_activate, is_done, imaged_of, forgotten_of, ended_of, perform_of}
use Rattle.agent.specs.Step.{step_of, stepped, after}
use Rattle.agent.proofs.Laws.{one-held, apart-held, places-put, joined-others, joined-entry, gather-kept, subject-as, subject-optional, other-image, prime-ends, activate-ends, done-idle}

-- ---- each move
module _ (r : Record) (w : WellFormed r) (z : Sized r) where
  -- the state's component stands, and so it does with or without rendezvous
  mine : (c : ℕ) → subject_of r.state ≡ Some c
      → subject_stands (numbered_of r.board c) (skips_rendezvous r.state) (is_pending r.pending c) (version_of r.version c) ≡ true
  unfolding state_stands
  mine c q = rw q at w.state

  still : (alone : Bool) (c : ℕ) → subject_of r.state ≡ Some c → pick alone (numbered_of r.board c).optional true ≡ true
      → subject_stands (numbered_of r.board c) alone (is_pending r.pending c) (version_of r.version c) ≡ true
  still alone c q o = subject-as (numbered_of r.board c) (skips_rendezvous r.state) alone _ _ o (mine c q)

  -- a caller joins: what has to be seen of the next state
  join_kept : (s : State) (a : Arrival) → state_stands r.board r.pending r.version s ≡ true
      → held_stand s r.on (with_of r.held a.cpu) ≡ true
      → ((j : ℕ) → (j ≡ a.cpu → ⊥) → has_of (keepers_of r.board s (with_of r.held a.cpu)) j ≡ has_of (keepers_of r.board r.state r.held) j)
      → entry_stands r.board.first r.board.last (has_of (keepers_of r.board s (with_of r.held a.cpu)) a.cpu) a.entry a.context ≡ true
      → WellFormed (joined_of r s a)
  unfolding joined_of entries_stand
  join_kept s a state held others here =
      let stands : CpuSet → ℕ → ℕ → ℕ → Bool = λ kept j. entry_stands r.board.first r.board.last (has_of kept j) in
      record {
        board = w.board;
        powered = w.powered;
        images = w.images;
        state = state;
        held = held;
        entries =
            places-put most_cpus (stands (keepers_of r.board r.state r.held)) (stands (keepers_of r.board s (with_of r.held a.cpu))) 0 0
            r.entry r.context a.cpu a.entry a.context z.entry z.context (λ j d x y. rw (others j d)) here w.entries;
      }

  -- who joins is the caller, and the next state is about its component
  arrived : (next : ℕ → State) (a : Arrival) (call : Call) (keeps : Bool) → a ≡ arrival_of call keeps
      → WellFormed (joined_of r (next call.x1) (arrival_of call keeps)) → WellFormed (joined_of r (next a.component) a)
  unfolding arrival_of
  arrived next a call keeps q k = subst (λ (x : Arrival). WellFormed (joined_of r (next x.component) x)) (sym q) k

  -- one that is held alone, from a state that rests to one that keeps no entries
  alone-kept : (next : ℕ → State) (a : Arrival) (call : Call) → a ≡ arrival_of call false → has_of r.on call.cpu ≡ true → Rests r.board r.state
      → state_stands r.board r.pending r.version (next call.x1) ≡ true
      → holding_of (next call.x1) ≡ One → keeps_entries r.board (next call.x1) ≡ false → WellFormed (joined_of r (next a.component) a)
  unfolding arrival_of held_stand entry_stands
  alone-kept next a call q p rests state one none =
      let free = held_none r w rests.0 in
      arrived next a call false q
      (join_kept (next call.x1) (arrival_of call false) state
      (rw (one, free) (one-held r.on call.cpu (on-set r w) p (rw free at (held_on r w))))
      (λ j d. rw (none, rests.1)) (rw (none, has-none call.cpu)))

  prime-kept : (e : Event) (a : Arrival) → Primes r e a → WellFormed (joined_of r (Preparing a.component) a)
  unfolding state_stands subject_stands
  prime-kept e a g =
      alone-kept Preparing a g.by.call g.arrival g.by.powered (prime-rests r.board g.state)
      (rw (g.pending, le-leb _ _ g.enough)) refl refl

  skip-kept : (e : Event) (a : Arrival) → Skips r e a → WellFormed (joined_of r (Alone a.component) a)
  unfolding state_stands
  skip-kept e a g =
      alone-kept Alone a g.by.call g.arrival g.by.powered (skip-rests r.board g.state)
      (still true g.by.call.x1 (skip-subject g.state) g.optional) refl refl

  -- one more gathers, to a state of the same component that keeps its entries too
  gathered : (e : Event) (a : Arrival) (all : Bool) (g : Joins r e a all) (next : ℕ → State)
      → keeps_entries r.board (next g.by.call.x1) ≡ may_reset_at r.board g.by.call.x1
      → state_stands r.board r.pending r.version (next g.by.call.x1) ≡ true
      → held_stand (next g.by.call.x1) r.on (with_of r.held g.by.call.cpu) ≡ true → WellFormed (joined_of r (next a.component) a)
  unfolding arrival_of entry_right
  gathered e a all g next keeps state held =
      let call = g.by.call in
      let reset = may_reset_at r.board call.x1 in
      arrived next a call reset g.arrival
      (join_kept (next call.x1) (arrival_of call reset) state held
      (λ j d. rw (keeps, gather-kept r.board r.on r.held g.state w.held) (joined-others reset r.held call.cpu j d))
      (rw keeps (joined-entry reset r.board.first r.board.last r.held call.cpu call.x3 call.x4 (has_room r.on call.cpu g.by.powered) g.entry)))

  gathering-kept : (e : Event) (a : Arrival) → Joins r e a false → WellFormed (joined_of r (Gathering a.component) a)
  unfolding state_stands held_stand
  gathering-kept e a g =
      let call = g.by.call in
      let some = sym (with-some r.held call.cpu (has_room r.on call.cpu g.by.powered)) in
      gathered e a false g Gathering refl (still false call.x1 (gather-subject g.state) refl)
      (rw (← some, g.present) (with-within r.held r.on call.cpu (on-set r w) (held_on r w) g.by.powered))

  together-kept : (e : Event) (a : Arrival) → Joins r e a true → WellFormed (joined_of r (Together a.component) a)
  unfolding state_stands held_stand
  together-kept e a g =
      gathered e a true g Together refl (still false g.by.call.x1 (gather-subject g.state) refl) g.present

  -- the held CPUs are released
  settled-kept : (s : State) → state_stands r.board r.pending r.version s ≡ true → Rests r.board s → WellFormed (settled_of r s)
  unfolding settled_of held_stand
  settled-kept s state rests = record {
    board = w.board;
    powered = w.powered;
    images = w.images;
    state = state;
    held = rw rests.0 (same-eq none_of none_of refl);
    entries = rw rests.1 (entries-zero r.board.first r.board.last);
  }

  idle-kept : WellFormed (settled_of r Idle)
  unfolding state_stands
  idle-kept = settled-kept Idle refl (refl, refl)

  end-prime-kept : (e : Event) (p : Report) → EndsPrime r e p → WellFormed (settled_of r (after_prime p))
  unfolding state_stands
  end-prime-kept e p g =
      let same = still false p.component (priming-subject g.running) refl in
      prime-ends (λ (s : State). WellFormed (settled_of r s)) p (λ q. settled-kept (Ready p.component) same (refl, refl))
      (λ q. settled-kept (HalfPrepared p.component) same (refl, refl)) (λ t u. idle-kept)

  -- a preparation is withdrawn: who is held for it stays so
  withdrawn-kept : (e : Event) (id : ℕ) → Withdraws r e id → WellFormed (withdrawn_of r id)
  unfolding withdrawn_of state_stands held_stand
  withdrawn-kept e id g =
      let is = priming-holds r.board g.state in
      record {
        board = w.board;
        powered = w.powered;
        images = w.images;
        state = still false id (priming-subject g.state) refl;
        held = rw is.0 at w.held;
        entries = rw is.1 at w.entries;
      }

  -- other CPUs are powered, the held ones among them, in a state whose power calls are free
  powered-kept : (on : CpuSet) → PowerFree r.state → powered_stand r.board.cpus on ≡ true
      → ((j : ℕ) → has_of r.held j ≡ true → has_of r.on j ≡ true → has_of on j ≡ true) → WellFormed (powered_of r on)
  unfolding powered_of held_stand
  powered-kept on free p h =
      let within =
      within-of r.held on (held-set r w) (λ j l q. h j q (within_has r.held r.on (held_on r w) j q)) in
      record {
        board = w.board;
        powered = p;
        images = w.images;
        state = w.state;
        held = apart-held (holding_of r.state) r.on on r.held (free-apart free) w.held within;
        entries = w.entries;
      }

  off-kept : (e : Event) (cpu : ℕ) → TurnsOff r e cpu → WellFormed (powered_of r (without_of r.on cpu))
  unfolding powered_stand
  off-kept e cpu g =
      let on = r.on in
      let free : has_of r.held cpu ≡ false = ap (has_of r.held) g.caller ∙ g.by.free in
      let below = below_of r.board.cpus in
      powered-kept (without_of on cpu) g.power
      (rw (without-some on cpu (on-set r w) (ap (has_of on) g.caller ∙ g.by.powered) g.others)
      (within-of (without_of on cpu) below (set-without on cpu (on-set r w))
      (λ j l p. within_has on below (powered-within r.board.cpus on w.powered) j (and_left (has_of on j) _ (sym (has-without on cpu j) ∙ p)))))
      (λ j h p. without_other on cpu j (λ q. not-both h (ap (has_of r.held) q ∙ free)) ∙ p)

  on-kept : (e : Event) (x : Waking) → TurnsOn r e x → WellFormed (powered_of r (with_of r.on x.target))
  unfolding powered_stand
  on-kept e x g =
      let on = r.on in
      let i = x.target in
      let below = below_of r.board.cpus in
      let fits : i < room = omega (arith, g.exists, (stands-counted r.board w.board).few_cpus, room_most) in
      powered-kept (with_of on i) g.power
      (rw (with-some on i fits)
      (with-within on below i (set_below r.board.cpus) (powered-within r.board.cpus on w.powered)
      (rw (has-below r.board.cpus i, lt-ltb i room fits) (lt-ltb i r.board.cpus g.exists))))
      (λ j h p. rw (has-with on i j, p))

  -- only an optional component is called again
  again-optional : (e : Event) (p : Report) → EndsActivate r e p → p.code ≡ 1 → (numbered_of r.board p.component).optional ≡ true
  again-optional e p g q =
      subject-optional (numbered_of r.board p.component) (skips_rendezvous r.state) _ _
      (mine p.component (activating-subject g.running).0) (again_alone r e p g q)

  -- an activation ended: the state
  ended-state : (e : Event) (p : Report) → EndsActivate r e p → WellFormed (settled_of r (after_activate p))
  unfolding state_stands
  ended-state e p g =
      let c = p.component in
      let is = (activating-subject g.running).0 in
      activate-ends (λ (s : State). WellFormed (settled_of r s)) p
      (λ q. settled-kept (HalfActivated c) (still true c is (again-optional e p g q)) (refl, refl))
      (λ q. settled-kept (Ready c) (still false c is refl) (refl, refl))
      (λ t u. (settled-kept Dead refl (refl, refl), idle-kept))

-- an image comes or goes: what has to be seen of it, and of the state
imaged-kept : (r : Record) (id : ℕ) (now : Bool) (v : ℕ) → WellFormed r → Sized r → image_stands (is_capable r.board id) now v ≡ true
    → state_stands r.board (set r.pending id now) (set r.version id v) r.state ≡ true → WellFormed (imaged_of r id now v)
unfolding imaged_of images_stand
imaged-kept r id now v w z here state = record {
  board = w.board;
  powered = w.powered;
  images =
      let stands : ℕ → Bool → ℕ → Bool = λ j. image_stands (is_capable r.board j) in
      places-put most_components stands stands false 0 r.pending r.version id now v z.pending z.version (λ j d x y. refl) here w.images;
  state = state;
  held = w.held;
  entries = w.entries;
}

image-kept : (r : Record) (e : Event) (i : Image) → WellFormed r → Sized r → NotesImage r e i → WellFormed (imaged_of r i.component true i.version)
unfolding image_stands state_stands
image-kept r e i w z g =
    imaged-kept r i.component true i.version w z g.capable
    (other-image r.board r.pending r.version (skips_rendezvous r.state) (subject_of r.state) i.component true i.version g.other w.state)

-- ---- the lengths of the tables
joined-sized : (r : Record) (s : State) (a : Arrival) → Sized r → Sized (joined_of r s a)
unfolding joined_of
joined-sized r s a z = record {
  pending = z.pending;
  version = z.version;
  entry = length-set r.entry a.cpu a.entry ∙ z.entry;
  context = length-set r.context a.cpu a.context ∙ z.context;
}

settled-sized : (r : Record) (s : State) → Sized r → Sized (settled_of r s)
unfolding settled_of
settled-sized r s z = record { pending = z.pending; version = z.version; entry = refl; context = refl }

-- a record with the same tables
abbrev Tables : Type 0
Tables = List Bool × List ℕ × List ℕ × List ℕ

abbrev tables : Record → Tables
tables r = (r.pending, r.version, r.entry, r.context)

same-sized : (r next : Record) → tables next ≡ tables r → Sized r → Sized next
same-sized r next q z = record {
  pending = ap (λ (t : Tables). length t.0) q ∙ z.pending;
  version = ap (λ (t : Tables). length t.1) q ∙ z.version;
  entry = ap (λ (t : Tables). length t.2) q ∙ z.entry;
  context = ap (λ (t : Tables). length t.3) q ∙ z.context;
}

imaged-sized : (r : Record) (id : ℕ) (now : Bool) (v : ℕ) → Sized r → Sized (imaged_of r id now v)
unfolding imaged_of
imaged-sized r id now v z = record {
  pending = length-set r.pending id now ∙ z.pending;
  version = length-set r.version id v ∙ z.version;
  entry = z.entry;
  context = z.context;
}

-- ---- both, where one move is two changes or more
abbrev Keeps : Record → Type 0
Keeps r = WellFormed r × Sized r

noted : (r : Record) (now : Bool) → WellFormed r → Sized r → Keeps (informed_of r now)
unfolding informed_of
noted r now w z = (
  record { board = w.board; powered = w.powered; images = w.images; state = w.state; held = w.held; entries = w.entries },
  same-sized r (informed_of r now) refl z,
)

-- a done activation: its image is pending no more
forgotten-kept : (r : Record) → WellFormed r → Sized r → subject_of r.state ≡ None → (id : ℕ) → Keeps (forgotten_of r id)
unfolding image_stands state_stands
forgotten-kept r w z none id =
    noted (imaged_of r id false 0) false (imaged-kept r id false 0 w z refl (rw none)) (imaged-sized r id false 0 z)

ended-kept : (r : Record) (e : Event) (p : Report) → WellFormed r → Sized r → EndsActivate r e p → Keeps (ended_of r p)
unfolding ended_of settled_of
ended-kept r e p w z g =
    let next = settled_of r (after_activate p) in
    let kept = ended-state r w z e p g in
    let sized = settled-sized r (after_activate p) z in
    pick-cases Keeps (is_done p.code) (forgotten_of next p.component) next
    (λ d. forgotten-kept next kept sized (done-idle p d) p.component) (λ d. (kept, sized))

-- ---- every move
performed : (r : Record) (e : Event) (m : Move) → WellFormed r → Sized r → Facts r e m → Keeps (perform_of r m).rec
unfolding refused_of accepted_of withdrawn_of powered_of
performed r e (move.Refuse x) w z g = (w, z)
performed r e (move.Return x) w z g = (w, z)
performed r e move.NoteInfo w z g = noted r true w z
performed r e (move.StartPrime a) w z g = (prime-kept r w z e a g, joined-sized r _ a z)
performed r e (move.Gather a) w z g = (gathering-kept r w z e a g, joined-sized r _ a z)
performed r e (move.StartTogether a) w z g = (together-kept r w z e a g, joined-sized r _ a z)
performed r e (move.StartAlone a) w z g = (skip-kept r w z e a g, joined-sized r _ a z)
performed r e move.ToIdle w z g = (idle-kept r w z, settled-sized r Idle z)
performed r e (move.Withdraw id) w z g = (withdrawn-kept r w z e id g, same-sized r (withdrawn_of r id) refl z)
performed r e (move.PowerOff cpu) w z g = (off-kept r w z e cpu g, same-sized r (powered_of r (without_of r.on cpu)) refl z)
performed r e (move.PowerOn x) w z g = (on-kept r w z e x g, same-sized r (powered_of r (with_of r.on x.target)) refl z)
performed r e (move.EndPrime p) w z g = (end-prime-kept r w z e p g, settled-sized r (after_prime p) z)
performed r e move.EndWithdrawn w z g = (idle-kept r w z, settled-sized r Idle z)
performed r e (move.EndActivate p) w z g = ended-kept r e p w z g
performed r e (move.NoteImage i) w z g = (image-kept r e i w z g, imaged-sized r i.component true i.version z)

-- every step keeps a well-formed record well formed
pub step_kept : (r : Record) (e : Event) (entries contexts : ℕ) → well_formed r ≡ true → Sized r
    → (well_formed (step_of r e entries contexts).rec ≡ true) × Sized (step_of r e entries contexts).rec
unfolding step_of
step_kept r e entries contexts w z =
    let m = decide_of r e entries contexts in
    let k = performed r e m (told r w) z (decide-guard r e entries contexts) in
    (shown (perform_of r m).rec k.0, k.1)

-- and so do any events
pub after_kept : (es : List Event) (r : Record) → well_formed r ≡ true → Sized r → (well_formed (after r es) ≡ true) × Sized (after r es)
after_kept [] r w z = (w, z)
after_kept (e ∷ es) r w z = let k = step_kept r e most_cpus most_cpus w z in after_kept es (stepped r e).rec k.0 k.1

-- so no image below its SVN is ever prepared or activated: the state's component has one at least at it
pub never-below : (b : Board) → board_stands b ≡ true → (es : List Event) (c : ℕ) → subject_of (after (fresh_of b) es).state ≡ Some c
    → (numbered_of (after (fresh_of b) es).board c).svn ≤ version_of (after (fresh_of b) es).version c
unfolding state_stands subject_stands
never-below b s es c q =
    let r = after (fresh_of b) es in
    let w = told r (after_kept es (fresh_of b) (fresh-stands b s) (fresh-sized b)).0 in
    let e : (is_pending r.pending c && (leb (numbered_of r.board c).svn (version_of r.version c) && pick (skips_rendezvous r.state) (numbered_of r.board c).optional true)) ≡ true = rw q at w.state in
    leb-true _ _ (and_left (leb (numbered_of r.board c).svn (version_of r.version c)) _ (and_right (is_pending r.pending c) _ e))
