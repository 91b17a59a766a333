-- The cases of reading and of writing, each as a law: what is accepted passed each test, and what is written is its parts in a row.
-- Assumes nothing.
use Rattle.std.specs.Prelude.{Err, Ok, Result}
use Prim.Native.Nat.{ℕ, ◌+◌, ◌-◌, ◌*◌, ◌<◌, ◌≤◌}
use mathlib.Core.Path.{◌≡◌, refl, sym}
use mathlib.Core.Bool.{Bool, true, false}
use mathlib.Core.List.{List, [], ◌∷◌, ◌++◌, append_assoc}
use native.Mathlib.Omega.{arith}
use lib.Dec.{leb, ltb}
use lib.ListN.{length, take, drop, length-append}
use borrow.Author.Tests.{leb-true, le-leb, ltb-true, ltb-false, lt-ltb, le-ltb, eqb-true, eqb-false}
use Rattle.basics.specs.Choice.{not-both, and_left, and_right, never}
use Rattle.basics.proofs.Choice.{pick-cases, yes, no}
use Rattle.basics.specs.Places.{in_turn, length-in_turn}
use Rattle.bitfield.specs.Bits.{bytes, put}
use Rattle.bitfield.specs.Layout.{join, Fit}
use Rattle.bitfield.proofs.Laws.{value-lt, length-bytes, put-none, put-put, take_put}
use Rattle.bitfield.proofs.Round.{join_one, bytes-join}
use Rattle.board.specs.Description.{most_components, most_cpus, component_of, is_capable, blank_past, unless, within_limit, counts_of, Counted, judged_of}
use Rattle.board.specs.Packed.{length_of, components_in, board_at, reserved_clear, shape_of, read_of, digit_of, flag_in, flags_number, head_widths, head_values, tail_widths, tail_values, head_length, tail_length, head_bytes, component_bytes, component_length, bytes_at, bytes_of, writable_of, is_kept, is_writable, board_stands, length_in, put_by, put_of, buffer_of, part_by, part_of, Typed, EachTyped}
use Rattle.board.specs.declared.Component.{Component}
use Rattle.board.specs.declared.Board.{Board}
use Rattle.board.specs.declared.Refusal.{Refusal}
use Rattle.board.specs.declared.Refusal.TheVariants.{NoRoom}

-- ---- reading

pub components_most : (s : List ℕ) → components_in s ≤ most_components
components_most s = omega (arith, value-lt s 0 5)

pub read-few : (s : List ℕ) → (board_at s).components ≤ most_components
unfolding board_at
read-few s = components_most s

-- an accepted description passed each test
passes : {A : Type 0} {taken : A} (ok : Bool) (x v : A) → (x ≡ taken → ⊥) → unless ok x v ≡ taken → (ok ≡ true) × (v ≡ taken)
passes true x v n e = (refl, e)
passes false x v n e = absurd (n e)

not-refused : {x : Refusal} → ◌≡◌ {A = Result Unit Refusal} (Err x) (Ok tt) → ⊥
not-refused e = never cc

-- what has the shape of a description
pub record Shaped (s : List ℕ) : Type 0 where
  pub whole : length s ≡ length_of (components_in s)
  pub clear : reserved_clear s (components_in s) ≡ true

pub shape-accepted : (s : List ℕ) → shape_of s ≡ Ok tt → Shaped s
unfolding shape_of
shape-accepted s e =
    let m = length_of (components_in s) in
    let long = (passes (leb 2 (length s)) _ _ not-refused e).1 in
    let enough = passes (leb m (length s)) _ _ not-refused long in
    let exact = passes (leb (length s) m) _ _ not-refused enough.1 in
    let x = leb-true m (length s) enough.0 in
    let y = leb-true (length s) m exact.0 in
    record { whole = omega arith; clear = (passes (reserved_clear s (components_in s)) _ _ not-refused exact.1).0 }

pub read-shaped : (s : List ℕ) (b : Board) → shape_of s ≡ Ok tt → b ≡ board_at s → judged_of b ≡ Ok tt → Ok b ≡ read_of s
unfolding read_of
read-shaped s b e p q = rw (e, ← p, q)

pub read-broken : (s : List ℕ) (b : Board) (x : Refusal) → shape_of s ≡ Ok tt → b ≡ board_at s → judged_of b ≡ Err x → Err x ≡ read_of s
unfolding read_of
read-broken s b x e p q = rw (e, ← p, q)

pub read-misshaped : (s : List ℕ) (x : Refusal) → shape_of s ≡ Err x → Err x ≡ read_of s
unfolding read_of
read-misshaped s x e = rw e

-- ---- writing

within : (n most : ℕ) → within_limit n most ≡ true → (1 ≤ n) × (n ≤ most)
unfolding within_limit
within n most e = (leb-true _ _ (and_left (leb 1 n) (leb n most) e), leb-true _ _ (and_right (leb 1 n) (leb n most) e))

pub counted : (b : Board) → counts_of b ≡ true → Counted b
counted b e =
    let a = within_limit b.components most_components in
    let c = within_limit b.cpus most_cpus in
    let p = within b.components most_components (and_left a c e) in
    let q = within b.cpus most_cpus (and_right a c e) in
    record { some_components = p.0; few_components = p.1; some_cpus = q.0; few_cpus = q.1 }

pub counted_few : (b : Board) → counts_of b ≡ true → b.components ≤ most_components
counted_few b e = (counted b e).few_components

pub counts : (b : Board) → Counted b → counts_of b ≡ true
unfolding within_limit
counts b k = simp (le-leb _ _ k.some_components, le-leb _ _ k.few_components, le-leb _ _ k.some_cpus, le-leb _ _ k.few_cpus)

pub writable-passes : (b : Board) → writable_of b ≡ Ok tt → Counted b × (judged_of b ≡ (Ok tt))
unfolding writable_of
writable-passes b e = let p = passes (counts_of b) _ _ (λ q. never cc) e in (counted b p.0, p.1)

pub kept-counted : (b : Board) → writable_of b ≡ Ok tt → Counted b
kept-counted b e = (writable-passes b e).0

is-kept : (v : Result Unit Refusal) → is_kept v ≡ true → v ≡ Ok tt
is-kept (Ok tt) e = refl
is-kept (Err x) e = absurd (not-both e refl)

pub writable-counted : (b : Board) → is_writable b ≡ true → Counted b
writable-counted b e = (writable-passes b (is-kept (writable_of b) e)).0

pub writable_few : (b : Board) → is_writable b ≡ true → b.components ≤ most_components
writable_few b e = (writable-counted b e).few_components

pub stands-counted : (b : Board) → board_stands b ≡ true → Counted b
unfolding board_stands
stands-counted b e = writable-counted b (and_left (is_writable b) (blank_past b) e)

-- a capable component is one of the board's
pub capable-exists : (b : Board) (id : ℕ) → is_capable b id ≡ true → id < b.components
unfolding is_capable
capable-exists b id e = ltb-true id b.components (and_left (ltb id b.components) _ e)

abbrev pub counts_number : Board → ℕ
counts_number b = (b.components - 1) * 64 + (b.cpus - 1)

counts-join : (b : Board) → join (take 3 head_widths) (take 3 (head_values b)) ≡ counts_number b * 32
unfolding join
counts-join b = omega arith

-- the head: two bytes of counts, and two words
pub head-bytes : (b : Board) → Fit head_widths (head_values b) → head_bytes b ≡ bytes 2 (counts_number b * 32) ++ bytes 8 b.first ++ bytes 8 b.last
unfolding head_bytes
head-bytes b f =
    rw (
      bytes-join 2 16 (take 3 head_widths) (take 3 (head_values b)) (drop 3 head_widths) (drop 3 (head_values b)) refl (f.0, (f.1.0, (f.1.1.0, tt))) f.1.1.1,
      bytes-join 8 8 (64 ∷ []) (b.first ∷ []) (64 ∷ []) (b.last ∷ []) refl (f.1.1.1.0, tt) f.1.1.1.1,
      counts-join b,
      join_one 64 b.first,
      join_one 64 b.last,
    )
    (simp append_assoc)

pub digit-fits : (b : Bool) → digit_of b < 2
digit-fits true = omega arith
digit-fits false = omega arith

pub flag-digit : (b : Bool) → flag_in (digit_of b) ≡ b
flag-digit true = refl
flag-digit false = refl

pub digit-flag : (x : ℕ) → x < 2 → digit_of (flag_in x) ≡ x
digit-flag x h = go (flag_in x) refl
  where
    go : (t : Bool) → flag_in x ≡ t → digit_of t ≡ x
    go true e = sym (eqb-true x 1 e)
    go false e = let z = eqb-false x 1 e in omega arith

flags-join : (c : Component) → join (take 4 tail_widths) (take 4 (tail_values c)) ≡ flags_number c * 32
unfolding join
flags-join c = omega arith

-- a component: its UUID, a byte of flags, and four bytes
pub component-bytes : (c : Component) → Fit tail_widths (tail_values c) → component_bytes c ≡ c.uuid ++ bytes 1 (flags_number c * 32) ++ bytes 4 c.svn
unfolding component_bytes
component-bytes c f =
    rw (
      bytes-join 1 4 (take 4 tail_widths) (take 4 (tail_values c)) (drop 4 tail_widths) (drop 4 (tail_values c)) refl (f.0, (f.1.0, (f.1.1.0, (f.1.1.1.0, tt)))) f.1.1.1.1,
      flags-join c,
      join_one 32 c.svn,
    )
    (simp append_assoc)

pub typed_long : (c : Component) → Typed c → length (component_bytes c) ≡ component_length
unfolding component_bytes
typed_long c t =
    let tail = bytes tail_length (join tail_widths (tail_values c)) in
    omega (arith, length-append c.uuid tail, length-bytes tail_length (join tail_widths (tail_values c)), t.long)

-- a description is as long as its counts say
pub length-description : (b : Board) → EachTyped b b.components → length_of b.components ≡ length (bytes_of b)
unfolding bytes_of head_bytes
length-description b t =
    let l = length-in_turn (bytes_at b) component_length b.components (λ i k. typed_long (component_of b i) (t i k)) in
    let n = length-bytes head_length (join head_widths (head_values b)) in
    let m = length-append (head_bytes b) (in_turn b.components (bytes_at b)) in
    omega arith

-- the ways that a write ends
module _ (d : List ℕ) (b : Board) where
  pub unwritable : (x : Refusal) → writable_of b ≡ Err x → (Err x ≡ put_of (length d) b) × ((d ≡ buffer_of d b) × (0 ≡ length (part_of d b)))
  unfolding put_of
  unwritable x e = rw e (refl, (put-none d, refl))

  pub by-room : (r : Result ℕ Refusal) (e : List ℕ) → writable_of b ≡ Ok tt → r ≡ put_by (Ok tt) (length d) (length_of b.components) → e ≡ put d 0 (part_by r b) → length_in r ≡ length (part_by r b) → (r ≡ put_of (length d) b) × ((e ≡ buffer_of d b) × (length_in r ≡ length (part_of d b)))
  unfolding put_of
  by-room r e w p q l = rw (w, ← p) (refl, (q, l))

  pub no_room : length d < length_of b.components → Err NoRoom ≡ put_by (Ok tt) (length d) (length_of b.components)
  no_room h = yes _ (lt-ltb _ _ h) refl

  pub all-written : (h e : List ℕ) → length_of b.components ≤ length d → h ≡ put d 0 (head_bytes b) → e ≡ put h head_length (in_turn b.components (bytes_at b)) → EachTyped b b.components → (Ok (length_of b.components) ≡ put_by (Ok tt) (length d) (length_of b.components)) × ((e ≡ put d 0 (bytes_of b)) × (length_of b.components ≡ length (bytes_of b)))
  unfolding bytes_of head_bytes
  all-written h e g p q t =
      let l = length-in_turn (bytes_at b) component_length b.components (λ i k. typed_long (component_of b i) (t i k)) in
      let n = length-bytes head_length (join head_widths (head_values b)) in
      let m = length-append (head_bytes b) (in_turn b.components (bytes_at b)) in (
        no _ (le-ltb _ _ g) refl,
        (rw (q, p) (put-put d 0 head_length (head_bytes b) (in_turn b.components (bytes_at b)) (omega arith) (omega arith)), length-description b t),
      )

-- what a write says of its length is so
pub put-fits : (room : ℕ) (b : Board) → length_in (put_of room b) ≤ room
unfolding put_of
put-fits room b = go (writable_of b)
  where
    n : ℕ
    n = length_of b.components

    go : (v : Result Unit Refusal) → length_in (put_by v room n) ≤ room
    go (Err x) = omega arith
    go (Ok tt) = pick-cases (λ (w : Result ℕ Refusal). length_in w ≤ room) (ltb room n) (Err NoRoom) (Ok n) (λ _. omega arith) (λ t. ltb-false room n t)

-- the part is what stands at the start of the buffer
pub part-written : (d : List ℕ) (b : Board) (n : ℕ) → n ≡ length (part_of d b) → n ≤ length d → take n (buffer_of d b) ≡ part_of d b
part-written d b n = go (put_of (length d) b)
  where
    go : (w : Result ℕ Refusal) → n ≡ length (part_by w b) → n ≤ length d → take n (put d 0 (part_by w b)) ≡ part_by w b
    go (Ok m) e h = take_put d 0 n (bytes_of b) (omega arith) h
    go (Err x) e h = rw e

-- what the readers' and writers' clauses follow by
pub ruleset reads = (shape-accepted, read-shaped, read-broken, read-misshaped, read-few)

pub ruleset writes = (kept-counted, unwritable, by-room)

pub ruleset parts = (put-fits, part-written)

pub ruleset rooms = (no_room, put-none)
