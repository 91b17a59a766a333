-- A description that was written reads back, and bytes that read are those that writing gives: the head and each tail by bitfield's round
-- trip of a layout, each UUID byte by byte. Assumes nothing.
use Rattle.std.specs.Prelude.{Err, Ok, Result}
use Prim.Native.Nat.{ℕ, ◌+◌, ◌-◌, ◌*◌, ◌<◌, ◌≤◌}
use mathlib.Core.Path.{◌≡◌, refl, sym, ap, ap₂, ◌∙◌}
use mathlib.Core.Bool.{true, not}
use mathlib.Core.List.{List, [], ◌++◌, append-nil}
use native.Mathlib.Omega.{arith}
use native.Mathlib.Nat.{add_assoc}
use lib.Dec.{eqb}
use lib.ListN.{length, get_or, take, drop, length-append, length-drop, take-append-drop}
use lib.Seq.{take_all, take-add, drop-drop, get_or-drop}
use borrow.Author.Tests.{eqb-true, eq-eqb, le-leb}
use Rattle.basics.specs.Choice.{and_left, and_right, never}
use Rattle.basics.proofs.Choice.{yes}
use Rattle.basics.specs.Every.{all_below, all_of, all-at, all_same}
use Rattle.basics.specs.Places.{firsts, length-table, in_turn, length-in_turn, in_turn-same, in_turn-parts, firsts_same, firsts-part, firsts-all, get_or-table, get_or-past, length-firsts}
use Rattle.bitfield.specs.Bits.{AreBytes, value_at, bytes}
use Rattle.bitfield.specs.Layout.{fields, field_of, join, Fit}
use Rattle.bitfield.proofs.Laws.{length-bytes, value-lt, value-byte, firsts-bytes}
use Rattle.bitfield.proofs.Round.{value-front, value_after, value-in_turn, fields-are, fields-drop, read-written, written-front}
use Rattle.board.specs.Description.{most_components, uuid_bytes, blank, absent, component_of, same_uuid, parted_of, parted, unseen, unlike, apart, distinct, judged_of, Counted, is_blank, blank_past}
use Rattle.board.specs.Packed.{head_widths, tail_widths, head_length, tail_length, component_length, length_of, start_of, head_field, components_in, uuid_at, tail_field, flag_at, component_at, board_at, zero_at, reserved_clear, shape_of, settle, read_of, digit_of, head_values, tail_values, head_bytes, component_bytes, bytes_at, bytes_of, writable_of, board_stands, Described, DescribedIf, trimmed, ReadsBack, WritesBack}
use Rattle.board.specs.declared.Component.{Component}
use Rattle.board.specs.declared.Board.{Board}
use Rattle.board.proofs.Laws.{digit-fits, flag-digit, digit-flag, counts, writable-passes, typed_long, Shaped, shape-accepted}
use Rattle.board.specs.declared.Refusal.{Refusal}

-- ---- what is written: its places

module _ (b : Board) (d : Described b) (k : Counted b) where
  abbrev bs : List ℕ
  bs = bytes_of b

  each_long : (i : ℕ) → i < b.components → length (bytes_at b i) ≡ component_length
  each_long i l = typed_long (component_of b i) (d.each i l)

  head-long : length (head_bytes b) ≡ head_length
  unfolding head_bytes
  head-long = length-bytes head_length _

  bytes-long : length bs ≡ length_of b.components
  unfolding bytes_of
  bytes-long =
      omega (arith, length-append (head_bytes b) (in_turn b.components (bytes_at b)), head-long, length-in_turn (bytes_at b) component_length b.components each_long)

  head-fits : Fit head_widths (head_values b)
  head-fits = (omega arith, (omega arith, (omega arith, (d.first, (d.last, tt)))))

  head-fields : fields head_widths 0 bs ≡ head_values b
  unfolding bytes_of head_bytes
  head-fields = read-written head_widths (head_values b) head_length (in_turn b.components (bytes_at b)) refl head-fits

  head-back : (head_field bs 0 ≡ b.components - 1) × (head_field bs 1 ≡ b.cpus - 1) × (head_field bs 2 ≡ 0) × (head_field bs 3 ≡ b.first) × (head_field bs 4 ≡ b.last)
  unfolding fields
  head-back =
      let at : (i : ℕ) → get_or (fields head_widths 0 bs) i 0 ≡ get_or (head_values b) i 0 = λ i. ap (λ (l : List ℕ). get_or l i 0) head-fields in
      (at 0, at 1, at 2, at 3, at 4)

  count-back : components_in bs ≡ b.components
  count-back = omega (arith, head-back.0)

  module _ (i : ℕ) (l : i < b.components) where
    abbrev c : Component
    c = component_of b i

    abbrev tail : List ℕ
    tail = bytes tail_length (join tail_widths (tail_values c))

    part-value : (p w : ℕ) → p + w ≤ 8 * component_length → value_at bs (start_of i + p) w ≡ value_at (c.uuid ++ tail) p w
    unfolding bytes_of component_bytes
    part-value p w h =
        let e : start_of i + p ≡ 8 * length (head_bytes b) + (8 * (component_length * i) + p) = omega (arith, head-long) in
        rw e (value_after (head_bytes b) (in_turn b.components (bytes_at b)) (8 * (component_length * i) + p) w)
        ∙ value-in_turn (bytes_at b) component_length b.components each_long i p w l h

    uuid-back : uuid_at bs (start_of i) ≡ c.uuid
    uuid-back =
        let u = d.each i l in
        firsts_same uuid_bytes (λ j. value_at bs (start_of i + 8 * j) 8) (λ j. get_or c.uuid j 0)
        (λ j h.
        part-value (8 * j) 8 (omega arith)
        ∙ value-front c.uuid tail (8 * j) 8 (omega (arith, u.long))
        ∙ value-byte c.uuid j (u.bytes j))
        ∙ firsts-all uuid_bytes c.uuid 0 u.long

    tail-fields : fields tail_widths 0 tail ≡ tail_values c
    tail-fields =
        ap (fields tail_widths 0) (sym (append-nil tail))
        ∙ read-written tail_widths (tail_values c) tail_length [] refl
        (digit-fits c.capable, (digit-fits c.may_reset, (digit-fits c.optional, (omega arith, ((d.each i l).svn, tt)))))

    tail-value : (o w : ℕ) → o + w ≤ 8 * tail_length → value_at bs (start_of i + 8 * uuid_bytes + o) w ≡ value_at tail o w
    tail-value o w h =
        let u = (d.each i l).long in
        let e : 8 * uuid_bytes + o ≡ 8 * length c.uuid + o = omega arith in
        ap (λ (p : ℕ). value_at bs p w) (add_assoc (start_of i) (8 * uuid_bytes) o)
        ∙ part-value (8 * uuid_bytes + o) w (omega arith)
        ∙ ap (λ (p : ℕ). value_at (c.uuid ++ tail) p w) e
        ∙ value_after c.uuid tail o w

    component-back : component_at bs (start_of i) ≡ c
    unfolding component_at fields
    component-back =
        let at : (n : ℕ) → get_or (fields tail_widths 0 tail) n 0 ≡ get_or (tail_values c) n 0 = λ n. ap (λ (v : List ℕ). get_or v n 0) tail-fields in
        rw (uuid-back, tail-value 0 1 (omega arith) ∙ at 0, tail-value 1 1 (omega arith) ∙ at 1, tail-value 2 1 (omega arith) ∙ at 2, tail-value 8 32 (omega arith) ∙ at 4, flag-digit c.capable, flag-digit c.may_reset, flag-digit c.optional)

    zero-back : zero_at bs i ≡ true
    unfolding fields
    zero-back = eq-eqb _ _ (tail-value 3 5 (omega arith) ∙ ap (λ (v : List ℕ). get_or v 3 0) tail-fields)

  board-back : board_at bs ≡ trimmed b
  unfolding board_at
  board-back =
      let h = head-back in
      let one : b.components - 1 + 1 ≡ b.components = omega arith in
      let two : b.cpus - 1 + 1 ≡ b.cpus = omega arith in
      rw (h.0, h.1, h.3, h.4, one, two, firsts_same b.components (λ i. component_at bs (start_of i)) (component_of b) component-back)

  reserved-back : reserved_clear bs (components_in bs) ≡ true
  unfolding reserved_clear
  reserved-back = rw (eq-eqb _ _ head-back.2, count-back) (all_of b.components (zero_at bs) zero-back)

  shape-back : shape_of bs ≡ Ok tt
  unfolding shape_of
  shape-back =
      let n = bytes-long in
      let m : length_of (components_in bs) ≡ length bs = rw count-back (sym n) in
      sym (yes _ (le-leb 2 (length bs) (omega arith))
      (yes _ (le-leb (length_of (components_in bs)) (length bs) (omega arith))
      (yes _ (le-leb (length bs) (length_of (components_in bs)) (omega arith)) (yes _ reserved-back refl))))

-- ---- the rules look only within the counts

module _ (b : Board) where
  within : (i : ℕ) → i < b.components → component_of (trimmed b) i ≡ component_of b i
  within i l = get_or-table (component_of b) most_components blank b.components i absent l

  pub judged-trimmed : judged_of (trimmed b) ≡ judged_of b
  unfolding judged_of
  judged-trimmed =
      let t = (trimmed b).component in
      let p : apart (trimmed b) ≡ apart b = all_same b.components (parted t) (parted b.component) (λ i l. ap parted_of (within i l)) in
      let q : distinct (trimmed b) ≡ distinct b =
      all_same b.components (unseen t) (unseen b.component)
      (λ i l. all_same i (unlike t i) (unlike b.component i)
      (λ j m. ap₂ (λ (x y : Component). not (same_uuid x.uuid y.uuid)) (within j (omega arith)) (within i l))) in
      rw (p, q)

  -- a description that the writer takes reads back as written, with blanks past its count
  pub reads-back : Described b → writable_of b ≡ Ok tt → read_of (bytes_of b) ≡ Ok (trimmed b)
  unfolding read_of
  reads-back d w =
      let p = writable-passes b w in
      rw (shape-back b d p.0, board-back b d p.0, judged-trimmed, p.1)

  -- the same of what a write did
  pub written_back : (r : Result ℕ Refusal) → DescribedIf r b → writable_of b ≡ Ok tt → ReadsBack r b
  written_back (Ok n) d w = reads-back d w
  written_back (Err x) d w = tt

-- ---- what is read: its places

module _ (s : List ℕ) (bs : AreBytes s) (sh : Shaped s) where
  abbrev n : ℕ
  n = components_in s

  head-zero : head_field s 2 ≡ 0
  unfolding reserved_clear
  head-zero = eqb-true _ _ (and_left (eqb (head_field s 2) 0) (all_below n (zero_at s)) sh.clear)

  component-zero : (i : ℕ) → i < n → tail_field s (start_of i) 3 ≡ 0
  unfolding reserved_clear
  component-zero i l = eqb-true _ _ (all-at n (zero_at s) (and_right (eqb (head_field s 2) 0) (all_below n (zero_at s)) sh.clear) i l)

  head-values : head_values (board_at s) ≡ fields head_widths 0 s
  unfolding board_at fields
  head-values =
      let one : head_field s 0 + 1 - 1 ≡ head_field s 0 = omega arith in
      let two : head_field s 1 + 1 - 1 ≡ head_field s 1 = omega arith in
      rw (one, two, head-zero)

  head-again : head_bytes (board_at s) ≡ take head_length s
  unfolding head_bytes
  head-again = rw head-values (written-front head_widths s head_length (omega (arith, sh.whole)) refl bs)

  module _ (i : ℕ) (l : i < n) where
    abbrev at : ℕ
    at = start_of i

    inside : length_of i + component_length ≤ length s
    inside = omega (arith, sh.whole)

    uuid-again : uuid_at s at ≡ take uuid_bytes (drop (length_of i) s)
    uuid-again =
        firsts_same uuid_bytes (λ j. value_at s (at + 8 * j) 8) (λ j. get_or s (length_of i + j) 0)
        (λ j h. ap (λ (p : ℕ). value_at s p 8) (omega arith) ∙ value-byte s (length_of i + j) (bs (length_of i + j)))
        ∙ firsts-part uuid_bytes (length_of i) s 0 (omega (arith, inside))

    flag : (k : ℕ) → field_of tail_widths k (at + 8 * uuid_bytes) s < 2 → digit_of (flag_at s at k) ≡ tail_field s at k
    flag k h = digit-flag (tail_field s at k) h

    tail-values : tail_values (component_at s at) ≡ fields tail_widths (at + 8 * uuid_bytes) s
    unfolding component_at firsts
    tail-values =
        rw (fields-are tail_widths (at + 8 * uuid_bytes) s, component-zero i l, flag 0 (value-lt s (at + 8 * uuid_bytes + 0) 1), flag 1 (value-lt s (at + 8 * uuid_bytes + 1) 1), flag 2 (value-lt s (at + 8 * uuid_bytes + 2) 1))

    tail-again : bytes tail_length (join tail_widths (tail_values (component_at s at))) ≡ take tail_length (drop (length_of i + uuid_bytes) s)
    tail-again =
        let e : at + 8 * uuid_bytes ≡ 8 * (length_of i + uuid_bytes) + 0 = omega arith in
        let t = drop (length_of i + uuid_bytes) s in
        rw (tail-values, e, ← fields-drop tail_widths (length_of i + uuid_bytes) 0 s)
        (written-front tail_widths t tail_length (omega (arith, length-drop (length_of i + uuid_bytes) s, inside)) refl (λ j. rw get_or-drop (bs (length_of i + uuid_bytes + j))))

    component-again : component_bytes (component_at s at) ≡ take component_length (drop (length_of i) s)
    unfolding component_bytes component_at
    component-again =
        rw (uuid-again, tail-again, take-add uuid_bytes tail_length (drop (length_of i) s), drop-drop)

  bytes-again : bytes_of (board_at s) ≡ s
  unfolding bytes_of board_at
  bytes-again =
      let f : ℕ → Component = λ i. component_at s (start_of i) in
      let each : (i : ℕ) → i < n → bytes_at (board_at s) i ≡ take component_length (drop (head_length + component_length * i) s) =
      λ i l. ap component_bytes (get_or-table f most_components blank n i absent l) ∙ component-again i l in
      let rest : take (component_length * n) (drop head_length s) ≡ drop head_length s =
      take_all (component_length * n) (drop head_length s) (omega (arith, length-drop head_length s, sh.whole)) in
      rw (head-again, in_turn-same n (bytes_at (board_at s)) (λ i. take component_length (drop (head_length + component_length * i) s)) each, in_turn-parts component_length n head_length s, rest)
      (take-append-drop head_length s)

-- an accepted reading passed both verdicts, and says what the bytes say
settled : (v : Result Unit Refusal) (r : Result Board Refusal) (b : Board) → settle v r ≡ Ok b → (v ≡ Ok tt) × (r ≡ Ok b)
settled (Ok tt) r b e = (refl, e)
settled (Err x) r b e = never cc

record Read (s : List ℕ) (b : Board) : Type 0 where
  shaped : shape_of s ≡ Ok tt
  judged : judged_of (board_at s) ≡ Ok tt
  says : board_at s ≡ b

read-inv : (s : List ℕ) (b : Board) → read_of s ≡ Ok b → Read s b
unfolding read_of
read-inv s b e =
    let p = settled (shape_of s) _ b e in
    let q = settled (judged_of (board_at s)) _ b p.1 in
    record { shaped = p.0; judged = q.0; says = cc }

-- bytes that read are those that writing what they say gives
pub writes-back : (s : List ℕ) (b : Board) → AreBytes s → read_of s ≡ Ok b → bytes_of b ≡ s
writes-back s b bs e =
    let i = read-inv s b e in rw (← i.says) (bytes-again s bs (shape-accepted s i.shaped))

-- the same of what a reading gives
pub read_back : (s : List ℕ) (r : Result Board Refusal) → AreBytes s → r ≡ read_of s → WritesBack r s
read_back s (Ok b) bs e = writes-back s b bs (sym e)
read_back s (Err x) _ e = tt

-- so each readable description has a single byte form
pub single-form : (s t : List ℕ) (b : Board) → AreBytes s → AreBytes t → read_of s ≡ Ok b → read_of t ≡ Ok b → s ≡ t
single-form s t b p q e f = sym (writes-back s b p e) ∙ writes-back t b q f

-- ---- what reads can be written, and reads back

read-counted : (s : List ℕ) → Counted (board_at s)
unfolding board_at
read-counted s =
    record {
      some_components = omega arith;
      few_components = omega (arith, value-lt s 0 5);
      some_cpus = omega arith;
      few_cpus = omega (arith, value-lt s 5 6);
    }

read-described : (s : List ℕ) → Described (board_at s)
unfolding board_at component_at
read-described s =
    let n = components_in s in
    let f : ℕ → Component = λ i. component_at s (start_of i) in
    let here : (i : ℕ) → i < n → component_of (board_at s) i ≡ f i = λ i l. get_or-table f most_components blank n i absent l in
    record {
      first = value-lt s 16 64;
      last = value-lt s 80 64;
      each = λ i l. rw (here i l) (record {
        long = length-firsts _ uuid_bytes;
        bytes = firsts-bytes uuid_bytes _ (λ j. value-lt s (start_of i + 8 * j) 8);
        svn = value-lt s (start_of i + 8 * uuid_bytes + 8) 32;
      });
    }

pub read-writable : (s : List ℕ) (b : Board) → read_of s ≡ Ok b → Described b × (writable_of b ≡ (Ok tt))
unfolding writable_of
read-writable s b e =
    let i = read-inv s b e in
    rw (← i.says) (read-described s, rw (counts (board_at s) (read-counted s)) i.judged)

read-blank : (s : List ℕ) → blank_past (board_at s) ≡ true
unfolding board_at all_below
read-blank s =
    let n = components_in s in
    all_of (most_components - n) _ (λ j l. ap is_blank (get_or-past (λ i. component_at s (start_of i)) most_components blank n j absent l))

-- a board that reading gives stands in a record
pub read-stands : (s : List ℕ) (b : Board) → read_of s ≡ Ok b → board_stands b ≡ true
unfolding board_stands
read-stands s b e = rw ((read-writable s b e).1, ← (read-inv s b e).says) (read-blank s)

-- and its table has all its places
pub read-long : (s : List ℕ) (b : Board) → read_of s ≡ Ok b → length b.component ≡ most_components
unfolding board_at
read-long s b e =
    rw (← (read-inv s b e).says) (length-table (λ i. component_at s (start_of i)) most_components blank (components_in s) (read-counted s).few_components)
