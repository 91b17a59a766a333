-- A test at every place below a count is the same test of each item of a list, cut there; and what equality and a sum of a UUID's bytes
-- say of its places. Assumes nothing.
use Rattle.std.proofs.Common.{ℕ, zero, suc, ◌+◌, ◌-◌, ◌*◌, ◌≤◌, ◌<◌, ◌≡◌, refl, sym, ap, ◌∙◌, Bool, not, List, length, get_or, take, drop, sum, arith, add-one, zero-add, length-drop, get_or-drop, eq-eqb, eqb-true, ext_get_or}
use Rattle.std.specs.List.{list_all, range_with_len}
use Rattle.std.proofs.lemmas.List.FromFn.{length-range_with_len, get_or-range_with_len}
use Rattle.std.specs.Str.{bytes_eq}
use Rattle.std.proofs.lemmas.List.{get_or-take, length-take-le, take_rest}
use Rattle.std.proofs.lemmas.List.Folds.{list_all_more}
use Rattle.std.proofs.lemmas.List.Sums.{sum_by_more}
use Rattle.std.proofs.Math.Seq.{take-length}
use Rattle.std.proofs.lemmas.Slice.Eq.{bytes_eq-Decides}
use Rattle.std.proofs.lemmas.Slice.{put_mid-paste}
use borrow.Rule.Slice.PartMut.{put_mid}
use Rattle.basics.specs.Choice.{same_truth}
use Rattle.basics.specs.Every.{all_below, all_same, all_of, all-at}
use Rattle.basics.specs.Places.{firsts_same, firsts-part}
use Rattle.bitfield.specs.Bits.{AreBytes, widest_bytes, value_at, bytes, put, written}
use Rattle.bitfield.specs.Layout.{total}
use Rattle.bitfield.proofs.Laws.{value-lt, value-byte, put-paste, room, written-inside}
use Rattle.bitfield.proofs.Round.{value-drop}
use Rattle.board.specs.Packed.{tail_widths, uuid_at, tail_field, component_at}
use Rattle.board.specs.Description.{uuid_bytes, most_components, absent, is_blank, blank_past, parted_of, apart, same_at, same_uuid, unlike, unseen, distinct}
use Rattle.board.specs.Marks.{sum_of}
use Rattle.board.specs.declared.Component.{Component}
use Rattle.board.specs.declared.Board.{Board}

-- of the first n items
pub all_front : {X : Type 0} (p : X → Bool) (xs : List X) (n : ℕ) (d : X) → n ≤ length xs → list_all p (take n xs) ≡ all_below n (λ i. p (get_or xs i d))
unfolding all_below
all_front p xs zero d h = refl
all_front p xs (suc n) d h = (rw add-one at (list_all_more p xs n d (omega arith))) ∙ rw (all_front p xs n d (omega arith))

whole : {X : Type 0} (xs : List X) (n : ℕ) → length xs ≡ n → take n xs ≡ xs
whole xs n e = rw (← e) (take-length xs)

-- and of all of them
pub all_listed : {X : Type 0} (p : X → Bool) (xs : List X) (n : ℕ) (d : X) → length xs ≡ n → list_all p xs ≡ all_below n (λ i. p (get_or xs i d))
all_listed p xs n d e = ap (list_all p) (sym (whole xs n e)) ∙ all_front p xs n d (omega arith)

-- and of the numbers below a count
pub all_counted : (f : ℕ → Bool) (n : ℕ) → list_all f (range_with_len 0 n) ≡ all_below n f
all_counted f n =
    all_listed f (range_with_len 0 n) n 0 (length-range_with_len 0 n)
    ∙ all_same n _ f (λ i h. ap f (get_or-range_with_len 0 n i 0 h ∙ zero-add i))

pub same_bytes : (u v : List ℕ) → length u ≡ uuid_bytes → length v ≡ uuid_bytes → bytes_eq u v ≡ same_uuid u v
same_bytes u v l m =
    let d = bytes_eq-Decides u v in
    same_truth (bytes_eq u v) (same_uuid u v)
    (λ e. all_of uuid_bytes (same_at u v) (λ k h. eq-eqb _ _ (ap (λ (w : List ℕ). get_or w k 0) (d.0 e))))
    (λ e. d.1 (ext_get_or 0 u v (l ∙ sym m) (λ k h. eqb-true _ _ (all-at uuid_bytes (same_at u v) e k (omega arith)))))

sum_of_front : (u : List ℕ) (n : ℕ) → n ≤ length u → sum (take n u) ≡ sum_of n u
unfolding sum_of
sum_of_front u zero h = refl
sum_of_front u (suc n) h =
    (rw add-one at (sum_by_more (λ (x : ℕ). x) u n 0 (omega arith)))
    ∙ ap (λ (m : ℕ). m + get_or u n 0) (sum_of_front u n (omega arith))

pub sum_of_bytes : (u : List ℕ) → length u ≡ uuid_bytes → sum u ≡ sum_of uuid_bytes u
sum_of_bytes u l = ap sum (sym (whole u uuid_bytes l)) ∙ sum_of_front u uuid_bytes (omega arith)

-- the components before place i, of which none has its UUID
pub unseen_before : (cs : List Component) (i : ℕ) → i ≤ length cs → list_all (λ c. not (same_uuid c.uuid (get_or cs i absent).uuid)) (take i cs) ≡ unseen cs i
unseen_before cs i h = all_front (λ c. not (same_uuid c.uuid (get_or cs i absent).uuid)) cs i absent h

-- the rules of a board's components, over those within its count, and over the rest of the table
module _ (b : Board) (few : b.components ≤ most_components) (full : length b.component ≡ most_components) where
  pub apart_front : list_all parted_of (take b.components b.component) ≡ apart b
  apart_front = all_front parted_of b.component b.components absent (omega arith)

  unseen_front : (i : ℕ) → i < b.components → unseen (take b.components b.component) i ≡ unseen b.component i
  unseen_front i h =
      all_same i (unlike (take b.components b.component) i) (unlike b.component i)
      (λ j k. let g : j < b.components = omega arith in
      rw (get_or-take b.components b.component i absent h, get_or-take b.components b.component j absent g))

  pub distinct_front : all_below (length (take b.components b.component)) (unseen (take b.components b.component)) ≡ distinct b
  distinct_front =
      let l : length (take b.components b.component) ≡ b.components = length-take-le b.components b.component (omega arith) in
      rw l (all_same b.components (unseen (take b.components b.component)) (unseen b.component) unseen_front)

  pub blank_rest : list_all is_blank (take (length b.component - b.components) (drop b.components b.component)) ≡ blank_past b
  blank_rest =
      let l : length (drop b.components b.component) ≡ most_components - b.components = omega (arith, length-drop b.components b.component) in
      rw (take_rest b.component b.components)
      (all_listed is_blank (drop b.components b.component) (most_components - b.components) absent l
      ∙ all_same _ _ _ (λ j h. ap is_blank (get_or-drop b.components b.component j absent)))

-- what was copied over a part of a buffer is put there
pub put_over : (d : List ℕ) (k n : ℕ) (l : List ℕ) → n ≡ length l → put_mid k n d l ≡ put d k l
put_over d k n l e = put_mid-paste k n d l l n refl refl e ∙ rw e (put-paste d k l)

-- a field is less than its width allows
pub ruleset widths_hold = (value-lt)

-- the UUID at the start of bytes
pub uuid_front : (s : List ℕ) → AreBytes s → uuid_bytes ≤ length s → take uuid_bytes s ≡ uuid_at s 0
uuid_front s b h =
    sym (firsts-part uuid_bytes 0 s 0 (omega arith))
    ∙ firsts_same uuid_bytes (λ j. get_or s (0 + j) 0) (λ j. value_at s (0 + 8 * j) 8) (λ j l. let e : 0 + j ≡ j = omega arith in let f : 0 + 8 * j ≡ 8 * j = omega arith in rw (e, f) (sym (value-byte s j (b j))))

-- what bytes from index k on say of a component is what they say of one k bytes later
module _ (s : List ℕ) (k : ℕ) where
  pub tail_from : (j : ℕ) → tail_field (drop k s) 0 j ≡ tail_field s (8 * k) j
  tail_from j =
      value-drop s k (0 + 8 * uuid_bytes + total (take j tail_widths)) (get_or tail_widths j 0)
      ∙ ap (λ (p : ℕ). value_at s p (get_or tail_widths j 0)) (omega arith)

  pub component_from : component_at (drop k s) 0 ≡ component_at s (8 * k)
  unfolding component_at
  component_from =
      let uuid : uuid_at (drop k s) 0 ≡ uuid_at s (8 * k) =
      firsts_same uuid_bytes _ _ (λ j l. value-drop s k (0 + 8 * j) 8 ∙ ap (λ (p : ℕ). value_at s p 8) (omega arith)) in
      rw (uuid, tail_from 0, tail_from 1, tail_from 2, tail_from 4)

-- a number is written where there is room for it
pub written_room : (s : List ℕ) (k n x : ℕ) → n ≤ widest_bytes → k + n ≤ length s → written s k n x ≡ put s k (bytes n x)
written_room s k n x h g = written-inside s k n x (room s k n h g)
