-- What the rows of a bit sheet mean before and after one bit is changed. Assumes nothing.
use Rattle.std.proofs.Common.{◌≡◌, ℕ, zero, ◌+◌, ◌<◌, ◌≤◌, Bool, true, false, cond, ◌&&◌, eqb, ◌⊎◌, ◌^◌, List, [], ◌∷◌, length, get_or, set, replicate, Ok, sym, ap, ◌∙◌, inl, inr, arith, get_or-set_other, get_or-set_same}
use mathlib.Core.Path.{fun_ext}
use lib.ListN.{get_or-replicate, length-replicate}
use lib.Count.{ones, ones-le}
use Rattle.std.specs.List.{sum_by}
use Rattle.std.proofs.lemmas.List.Sums.{sum_by-cons}
use Rattle.std.proofs.lemmas.List.{get_or_past}
use Rattle.std.proofs.lemmas.Bool.{cases_lt, cases_Bool, cases_eq, eq-eqb, ne_eqb}
use Rattle.model.specs.Rings.{bit, sum_to}
use Rattle.model.specs.Sets.{has, put}
use Rattle.model.proofs.Digits.{has_bound, has_zero, ones_count}
use Rattle.model.proofs.Sums.{sum_none, sum_front, sum_same, sum_bound}
use Rattle.sheet.specs.Meanings.{pairs, empty}
use Rattle.sheet.specs.Checks.{pair_check, mark_check, strike_check}
use Rattle.sheet.specs.Calls.{put_mark, marked, struck, Called}
use Rattle.sheet.specs.Kept.{present_states, Irreflexive, PresentFrom}
use Rattle.sheet.specs.Rows.{row_marks, rows_meaning}
use Rattle.sheet.specs.Counts.{pairs_room}
use Rattle.sheet.proofs.Checking.{low_left, low_right}
use Rattle.sheet.proofs.Changes.{pairs_none, put_irreflexive, pairs_put}
use Rattle.sheet.proofs.Keeping.{Written, bare_empty, passed_clear, mark_taken, strike_taken}

-- no row of a number above 63 has a bit
pub far_row : (present : ℕ) (rows : List ℕ) → PresentFrom present (row_marks rows) → (u v : ℕ) → 64 ≤ u → row_marks rows u v ≡ false
far_row present rows from u v h = go (cases_Bool (row_marks rows u v))
  where
    go : (row_marks rows u v ≡ true) ⊎ (row_marks rows u v ≡ false) → row_marks rows u v ≡ false
    go (inl e) = absurd (omega (arith, has_bound present u (from u v e)))
    go (inr e) = e

-- rows of zeros: nothing is marked
pub zeros_at : {rows : List ℕ} → rows ≡ replicate 64 0 → (u v : ℕ) → has (get_or rows u 0) v ≡ false
zeros_at e u v = ap (λ xs. has (get_or xs u 0) v) e ∙ go (cases_lt u 64)
  where
    go : (u < 64) ⊎ (64 ≤ u) → has (get_or (replicate 64 0) u 0) v ≡ false
    go (inl h) = ap (λ (x : ℕ). has x v) (get_or-replicate 64 u 0 0 h) ∙ has_zero v
    go (inr h) = ap (λ (x : ℕ). has x v) (get_or_past (replicate 64 0) u 0 (omega (arith, length-replicate 64 (zero)))) ∙ has_zero v

pub zeros_empty : {present : ℕ} {rows : List ℕ} → present ≡ 0 → rows ≡ replicate 64 0 → rows_meaning present rows ≡ empty 4032
zeros_empty none e =
    let bare : row_marks _ ≡ (λ u v. false) = fun_ext (λ u. fun_ext (λ v. zeros_at e u v)) in
    bare_empty 4032 none bare (ap pairs bare ∙ pairs_none)

-- a sum over the items of a list is one over their places
sum_places : (f : ℕ → ℕ) (xs : List ℕ) → sum_by f xs ≡ sum_to (λ i. f (get_or xs i 0)) (length xs)
sum_places f [] = sym (sum_none (λ i. f (get_or [] i 0)))
sum_places f (x ∷ xs) = sum_by-cons f x xs ∙ ap (λ (n : ℕ). f x + n) (sum_places f xs) ∙ sym (sum_front (λ i. f (get_or (x ∷ xs) i 0)) (length xs))

-- 64 rows have as many ones as there are marked pairs
module _ (rows : List ℕ) (long : length rows ≡ 64) (fit : (u : ℕ) → get_or rows u 0 < 2 ^ 64) where
  pub in_places : sum_by ones rows ≡ sum_to (λ u. ones (get_or rows u 0)) 64
  in_places = sum_places ones rows ∙ ap (sum_to (λ u. ones (get_or rows u 0))) long

  pub ones_fit : sum_by ones rows < 2 ^ 16
  ones_fit = omega (arith, in_places, sum_bound (λ u. ones (get_or rows u 0)) 64 64 (λ u _. ones-le 64 (get_or rows u 0) (fit u)))

  pub ones_pairs : sum_by ones rows ≡ pairs (row_marks rows)
  unfolding pairs
  ones_pairs =
      in_places ∙ sum_same (λ u. ones (get_or rows u 0)) (λ u. sum_to (λ v. bit (row_marks rows u v)) 64) 64 (λ u _. ones_count (get_or rows u 0) (fit u))

-- One bit of a row changed is one mark changed:
-- row u reads as the new word, and every other row as before.
marks_set : (rows : List ℕ) (u v w : ℕ) (b : Bool) → u < length rows → has w ≡ put (has (get_or rows u 0)) v b → row_marks (set rows u w) ≡ put_mark (row_marks rows) u v b
unfolding put_mark put
marks_set rows u v w b h e = fun_ext (λ x. fun_ext (λ y. go x y (cases_eq x u)))
  where
    go : (x y : ℕ) → (x ≡ u) ⊎ (x ≡ u → ⊥) → has (get_or (set rows u w) x 0) y ≡ cond (eqb x u && eqb y v) b (has (get_or rows x 0) y)
    go x y (inl i) =
        simp (eq-eqb x u i) (
        ap (λ (k : ℕ). has (get_or (set rows u w) k 0) y) i ∙ ap (λ (n : ℕ). has n y) (get_or-set_same rows u w 0 h)
        ∙ ap (λ f. f y) e ∙ ap (λ (k : ℕ). cond (eqb y v) b (has (get_or rows k 0) y)) (sym i))
    go x y (inr ne) = simp (ne_eqb x u ne) (ap (λ (n : ℕ). has n y) (get_or-set_other rows u x w 0 ne))

-- A row that is read, changed at one bit and written back, after the pair passed the checks:
-- they put u and v below 64, so that row and bit are there to be written.
pub written_back : {present u v row : ℕ} {b : Bool} (rows after : List ℕ) (w : ℕ)
    → 0 ≡ pair_check u v (present_states present u) (present_states present v) 0
    → row ≡ get_or rows u 0 → (v < 64 → has w ≡ put (has row) v b) → after ≡ set rows u w → length rows ≡ 64
    → Written present (row_marks rows) (row_marks after) u v b
written_back {present = present} {u = u} {v = v} {b = b} rows after w passed read bits e long =
    let clear = passed_clear present u v passed in
    let low : u < length rows = omega (arith, low_left u v clear) in
    record {
      clear = clear;
      marks = ap row_marks e ∙ marks_set rows u v w b low (bits (low_right u v clear) ∙ ap (λ (n : ℕ). put (has n) v b) read);
    }

module _ {present u v : ℕ} (rows after : List ℕ) where
  written_pairs : {b : Bool} → Written present (row_marks rows) (row_marks after) u v b
      → pairs (row_marks after) + bit (row_marks rows u v) ≡ pairs (row_marks rows) + bit b
  written_pairs {b = b} w =
      ap (λ m. pairs m + bit (row_marks rows u v)) w.marks ∙ pairs_put (row_marks rows) u v b (low_left u v w.clear) (low_right u v w.clear)

  -- Marking an unmarked pair is taken: there was room for it,
  -- since with it there are one pair more, and still at most 4,032.
  pub row_marked : Written present (row_marks rows) (row_marks after) u v true → Irreflexive (row_marks rows) → row_marks rows u v ≡ false
      → Called (mark_check (rows_meaning present rows) u v) (rows_meaning present rows) (marked (rows_meaning present rows) u v) (rows_meaning present after) (Ok tt)
  row_marked w free bare =
      let more : pairs (row_marks after) ≡ pairs (row_marks rows) + 1 = omega (arith, written_pairs w, ap bit bare) in
      let still : Irreflexive (row_marks after) = λ x. ap (λ f. f x x) w.marks ∙ put_irreflexive (row_marks rows) u v true w.clear.apart free x in
      mark_taken w bare (λ full. omega (arith, pairs_room (row_marks after) still)) more

  -- striking a marked pair is taken, and leaves one pair less
  pub row_struck : Written present (row_marks rows) (row_marks after) u v false → row_marks rows u v ≡ true
      → Called (strike_check (rows_meaning present rows) u v) (rows_meaning present rows) (struck (rows_meaning present rows) u v) (rows_meaning present after) (Ok tt)
  row_struck w there = strike_taken w there (omega (arith, written_pairs w, ap bit there))
