-- A part of a walk read downward, round and round, and what sums over its steps are. Assumes nothing.
use Rattle.std.proofs.Common.{◌≡◌, ℕ, suc, ◌+◌, ◌-◌, ◌%◌, ◌<◌, ◌≤◌, List, map, length, get_or, sym, ap, ◌∙◌, subst, ap₂, ⊎_elim, mod-lt, mod-eq_of_lt, zero-add, arith}
use native.Mathlib.Nat.{mod_self, mod-mod}
use Rattle.std.specs.List.{range_with_len}
use Rattle.std.proofs.lemmas.List.FromFn.{length-map-range_with_len, get_or-map-range_with_len}
use Rattle.std.proofs.lemmas.Bool.{cases_lt}
use Rattle.model.specs.Rings.{sum_to, round, Turned}
use Rattle.model.proofs.Sums.{sum_same, sum_back}
use Rattle.model.proofs.Rounds.{turned_sum}

-- ys from the place high down, round and round after k places
abbrev pub downward : List ℕ → ℕ → ℕ → ℕ → ℕ
downward ys high k i = get_or ys (high - i % k) 0

abbrev pub plain : List ℕ → ℕ → ℕ → List ℕ
plain ys high k = map (downward ys high k) (range_with_len 0 k)

-- ---- the places
module _ (ys : List ℕ) (low high k : ℕ) (some : 0 < k) (high_is : low + k ≡ high) (closed : get_or ys high 0 ≡ get_or ys low 0) where
  pub plain_long : length (plain ys high k) ≡ k
  plain_long = length-map-range_with_len (downward ys high k) 0 k

  pub plain_at : (i : ℕ) → i < k → get_or (plain ys high k) i 0 ≡ downward ys high k i
  plain_at i l = get_or-map-range_with_len (downward ys high k) 0 k i i 0 l (zero-add i)

  pub plain_round : (i : ℕ) → round (plain ys high k) i ≡ downward ys high k i
  plain_round i =
      ap (λ (n : ℕ). get_or (plain ys high k) (i % n) 0) plain_long
      ∙ plain_at (i % k) (mod-lt i some)
      ∙ ap (λ (p : ℕ). get_or ys (high - p) 0) (mod-mod i k)

  pub down_here : (i : ℕ) → i < k → downward ys high k i ≡ get_or ys (high - i) 0
  down_here i l = ap (λ (p : ℕ). get_or ys (high - p) 0) (mod-eq_of_lt l)

  pub down_next : (i : ℕ) → i < k → downward ys high k (suc i) ≡ get_or ys (high - suc i) 0
  down_next i l = ⊎_elim
      (λ (h : suc i < k). down_here (suc i) h)
      (λ (h : k ≤ suc i).
      let e : suc i ≡ k = omega arith in
      let at_low : low ≡ high - suc i = omega arith in
      let at_high : high - 0 ≡ high = omega arith in
      ap (λ (p : ℕ). get_or ys (high - p % k) 0) e ∙ ap (λ (p : ℕ). get_or ys (high - p) 0) (mod_self k) ∙ ap (λ (p : ℕ). get_or ys p 0) at_high ∙ closed ∙ ap (λ (p : ℕ). get_or ys p 0) at_low)
      (cases_lt (suc i) k)

  -- a count of the steps of the walk, from below, is that of the steps down
  pub down_sum : (q : ℕ → ℕ → ℕ) → sum_to (λ i. q (downward ys high k i) (downward ys high k (suc i))) k ≡ sum_to (λ j. q (get_or ys (suc (low + j)) 0) (get_or ys (low + j) 0)) k
  down_sum q =
      sum_same (λ i. q (downward ys high k i) (downward ys high k (suc i))) (λ i. q (get_or ys (suc (low + (k - suc i))) 0) (get_or ys (low + (k - suc i)) 0)) k
      (λ i l.
      let a : high - i ≡ suc (low + (k - suc i)) = omega arith in
      let b : high - suc i ≡ low + (k - suc i) = omega arith in
      ap₂ q (down_here i l ∙ ap (λ (p : ℕ). get_or ys p 0) a) (down_next i l ∙ ap (λ (p : ℕ). get_or ys p 0) b))
      ∙ sum_back (λ j. q (get_or ys (suc (low + j)) 0) (get_or ys (low + j) 0)) k

  module _ (r : ℕ) (zs : List ℕ) (long : length zs ≡ k) (places : (i : ℕ) → i < k → get_or zs i 0 ≡ get_or ys (high - (i + r) % k) 0) where
    pub is_turned : Turned r (plain ys high k) zs
    is_turned = record {
      long = long ∙ sym plain_long;
      places = λ i l. places i (subst (λ (n : ℕ). i < n) plain_long l) ∙ sym (plain_round (i + r));
    }

    pub ring_sum : (q : ℕ → ℕ → ℕ) → sum_to (λ i. q (round zs i) (round zs (suc i))) (length zs) ≡ sum_to (λ j. q (get_or ys (suc (low + j)) 0) (get_or ys (low + j) 0)) k
    ring_sum q =
        turned_sum r (plain ys high k) zs is_turned (subst (λ (n : ℕ). 0 < n) (sym plain_long) some) q
        ∙ ap (λ (n : ℕ). sum_to (λ i. q (round (plain ys high k) i) (round (plain ys high k) (suc i))) n) plain_long
        ∙ sum_same (λ i. q (round (plain ys high k) i) (round (plain ys high k) (suc i))) (λ i. q (downward ys high k i) (downward ys high k (suc i))) k (λ i l. ap₂ q (plain_round i) (plain_round (suc i)))
        ∙ down_sum q
