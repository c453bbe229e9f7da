-- The bits of a word, one by one and counted. Assumes nothing.
use Rattle.std.proofs.Common.{◌≡◌, ℕ, zero, suc, ◌-◌, ◌*◌, ◌/◌, ◌%◌, ◌^◌, ◌<◌, ◌≤◌, min, Bool, true, false, not, cond, ◌&&◌, eqb, ltb, ◌⊎◌, ◌≢◌, sym, refl, ap, ◌∙◌, subst, inl, inr, add-one, arith, shr_lt}
use mathlib.Core.Path.{fun_ext}
use Rattle.std.proofs.Math.Bool.{and-false}
use lib.Bits.{bit_or, bit_and, and_le_l}
use lib.Count.{ones, ones_step}
use Rattle.std.specs.Int.{w64, bit_at, bit_not, trailing_zeros}
use Rattle.std.proofs.lemmas.Nat.Bits.{bit_at-zero, bit_at_lowest, bit_at-suc, bit_at-lt, bit_at_and, bit_at_not, bit_at_ones, bit_at-trailing_zeros, bit_at_set_same, bit_at_set_other, bit_at_clear_same, bit_at_clear_other}
use Rattle.std.proofs.lemmas.Bool.{cases_lt, cases_eq, lt-ltb, le-ltb, ltb-true, eq-eqb, ne_eqb, and_parts}
use Rattle.model.proofs.Steps.{clash}
use Rattle.model.specs.Rings.{bit, sum_to}
use Rattle.model.specs.Sets.{has, put, Lowest}
use Rattle.model.proofs.Sums.{sum_same, sum_front}

-- one bit made b: the other bits are as they were
put_bit : (n w u : ℕ) (b : Bool) → u < 64 → bit_at w u ≡ bit b → ((x : ℕ) → x < 64 → x ≢ u → bit_at w x ≡ bit_at n x) → has w ≡ put (has n) u b
unfolding has put
put_bit n w u b low here there = fun_ext (λ x. go x (cases_eq x u) (cases_lt x 64))
  where
    bit_one : (t : Bool) → eqb (bit t) 1 ≡ t
    bit_one true = refl
    bit_one false = refl

    go : (x : ℕ) → (x ≡ u) ⊎ (x ≢ u) → (x < 64) ⊎ (64 ≤ x) → has w x ≡ put (has n) u b x
    go x (inl e) far = simp (e, eq-eqb u u refl, lt-ltb u 64 low, here) (bit_one b)
    go x (inr ne) (inl l) = simp (ne_eqb x u ne, there x l ne)
    go x (inr ne) (inr h) = simp (ne_eqb x u ne, le-ltb x 64 h)

pub has_set : (n u : ℕ) → u < 64 → has (bit_or n (1 * 2 ^ u % 2 ^ 64)) ≡ put (has n) u true
has_set n u h = put_bit n _ u true h (bit_at_set_same w64 n u h) (λ x _ ne. bit_at_set_other w64 n u h x ne)

pub has_clear : (n u : ℕ) → u < 64 → has (bit_and n (bit_not w64 (1 * 2 ^ u % 2 ^ 64))) ≡ put (has n) u false
has_clear n u h = put_bit n _ u false h (bit_at_clear_same w64 n u h) (λ x l ne. bit_at_clear_other w64 n u h x l ne)

pub has_bound : (n u : ℕ) → has n u ≡ true → u < 64
unfolding has
has_bound n u h = ltb-true u 64 (and_parts (ltb u 64) (eqb (bit_at n u) 1) h).0

pub put_same : (f : ℕ → Bool) (u : ℕ) (b : Bool) → f u ≡ b → f ≡ put f u b
unfolding put
put_same f u b e = fun_ext (λ x. go x (cases_eq x u))
  where
    go : (x : ℕ) → (x ≡ u) ⊎ (x ≡ u → ⊥) → f x ≡ put f u b x
    go x (inl i) = simp (eq-eqb x u i) (ap f i ∙ e)
    go x (inr ne) = simp (ne_eqb x u ne)

pub put_here : (f : ℕ → Bool) (u : ℕ) (b : Bool) → put f u b u ≡ b
unfolding put
put_here f u b = simp (eq-eqb u u refl)

pub put_other : (f : ℕ → Bool) (u x : ℕ) (b : Bool) → x ≢ u → put f u b x ≡ f x
unfolding put
put_other f u x b ne = simp (ne_eqb x u ne)

-- with one number more, all that were in are in still
pub put_more : (f : ℕ → Bool) (u x : ℕ) → f x ≡ true → put f u true x ≡ true
unfolding put
put_more f u x h = go (eqb x u)
  where
    go : (t : Bool) → cond t true (f x) ≡ true
    go true = refl
    go false = h

pub has_zero : (u : ℕ) → has 0 u ≡ false
unfolding has
has_zero u = simp bit_at-zero (and-false (ltb u 64))

-- how many bits are set, digit by digit
ones_digits : (k n : ℕ) → n < 2 ^ k → ones n ≡ sum_to (bit_at n) k
unfolding sum_to ones
ones_digits zero n h = let e : n ≡ 0 = omega arith in ap ones e
ones_digits (suc k) n h =
    let half : n / 2 < 2 ^ k = shr_lt k 1 (subst (λ (x : ℕ). n < 2 ^ x) (sym (add-one k)) h) in
    let rest : ones (n / 2) ≡ sum_to (λ i. bit_at n (suc i)) k = ones_digits k (n / 2) half ∙ sum_same (bit_at (n / 2)) (λ i. bit_at n (suc i)) k (λ i _. sym (bit_at-suc n i)) in
    omega (arith, ones_step n, rest, bit_at_lowest n, sum_front (bit_at n) k)

bit_here : (n k : ℕ) → k < 64 → bit_at n k ≡ bit (has n k)
unfolding has
bit_here n k h = simp (lt-ltb k 64 h) (go (bit_at n k) (bit_at-lt n k))
  where
    go : (d : ℕ) → d < 2 → d ≡ bit (eqb d 1)
    go zero l = refl
    go (suc zero) l = refl
    go (suc (suc d)) l = omega arith

pub ones_count : (n : ℕ) → n < 2 ^ 64 → ones n ≡ sum_to (λ k. bit (has n k)) 64
ones_count n h = ones_digits 64 n h ∙ sum_same (bit_at n) (λ k. bit (has n k)) 64 (bit_here n)

pub has_beyond : (n u : ℕ) → 63 < u → has n u ≡ false
unfolding has
has_beyond n u h = simp (le-ltb u 64 h)

-- ---- two words
pub has_and : (a b u : ℕ) → has (bit_and a b) u ≡ (has a u && has b u)
unfolding has
has_and a b u = go (ltb u 64)
  where
    both : (x y : ℕ) → x < 2 → y < 2 → eqb (min x y) 1 ≡ (eqb x 1 && eqb y 1)
    both zero zero l m = refl
    both zero (suc zero) l m = refl
    both (suc zero) zero l m = refl
    both (suc zero) (suc zero) l m = refl
    both (suc (suc x)) y l m = absurd (omega arith)
    both zero (suc (suc y)) l m = absurd (omega arith)
    both (suc zero) (suc (suc y)) l m = absurd (omega arith)

    go : (t : Bool) → (t && eqb (bit_at (bit_and a b) u) 1) ≡ ((t && eqb (bit_at a u) 1) && (t && eqb (bit_at b u) 1))
    go true = ap (λ (x : ℕ). eqb x 1) (bit_at_and a b u) ∙ both (bit_at a u) (bit_at b u) (bit_at-lt a u) (bit_at-lt b u)
    go false = refl

-- the complement, where there are bits
has_not : (n u : ℕ) → n < 2 ^ 64 → u < 64 → has (bit_not w64 n) u ≡ not (has n u)
unfolding has
has_not n u fits l = rw (lt-ltb u 64 l) (ap (λ (x : ℕ). eqb x 1) (bit_at_not w64 n u fits l) ∙ turned (bit_at n u) (bit_at-lt n u))
  where
    turned : (x : ℕ) → x < 2 → eqb (1 - x) 1 ≡ not (eqb x 1)
    turned zero m = refl
    turned (suc zero) m = refl
    turned (suc (suc x)) m = absurd (omega arith)

pub has_without : (a b u : ℕ) → b < 2 ^ 64 → has (bit_and a (bit_not w64 b)) u ≡ (has a u && not (has b u))
has_without a b u fits = has_and a (bit_not w64 b) u ∙ go (cases_lt u 64)
  where
    go : (u < 64) ⊎ (64 ≤ u) → (has a u && has (bit_not w64 b) u) ≡ (has a u && not (has b u))
    go (inl l) = ap (λ (t : Bool). has a u && t) (has_not b u fits l)
    go (inr h) = rw (has_beyond a u (omega arith)) refl

-- ---- a word without one of its bits is smaller
pub clear_smaller : (n m u : ℕ) → has n u ≡ true → has (bit_and n m) ≡ put (has n) u false → bit_and n m < n
unfolding put
clear_smaller n m u is e =
    let below = and_le_l n m in
    let differs : bit_and n m ≢ n = λ same. clash (has n u) is (ap (λ (x : ℕ). has x u) (sym same) ∙ ap (λ (f : ℕ → Bool). f u) e ∙ simp (eq-eqb u u refl)) in
    omega arith

by_digit : (n k d : ℕ) → k < 64 → bit_at n k ≡ d → has n k ≡ eqb d 1
unfolding has
by_digit n k d l at_k = rw (lt-ltb k 64 l) (ap (λ (x : ℕ). eqb x 1) at_k)

-- the lowest 1 of a word that is not 0
pub lowest_of : (n : ℕ) → n ≢ 0 → n < 2 ^ 64 → Lowest n (trailing_zeros w64 n)
lowest_of n some fits =
    let found = bit_at-trailing_zeros w64 n (omega arith) fits in
    record {
      low = found.0;
      here = by_digit n (trailing_zeros w64 n) 1 found.0 found.1;
      least = λ k l. by_digit n k 0 (omega arith) (found.2 k l);
    }

-- the word with all 64 bits
pub has_all : (u : ℕ) → u < 64 → has 18446744073709551615 u ≡ true
has_all u l = by_digit 18446744073709551615 u 1 l (bit_at_ones 64 u l)
