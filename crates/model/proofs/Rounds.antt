-- Rings read round. Assumes nothing.
use Rattle.std.proofs.Common.{◌≡◌, ℕ, suc, ◌+◌, ◌-◌, ◌%◌, ◌<◌, ◌≤◌, true, ◌⊎◌, List, length, get_or, sym, ap, ◌∙◌, subst, ap₂, subst₂, inl, inr, ⊎_elim, mod-lt, mod-eq_of_lt, zero-add, add-one, arith}
use native.Mathlib.Nat.{mod-eq-sub-mod, add-mod-mod, add-mod_right, mod-add-mod}
use Rattle.std.proofs.lemmas.Bool.{cases_lt, cases_order}
use Rattle.model.specs.Views.{View, step, is_mark, is_hop, is_step, Within}
use Rattle.model.specs.Rings.{sum_to, bit, round, marks_of, hops_of, Cycle, Ring, Turned}
use Rattle.model.specs.Statements.{SameCycle, SameRing}
use Rattle.model.proofs.Sums.{sum_same, sum_shift, sum_plus, sum_ones}
use Rattle.model.proofs.Steps.{counted, step_two, step_within}

-- the place i, read round, is a place of the list
pub round_low : (xs : List ℕ) (i : ℕ) → i < length xs → round xs i ≡ get_or xs i 0
round_low xs i l = ap (λ (p : ℕ). get_or xs p 0) (mod-eq_of_lt l)

pub round_over : (xs : List ℕ) (i : ℕ) → round xs (i + length xs) ≡ round xs i
round_over xs i = ap (λ (p : ℕ). get_or xs p 0) (add-mod_right i (length xs))

pub round_end : (xs : List ℕ) → round xs (length xs) ≡ round xs 0
round_end xs = ap (λ (i : ℕ). round xs i) (sym (zero-add (length xs))) ∙ round_over xs 0

module _ (w : View) (xs : List ℕ) (c : Cycle w xs) where
  pub some : 0 < length xs
  some = let l : 2 ≤ length xs = c.long in omega arith

  place : (i : ℕ) → i % length xs < length xs
  place i = mod-lt i some

  -- what a cycle says at every place, read round
  pub round_below : (i : ℕ) → round xs i < 64
  round_below i = c.below (i % length xs) (place i)

  pub round_stand : (i : ℕ) → w.stands (round xs i) ≡ true
  round_stand i = c.stand (i % length xs) (place i)

  pub round_steps : (i : ℕ) → is_step w (round xs i) (round xs (suc i)) ≡ true
  round_steps i =
      let p = i % length xs in
      let here : round xs (i % length xs) ≡ round xs i = round_low xs (i % length xs) (place i) in
      let next : round xs (suc (i % length xs)) ≡ round xs (suc i) = ap (λ (q : ℕ). get_or xs q 0) (ap (λ (q : ℕ). q % length xs) (sym (add-one (i % length xs))) ∙ mod-add-mod i (length xs) 1 ∙ ap (λ (q : ℕ). q % length xs) (add-one i)) in
      subst₂ (λ (a b : ℕ). is_step w a b ≡ true) here next (c.steps (i % length xs) (place i))

  pub e_and_h : marks_of w xs + hops_of w xs ≡ length xs
  e_and_h = sym (sum_plus (λ i. bit (is_mark w (round xs i) (round xs (suc i)))) (λ i. bit (is_hop w (round xs i) (round xs (suc i)))) (length xs))
      ∙ sum_same (λ i. bit (is_mark w (round xs i) (round xs (suc i))) + bit (is_hop w (round xs i) (round xs (suc i)))) (λ i. 1) (length xs) (λ i l. counted (step w (round xs i) (round xs (suc i))) (c.steps i l))
      ∙ sum_ones (length xs)

-- a place within two turns
mod_two : (n m : ℕ) → n < m + m → ((n < m) × (n % m ≡ n)) ⊎ ((m ≤ n) × (n % m ≡ n - m))
mod_two n m l = ⊎_elim
    (λ (h : n < m). inl (h, mod-eq_of_lt h))
    (λ (h : m ≤ n). let k : n - m < m = omega arith in inr (h, mod-eq-sub-mod h ∙ mod-eq_of_lt k))
    (cases_lt n m)

-- two places less than a turn apart are different places
places_apart : (m i j r : ℕ) → i < j → j < m → (i + r) % m ≡ (j + r) % m → ⊥
places_apart m i j r l u e =
    let s : r % m < m = mod-lt r (omega arith) in
    go (mod_two (i + r % m) m (omega arith)) (mod_two (j + r % m) m (omega arith)) (add-mod-mod i r m ∙ e ∙ sym (add-mod-mod j r m))
  where
    go : ((i + r % m < m) × ((i + r % m) % m ≡ i + r % m)) ⊎ ((m ≤ i + r % m) × ((i + r % m) % m ≡ i + r % m - m)) → ((j + r % m < m) × ((j + r % m) % m ≡ j + r % m)) ⊎ ((m ≤ j + r % m) × ((j + r % m) % m ≡ j + r % m - m)) → (i + r % m) % m ≡ (j + r % m) % m → ⊥
    go (inl a) (inl b) q = omega (arith, sym a.1 ∙ q ∙ b.1)
    go (inl a) (inr b) q = omega (arith, sym a.1 ∙ q ∙ b.1, a.0, b.0)
    go (inr a) (inl b) q = omega (arith, sym a.1 ∙ q ∙ b.1, a.0, b.0)
    go (inr a) (inr b) q = omega (arith, sym a.1 ∙ q ∙ b.1, a.0, b.0)

module _ (r : ℕ) (xs ys : List ℕ) (t : Turned r xs ys) (some : 0 < length xs) where
  pub turned_round : (i : ℕ) → round ys i ≡ round xs (i + r)
  turned_round i =
      ap (λ (n : ℕ). get_or ys (i % n) 0) t.long
      ∙ t.places (i % length xs) (mod-lt i some)
      ∙ ap (λ (p : ℕ). get_or xs p 0) (mod-add-mod i (length xs) r)

  -- a count of the steps round
  pub turned_sum : (q : ℕ → ℕ → ℕ) → sum_to (λ i. q (round ys i) (round ys (suc i))) (length ys) ≡ sum_to (λ i. q (round xs i) (round xs (suc i))) (length xs)
  turned_sum q =
      ap (λ (n : ℕ). sum_to (λ i. q (round ys i) (round ys (suc i))) n) t.long
      ∙ sum_same (λ i. q (round ys i) (round ys (suc i))) (λ i. q (round xs (i + r)) (round xs (suc (i + r)))) (length xs)
      (λ i l. ap₂ q (turned_round i) (turned_round (suc i) ∙ ap (λ (p : ℕ). round xs p) (omega arith)))
      ∙ sum_shift (λ i. q (round xs i) (round xs (suc i))) (length xs) r
      (λ i. ap₂ q (round_over xs i) (ap (λ (p : ℕ). round xs p) (omega arith) ∙ round_over xs (suc i)))

module _ (w : View) (r : ℕ) (xs ys : List ℕ) (t : Turned r xs ys) (c : Cycle w xs) where
  turned_apart : (i j : ℕ) → i < j → j < length xs → round xs (i + r) ≡ round xs (j + r) → ⊥
  turned_apart i j l u e =
      let p : (i + r) % length xs < length xs = mod-lt (i + r) (some w xs c) in
      let q : (j + r) % length xs < length xs = mod-lt (j + r) (some w xs c) in
      go (cases_order ((i + r) % length xs) ((j + r) % length xs)) p q
    where
      go : ((i + r) % length xs ≡ (j + r) % length xs) ⊎ (((i + r) % length xs < (j + r) % length xs) ⊎ ((j + r) % length xs < (i + r) % length xs)) → (i + r) % length xs < length xs → (j + r) % length xs < length xs → ⊥
      go (inl s) p q = places_apart (length xs) i j r l u s
      go (inr (inl s)) p q = c.apart ((i + r) % length xs) ((j + r) % length xs) s q e
      go (inr (inr s)) p q = c.apart ((j + r) % length xs) ((i + r) % length xs) s p (sym e)

  at_place : (i : ℕ) → i < length ys → get_or ys i 0 ≡ round xs (i + r)
  at_place i l = t.places i (subst (λ (n : ℕ). i < n) t.long l)

  pub turned_cycle : Cycle w ys
  turned_cycle = record {
    long = subst (λ (n : ℕ). 2 ≤ n) (sym t.long) c.long;
    below = λ i l. subst (λ (x : ℕ). x < 64) (sym (at_place i l)) (round_below w xs c (i + r));
    stand = λ i l. subst (λ (x : ℕ). w.stands x ≡ true) (sym (at_place i l)) (round_stand w xs c (i + r));
    apart = λ i j l u e. turned_apart i j l (subst (λ (n : ℕ). j < n) t.long u) (sym (at_place i (let m : j < length ys = u in omega arith)) ∙ e ∙ at_place j u);
    steps = λ i l. subst₂ (λ (a b : ℕ). is_step w a b ≡ true) (sym (turned_round r xs ys t (some w xs c) i)) (sym (turned_round r xs ys t (some w xs c) (suc i) ∙ ap (λ (p : ℕ). round xs p) (omega arith))) (round_steps w xs c (i + r));
  }

  pub turned : SameCycle w xs ys
  turned = record {
    cycle = turned_cycle;
    marks = turned_sum r xs ys t (some w xs c) (λ u v. bit (is_mark w u v));
    hops = turned_sum r xs ys t (some w xs c) (λ u v. bit (is_hop w u v));
  }

module _ (a b : View) (xs : List ℕ) (within : Within a b) (r : Ring a xs) where
  same_step : (i : ℕ) → step a (round xs i) (round xs (suc i)) ≡ step b (round xs i) (round xs (suc i))
  same_step i = step_within a b (round xs i) (round xs (suc i)) within (step_two a (round xs i) (round xs (suc i)) (round_steps a xs r.cycle i))

  pub fewer : SameRing a b xs
  fewer = record {
    ring = record {
      cycle = record {
        long = r.cycle.long;
        below = r.cycle.below;
        stand = λ i l. within.stands (get_or xs i 0) (r.cycle.stand i l);
        apart = r.cycle.apart;
        steps = λ i l. rw (same_step i) at (r.cycle.steps i l);
      };
      first = r.first;
    };
    marks = sum_same (λ i. bit (is_mark b (round xs i) (round xs (suc i)))) (λ i. bit (is_mark a (round xs i) (round xs (suc i)))) (length xs) (λ i l. rw (same_step i));
    hops = sum_same (λ i. bit (is_hop b (round xs i) (round xs (suc i)))) (λ i. bit (is_hop a (round xs i) (round xs (suc i)))) (length xs) (λ i l. rw (same_step i));
  }
