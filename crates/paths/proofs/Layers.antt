-- The layers: each is at most the one before, and what a fall from one to the next tells. Assumes nothing.
use Rattle.std.proofs.Common.{◌≡◌, ℕ, zero, suc, ◌+◌, ◌<◌, ◌≤◌, Bool, true, false, cond, ◌⊎◌, sym, refl, ap, ◌∙◌, subst, inl, inr, ⊎_elim, add-zero, add-suc, arith}
use Rattle.std.proofs.lemmas.Bool.{cases_eq}
use Rattle.scale.specs.declared.scale.Scale.{Ghosts}
use Rattle.scale.proofs.Order.{HasLaws, by_bool, proved, clash, asym, lt_le_trans, le_trans, falls}
use Rattle.paths.specs.Steps.{Steps}
use Rattle.paths.specs.Levels.{pick, reach, level}
use Rattle.paths.specs.Walks.{total}

-- v is below suc n: it is n, or below n
last : (v n : ℕ) → v < suc n → (v ≡ n) ⊎ (v < n)
last v n h = ⊎_elim (λ (e : v ≡ n). inl e) (λ (ne : v ≡ n → ⊥). inr (omega arith)) (cases_eq v n)

-- the values of the steps of y, each from suc j down to j, from the place a on
abbrev pub down : {V : Type 0} → Steps V → (ℕ → ℕ) → ℕ → ℕ → V
down steps y a j = steps.cost (y (suc (a + j))) (y (a + j))

module _ {V : Type 0} (s : Ghosts V) (laws : HasLaws s) where
  abbrev nothing : V
  nothing = s.nothing

  abbrev plus : V → V → V
  plus = s.plus

  abbrev less : V → V → Bool
  less = s.less

  -- ---- one choice
  pick_at_most : (ok : Bool) (cand acc : V) → less acc (pick s ok cand acc) ≡ false
  pick_at_most true cand acc = by_bool (less cand acc)
      (λ e. ap (λ (t : Bool). less acc (cond t cand acc)) e ∙ asym s laws cand acc e)
      (λ e. ap (λ (t : Bool). less acc (cond t cand acc)) e ∙ laws.irrefl acc)
  pick_at_most false cand acc = laws.irrefl acc

  pick_below : (ok : Bool) (cand acc : V) → ok ≡ true → less cand (pick s ok cand acc) ≡ false
  pick_below true cand acc o = by_bool (less cand acc)
      (λ e. ap (λ (t : Bool). less cand (cond t cand acc)) e ∙ laws.irrefl cand)
      (λ e. ap (λ (t : Bool). less cand (cond t cand acc)) e ∙ e)
  pick_below false cand acc o = absurd (clash false o refl)

  pick_keeps : (P : V → Type 0) (ok : Bool) (cand acc : V) → (ok ≡ true → P cand) → P acc → P (pick s ok cand acc)
  pick_keeps P true cand acc f g = by_bool (less cand acc)
      (λ e. subst (λ (t : Bool). P (cond t cand acc)) (sym e) (f refl))
      (λ e. subst (λ (t : Bool). P (cond t cand acc)) (sym e) g)
  pick_keeps P false cand acc f g = g

  -- ---- one node
  module _ (steps : Steps V) (prev : ℕ → V) (u : ℕ) where
    -- what holds of prev u, and of each step, holds of the least
    pub reach_keeps : (P : V → Type 0) (n : ℕ) → P (prev u) → ((v : ℕ) → v < n → steps.has u v ≡ true → P (plus (steps.cost u v) (prev v))) → P (reach s steps prev u n)
    unfolding reach
    reach_keeps P zero b f = b
    reach_keeps P (suc n) b f = pick_keeps P (steps.has u n) (plus (steps.cost u n) (prev n)) (reach s steps prev u n) (f n (omega arith)) (reach_keeps P n b (λ v h. f v (omega arith)))

    reach_at_most : (n : ℕ) → less (prev u) (reach s steps prev u n) ≡ false
    unfolding reach
    reach_at_most zero = laws.irrefl (prev u)
    reach_at_most (suc n) = le_trans s laws (reach s steps prev u (suc n)) (reach s steps prev u n) (prev u) (pick_at_most (steps.has u n) (plus (steps.cost u n) (prev n)) (reach s steps prev u n)) (reach_at_most n)

    reach_below : (n v : ℕ) → v < n → steps.has u v ≡ true → less (plus (steps.cost u v) (prev v)) (reach s steps prev u n) ≡ false
    unfolding reach
    reach_below zero v h is = absurd (omega arith)
    reach_below (suc n) v h is = go (last v n h) (λ l. reach_below n v l is)
      where
        go : (v ≡ n) ⊎ (v < n) → (v < n → less (plus (steps.cost u v) (prev v)) (reach s steps prev u n) ≡ false) → less (plus (steps.cost u v) (prev v)) (reach s steps prev u (suc n)) ≡ false
        go (inl e) ih = subst (λ (w : ℕ). less (plus (steps.cost u w) (prev w)) (reach s steps prev u (suc n)) ≡ false) (sym e) (pick_below (steps.has u n) (plus (steps.cost u n) (prev n)) (reach s steps prev u n) (subst (λ (w : ℕ). steps.has u w ≡ true) e is))
        go (inr l) ih = le_trans s laws (reach s steps prev u (suc n)) (reach s steps prev u n) (plus (steps.cost u v) (prev v)) (pick_at_most (steps.has u n) (plus (steps.cost u n) (prev n)) (reach s steps prev u n)) (ih l)

    -- the least is the one value that is at most prev u and each step, and is one of these
    pub reach_is : (n : ℕ) (r : V) → less (prev u) r ≡ false → ((v : ℕ) → v < n → steps.has u v ≡ true → less (plus (steps.cost u v) (prev v)) r ≡ false)
        → (r ≡ prev u) ⊎ ((v : ℕ) × (v < n) × (steps.has u v ≡ true) × (r ≡ plus (steps.cost u v) (prev v))) → r ≡ reach s steps prev u n
    reach_is n r low below is = laws.total r (reach s steps prev u n) (one_of is) (reach_keeps (λ (z : V). less z r ≡ false) n low below)
      where
        one_of : (r ≡ prev u) ⊎ ((v : ℕ) × (v < n) × (steps.has u v ≡ true) × (r ≡ plus (steps.cost u v) (prev v))) → less r (reach s steps prev u n) ≡ false
        one_of (inl e) = subst (λ (z : V). less z (reach s steps prev u n) ≡ false) (sym e) (reach_at_most n)
        one_of (inr (v, l, has, e)) = subst (λ (z : V). less z (reach s steps prev u n) ≡ false) (sym e) (reach_below n v l has)

  -- ---- all nodes below n
  module _ (steps : Steps V) (n : ℕ) where
    pub level_at_most : (k u : ℕ) → less (level s steps n k u) (level s steps n (suc k) u) ≡ false
    unfolding level
    level_at_most k u = reach_at_most steps (level s steps n k) u n

    pub level_down : (k d u : ℕ) → less (level s steps n k u) (level s steps n (k + d) u) ≡ false
    level_down k zero u = rw (add-zero k) (laws.irrefl (level s steps n k u))
    level_down k (suc d) u = rw (add-suc k d) (le_trans s laws (level s steps n (suc (k + d)) u) (level s steps n (k + d) u) (level s steps n k u) (level_at_most (k + d) u) (level_down k d u))

    -- a layer is at most each step and the layer before
    level_below : (k u v : ℕ) → v < n → steps.has u v ≡ true → less (plus (steps.cost u v) (level s steps n k v)) (level s steps n (suc k) u) ≡ false
    unfolding level
    level_below k u v h is = reach_below steps (level s steps n k) u n v h is

    -- a layer that the next one repeats meets every step
    pub settled : (k : ℕ) → ((u : ℕ) → u < n → level s steps n (suc k) u ≡ level s steps n k u) → (u v : ℕ) → u < n → v < n → steps.has u v ≡ true → less (plus (steps.cost u v) (level s steps n k v)) (level s steps n k u) ≡ false
    settled k same u v hu hv is = subst (λ (z : V). less (plus (steps.cost u v) (level s steps n k v)) z ≡ false) (same u hu) (level_below k u v hv is)

    -- where a layer fell by the step to v, the layer before had fallen at v: else it had been reached a layer earlier
    pub fell_again : (k u v : ℕ) → less (level s steps n (suc (suc k)) u) (level s steps n (suc k) u) ≡ true → v < n → steps.has u v ≡ true → level s steps n (suc (suc k)) u ≡ plus (steps.cost u v) (level s steps n (suc k) v) → less (level s steps n (suc k) v) (level s steps n k v) ≡ true
    fell_again k u v lt h is e = proved (less (level s steps n (suc k) v) (level s steps n k v)) (λ f.
        let same : level s steps n (suc k) v ≡ level s steps n k v = laws.total (level s steps n (suc k) v) (level s steps n k v) f (level_at_most k v) in
        let back : level s steps n (suc (suc k)) u ≡ plus (steps.cost u v) (level s steps n k v) = e ∙ ap (plus (steps.cost u v)) same in
        clash (less (level s steps n (suc (suc k)) u) (level s steps n (suc k) u)) lt (subst (λ (z : V). less z (level s steps n (suc k) u) ≡ false) (sym back) (level_below k u v h is)))

    -- y m is the node at layer m of a walk down
    module _ (y : ℕ → ℕ) where
      abbrev pub Link : ℕ → Type 0
      Link m = (steps.has (y (suc m)) (y m) ≡ true) × (level s steps n (suc m) (y (suc m)) ≡ plus (steps.cost (y (suc m)) (y m)) (level s steps n m (y m))) × (less (level s steps n (suc m) (y (suc m))) (level s steps n m (y (suc m))) ≡ true)

      down_sum : (a d : ℕ) → ((m : ℕ) → a ≤ m → m < a + d → Link m) → level s steps n (a + d) (y (a + d)) ≡ plus (total s (down steps y a) d) (level s steps n a (y a))
      unfolding total
      down_sum a zero links = rw (add-zero a) (sym (laws.comm nothing (level s steps n a (y a)) ∙ laws.neutral (level s steps n a (y a))))
      down_sum a (suc d) links =
          let l = links (a + d) (omega arith) (omega arith) in
          rw (add-suc a d) (l.1 ∙ ap (plus (steps.cost (y (suc (a + d))) (y (a + d)))) (down_sum a d (λ m p q. links m p (omega arith))) ∙ sym (laws.assoc (steps.cost (y (suc (a + d))) (y (a + d))) (total s (down steps y a) d) (level s steps n a (y a))))

      -- Round a ring of a walk down the sum is below nothing: with S the sum and x the node at its two ends,
      -- S + level a x = level (a + d + 1) x < level (a + d) x ≤ level a x.
      pub ring_below : (a d : ℕ) → ((m : ℕ) → a ≤ m → m < a + suc d → Link m) → y (a + suc d) ≡ y a → less (total s (down steps y a) (suc d)) nothing ≡ true
      ring_below a d links same =
          let top : y (suc (a + d)) ≡ y a = rw (add-suc a d) at same in
          let lt = (links (a + d) (omega arith) (omega arith)).2 in
          let below : less (level s steps n (suc (a + d)) (y (suc (a + d)))) (level s steps n a (y (suc (a + d)))) ≡ true = lt_le_trans s laws (level s steps n (suc (a + d)) (y (suc (a + d)))) (level s steps n (a + d) (y (suc (a + d)))) (level s steps n a (y (suc (a + d)))) lt (level_down a d (y (suc (a + d)))) in
          let sum : level s steps n (suc (a + d)) (y (suc (a + d))) ≡ plus (total s (down steps y a) (suc d)) (level s steps n a (y a)) = rw (add-suc a d) at (down_sum a (suc d) links) in
          falls s laws (total s (down steps y a) (suc d)) (level s steps n a (y a)) (subst (λ (z : V). less z (level s steps n a (y a)) ≡ true) sum (subst (λ (w : ℕ). less (level s steps n (suc (a + d)) (y (suc (a + d)))) (level s steps n a w) ≡ true) top below))
