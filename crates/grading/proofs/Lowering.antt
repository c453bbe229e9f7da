-- Values lowered one after another: what has changed, and what none of them is above. Assumes nothing.
use Rattle.std.proofs.Common.{◌≡◌, ℕ, ◌+◌, ◌<◌, ◌≤◌, true, false, not, ◌&&◌, List, length, get_or, set, get_or-set_same, get_or-set_other, ◌⊎◌, ◌≢◌, sym, refl, ap, ◌∙◌, subst, inl, inr, ⊎_elim, arith}
use Rattle.std.proofs.lemmas.Bool.{cases_eq, and_parts}
use Rattle.model.specs.Sets.{has, Taken}
use Rattle.model.proofs.Digits.{has_bound}
use Rattle.scale.specs.declared.scale.Scale.{Ghosts}
use Rattle.scale.proofs.Order.{HasLaws, asym, le_trans, le_plus, by_bool, clash}
use Rattle.grading.specs.Problems.{at}
use Rattle.grading.specs.Rising.{value_at, Rising}
use Rattle.grading.specs.Relaxing.{Lowered, by_value, by_steps, Below}
use Rattle.grading.proofs.Taking.{stays, was}

-- a record that is not left is not above what the places of the order from n on give
abbrev pub Passed : {V : Type 0} → Ghosts V → V → List V → List ℕ → ℕ → ℕ → List V → Type 0
Passed s cost from order left n to = (i u : ℕ) → n ≤ i → i < length order → u < 64 → has left u ≡ false → s.less (s.plus cost (value_at s from order i)) (at s to u) ≡ false

module _ {V : Type 0} (s : Ghosts V) (laws : HasLaws s) where
  -- what is changed by one thing and then another is changed by both
  pub lowered_none : (by : ℕ → ℕ → V → Type 0) (xs : List V) (ns : List ℕ) → Lowered s by xs xs ns ns
  lowered_none by xs ns = record { at_most = λ u l. laws.irrefl (at s xs u); reached = λ u l. inl (refl, refl) }

  pub lowered_both : (by by' to : ℕ → ℕ → V → Type 0) (xs ys zs : List V) (ns ms ks : List ℕ) → Lowered s by xs ys ns ms → Lowered s by' ys zs ms ks
      → ((u n : ℕ) (z : V) → by u n z → to u n z) → ((u n : ℕ) (z : V) → by' u n z → to u n z) → Lowered s to xs zs ns ks
  lowered_both by by' to xs ys zs ns ms ks a b f f' = record {
    at_most = λ u l. le_trans s laws (at s zs u) (at s ys u) (at s xs u) (b.at_most u l) (a.at_most u l);
    reached = λ u l. ⊎_elim
        (λ (same : (at s zs u ≡ at s ys u) × (get_or ks u 0 ≡ get_or ms u 0)). ⊎_elim
        (λ (same' : (at s ys u ≡ at s xs u) × (get_or ms u 0 ≡ get_or ns u 0)). inl (same.0 ∙ same'.0, same.1 ∙ same'.1))
        (λ (new : by u (get_or ms u 0) (at s ys u)). inr (rw (same.0, same.1) (f u (get_or ms u 0) (at s ys u) new)))
        (a.reached u l))
        (λ (new : by' u (get_or ks u 0) (at s zs u)). inr (f' u (get_or ks u 0) (at s zs u) new))
        (b.reached u l);
  }

  -- one record lowered
  pub lowered_at : (by : ℕ → ℕ → V → Type 0) (xs : List V) (ns : List ℕ) (u n : ℕ) (z : V) → u < length xs → u < length ns → s.less z (at s xs u) ≡ true → by u n z
      → Lowered s by xs (set xs u z) ns (set ns u n)
  lowered_at by xs ns u n z hx hn less is =
      let here : at s (set xs u z) u ≡ z = get_or-set_same xs u z s.nothing hx in
      let next : get_or (set ns u n) u 0 ≡ n = get_or-set_same ns u n 0 hn in
      record {
        at_most = λ w l. ⊎_elim
            (λ (e : w ≡ u). subst (λ (i : ℕ). s.less (at s xs i) (at s (set xs u z) i) ≡ false) (sym e) (rw here (asym s laws z (at s xs u) less)))
            (λ (ne : w ≢ u). ap (s.less (at s xs w)) (get_or-set_other xs u w z s.nothing ne) ∙ laws.irrefl (at s xs w))
            (cases_eq w u);
        reached = λ w l. ⊎_elim
            (λ (e : w ≡ u). inr (subst (λ (i : ℕ). by i (get_or (set ns u n) i 0) (at s (set xs u z) i)) (sym e) (rw (here, next) is)))
            (λ (ne : w ≢ u). inl (get_or-set_other xs u w z s.nothing ne, get_or-set_other ns u w n 0 ne))
            (cases_eq w u);
      }

  -- ---- the records of a set, one after another
  module _ (chosen rest rest' : ℕ) (value : V) (u : ℕ) (taken : Taken rest rest' u) where
    pub rest_less : ((w : ℕ) → has rest w ≡ true → has chosen w ≡ true) → (w : ℕ) → has rest' w ≡ true → has chosen w ≡ true
    rest_less inside w is = inside w (was rest rest' u taken w is)

    pub below_less : (xs ys : List V) → s.less value (at s ys u) ≡ false → ((w : ℕ) → w < 64 → s.less (at s xs w) (at s ys w) ≡ false)
        → ((w : ℕ) → has chosen w ≡ true → (has rest w ≡ true) ⊎ (s.less value (at s xs w) ≡ false))
        → (w : ℕ) → has chosen w ≡ true → (has rest' w ≡ true) ⊎ (s.less value (at s ys w) ≡ false)
    below_less xs ys here at_most below w is = ⊎_elim
        (λ (e : w ≡ u). inr (subst (λ (x : ℕ). s.less value (at s ys x) ≡ false) (sym e) here))
        (λ (ne : w ≢ u). ⊎_elim
        (λ (r : has rest w ≡ true). inl (stays rest rest' u taken w ne ∙ r))
        (λ (b : s.less value (at s xs w) ≡ false). inr (le_trans s laws (at s ys w) (at s xs w) value (at_most w (has_bound chosen w is)) b))
        (below w is))
        (cases_eq w u)

  -- lowered to what a step to v gives
  pub by_row : (cost : V) (rows : List ℕ) (from : List V) (both left v : ℕ) → v < 64 → ((u : ℕ) → has both u ≡ (has (get_or rows v 0) u && has left u))
      → (u n : ℕ) (z : V) → by_value both (s.plus cost (at s from v)) v u n z → by_steps s cost rows from u n z
  by_row cost rows from both left v low is_both u n z (is, e, f) = (
    subst (λ (k : ℕ). k < 64) (sym e) low,
    subst (λ (k : ℕ). has (get_or rows k 0) u ≡ true) (sym e) (and_parts (has (get_or rows v 0) u) (has left u) (sym (is_both u) ∙ is)).0,
    f ∙ ap (λ (k : ℕ). s.plus cost (at s from k)) (sym e),
  )

  -- ---- the records of an order, one after another
  module _ (cost : V) (rows : List ℕ) (from : List V) (order : List ℕ) (rising : Rising s from order) where
    -- the value of the step to the record at a place
    abbrev given : ℕ → V
    given i = s.plus cost (value_at s from order i)

    -- what a later place gives is no less
    given_rises : (i j : ℕ) → i < j → j < length order → s.less (given j) (given i) ≡ false
    given_rises i j o l = le_plus s laws (value_at s from order i) (value_at s from order j) cost (rising.sorted i j o l)

    module _ (left left' both n : ℕ) (l : n < length order) (xs ys : List V) (at_most : (u : ℕ) → u < 64 → s.less (at s xs u) (at s ys u) ≡ false)
        (is_both : (u : ℕ) → has both u ≡ (has (get_or rows (get_or order n 0) 0) u && has left u)) (is_left : (u : ℕ) → has left' u ≡ (has left u && not (has (get_or rows (get_or order n 0) 0) u)))
        (below : (u : ℕ) → u < 64 → has both u ≡ true → s.less (given n) (at s ys u) ≡ false) (passed : Passed s cost from order left n xs) where
      -- a record with a step to the place n is lowered to it, or has been passed
      here : (u : ℕ) → u < 64 → has (get_or rows (get_or order n 0) 0) u ≡ true → s.less (given n) (at s ys u) ≡ false
      here u h is = by_bool (has left u)
          (λ e. below u h (is_both u ∙ rw (is, e) refl))
          (λ e. le_trans s laws (at s ys u) (at s xs u) (given n) (at_most u h) (passed n u (omega arith) l h e))

      pub below_more : Below s cost rows from order n xs → Below s cost rows from order (n + 1) ys
      below_more so_far i u b h is = ⊎_elim
          (λ (e : i ≡ n). subst (λ (j : ℕ). s.less (given j) (at s ys u) ≡ false) (sym e) (here u h (subst (λ (j : ℕ). has (get_or rows (get_or order j 0) 0) u ≡ true) e is)))
          (λ (ne : i ≢ n). le_trans s laws (at s ys u) (at s xs u) (given i) (at_most u h) (so_far i u (omega arith) h is))
          (cases_eq i n)

      pub passed_more : Passed s cost from order left' (n + 1) ys
      passed_more i u b m h gone = by_bool (has left u)
          (λ e. le_trans s laws (at s ys u) (given n) (given i) (here u h (in_row e)) (given_rises n i (omega arith) m))
          (λ e. le_trans s laws (at s ys u) (at s xs u) (given i) (at_most u h) (passed i u (omega arith) m h e))
        where
          in_row : has left u ≡ true → has (get_or rows (get_or order n 0) 0) u ≡ true
          in_row e = by_bool (has (get_or rows (get_or order n 0) 0) u) (λ t. t) (λ f. absurd (clash (has left' u) (is_left u ∙ rw (e, f) refl) gone))
