-- The walk down the layers, step by step, and the ring that it must run into. Assumes nothing.
use Rattle.std.proofs.Common.{◌≡◌, ℕ, suc, ◌+◌, ◌-◌, ◌<◌, ◌≤◌, true, List, [], length, get_or, set, sym, refl, ap, ◌∙◌, subst, subst₂, ⊎_elim, add-one, arith, get_or-set_other, get_or-set_same}
use Rattle.std.proofs.lemmas.Bool.{cases_eq}
use Rattle.scale.specs.declared.scale.Scale.{Ghosts}
use Rattle.scale.proofs.Order.{HasLaws}
use Rattle.paths.specs.Steps.{Steps}
use Rattle.paths.specs.Levels.{level}
use Rattle.paths.specs.Walks.{total}
use Rattle.paths.specs.Descents.{Falls, Down, Leads, Walked, Repeat, Loop}
use Rattle.paths.proofs.Layers.{fell_again, ring_below, down}

module _ {V : Type 0} (s : Ghosts V) (laws : HasLaws s) (steps : Steps V) where
  -- one step further down: to the node that the layer was reached by, where the layer below fell too
  walk_down : (ys : List ℕ) (top k v : ℕ) → length ys ≡ 65 → top ≤ 64 → Walked s steps ys top (suc k) → (v < 64) × Down s steps k (get_or ys (suc k) 0) v → Walked s steps (set ys k v) top k
  walk_down ys top k v len room w step =
      let tops : suc k ≤ top = w.under in
      let here : get_or (set ys k v) k 0 ≡ v = get_or-set_same ys k v 0 (omega arith) in
      let other : (j : ℕ) → k < j → get_or (set ys k v) j 0 ≡ get_or ys j 0 = λ j l. get_or-set_other ys k j v 0 (omega arith) in
      record {
        under = omega arith;
        nodes = λ j l u. ⊎_elim
            (λ (e : j ≡ k). subst (λ (i : ℕ). get_or (set ys k v) i 0 < 64) (sym e) (rw here step.0))
            (λ (n : j ≡ k → ⊥). let l' : k < j = omega arith in rw (other j l') (w.nodes j l' u))
            (cases_eq j k);
        falls = λ i e. subst (Falls s steps i) (sym here) (again i e step.0 step.1.0 step.1.1);
        down = λ j l u. ⊎_elim
            (λ (e : j ≡ k). subst (λ (i : ℕ). Down s steps i (get_or (set ys k v) (suc i) 0) (get_or (set ys k v) i 0)) (sym e) (subst₂ (Down s steps k) (sym (other (suc k) (omega arith))) (sym here) step.1))
            (λ (n : j ≡ k → ⊥). let l' : k < j = omega arith in subst₂ (Down s steps j) (sym (other (suc j) (omega arith))) (sym (other j l')) (w.down j l' u))
            (cases_eq j k);
      }
    where
      again : (i : ℕ) → k ≡ suc i → v < 64 → steps.has (get_or ys (suc k) 0) v ≡ true → level s steps 64 (suc k) (get_or ys (suc k) 0) ≡ s.plus (steps.cost (get_or ys (suc k) 0) v) (level s steps 64 k v) → Falls s steps i v
      again i e l is reached =
          let P : ℕ → Type 0 = λ n. Falls s steps n (get_or ys (suc k) 0) in
          let Q : ℕ → Type 0 = λ n. level s steps 64 (suc n) (get_or ys (suc k) 0) ≡ s.plus (steps.cost (get_or ys (suc k) 0) v) (level s steps 64 n v) in
          fell_again s laws steps 64 i (get_or ys (suc k) 0) v (subst P e (w.falls k refl)) l is (subst Q e reached)

  -- one turn of the loop, in which k is t - 1 and row k of ns has the nodes of layer k
  pub walk_more : (ys : List ℕ) (ns : List (List ℕ)) (top t k : ℕ) → t ≡ suc k → length ys ≡ 65 → top ≤ 64 → Walked s steps ys top t
      → ((j : ℕ) → j < top → Leads s steps j (λ u. get_or (get_or ns j []) u 0))
      → Walked s steps (set ys k (get_or (get_or ns k []) (get_or ys (k + 1) 0) 0)) top k
  walk_more ys ns top t k e len room w next =
      let w' : Walked s steps ys top (suc k) = subst (Walked s steps ys top) e w in
      let tops : suc k ≤ top = w'.under in
      rw (add-one k) (walk_down ys top k (get_or (get_or ns k []) (get_or ys (suc k) 0) 0) len room w' (next k (omega arith) (get_or ys (suc k) 0) (w'.nodes (suc k) (omega arith) (omega arith)) (w'.falls k refl)))

  pub loop_made : (ys : List ℕ) (top low high : ℕ) → Walked s steps ys top 0 → Repeat ys low high → high ≤ top → Loop s steps ys low high
  loop_made ys top low high w f room =
      let f0 : low < high = f.order in
      let high_is : low + suc (high - low - 1) ≡ high = omega arith in
      let gap_is : suc (high - low - 1) ≡ high - low = omega arith in
      record {
        again = f;
        nodes = λ j l u. w.nodes j (omega arith) (omega arith);
        has = λ j l u. (w.down j (omega arith) (omega arith)).0;
        below = subst (λ (n : ℕ). s.less (total s (down steps (λ j. get_or ys j 0) low) n) s.nothing ≡ true) gap_is
            (ring_below s laws steps 64 (λ j. get_or ys j 0) low (high - low - 1) (λ j l u. w.down j (omega arith) (omega arith)) (ap (λ (i : ℕ). get_or ys i 0) high_is ∙ f.closed));
      }
