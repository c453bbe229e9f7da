-- A round: the steps of both kinds relaxed, those to the records of a set, where all others are met already. Assumes nothing.
use Rattle.std.proofs.Common.{◌≡◌, ℕ, ◌<◌, Bool, true, false, ◌||◌, List, length, get_or, sym, ap, ◌∙◌, subst, inl, inr, ⊎_elim}
use Rattle.model.specs.Sets.{has}
use Rattle.scale.specs.declared.scale.Scale.{Ghosts}
use Rattle.scale.proofs.Order.{HasLaws, le_trans, by_bool}
use Rattle.grading.specs.declared.problem.Problem.{Problem}
use Rattle.grading.specs.Graphs.{graph_marks, graph_hops}
use Rattle.grading.specs.Problems.{at, problem_steps}
use Rattle.grading.specs.Rising.{Found, Ordered}
use Rattle.grading.specs.Relaxing.{Lowered, by_steps, Below, Quiet, Rounded}
use Rattle.grading.proofs.Lowering.{lowered_both}

module _ {V : Type 0} (s : Ghosts V) (laws : HasLaws s) (p : Problem V) where
  -- a step with its value, by a mark where there is one
  abbrev Step : List V → ℕ → ℕ → V → Type 0
  Step from u v z = (v < 64) × ((problem_steps p).has u v ≡ true) × (z ≡ s.plus ((problem_steps p).cost u v) (at s from v))

  by_mark : (from : List V) (u v : ℕ) (z : V) → by_steps s p.mark p.graph.marks from u v z → Step from u v z
  by_mark from u v z (low, is, e) = (low, rw is mathlib.Core.Path.refl, rw is e)

  -- no mark leads where a hop does
  by_hop : (from : List V) (u v : ℕ) (z : V) → by_steps s p.hop p.graph.hops from u v z → Step from u v z
  by_hop from u v z (low, is, e) = (low, rw (p.graph.apart u v is, is) mathlib.Core.Path.refl, rw (p.graph.apart u v is) e)

  module _ (set : ℕ) (from mid to : List V) (order before between next : List ℕ) (ordered : Ordered s set from order) (quiet : Quiet s (problem_steps p) set (at s from))
      (marks : Lowered s (by_steps s p.mark p.graph.marks from) from mid before between) (marks_below : Below s p.mark p.graph.marks from order (length order) mid)
      (hops : Lowered s (by_steps s p.hop p.graph.hops from) mid to between next) (hops_below : Below s p.hop p.graph.hops from order (length order) to) where
    both : Lowered s (Step from) from to before next
    both = lowered_both s laws (by_steps s p.mark p.graph.marks from) (by_steps s p.hop p.graph.hops from) (Step from) from mid to before between next marks hops (by_mark from) (by_hop from)

    -- a step to a record of the set has been relaxed with its kind
    relaxed : (u v : ℕ) → u < 64 → (problem_steps p).has u v ≡ true → Found order v → s.less (s.plus ((problem_steps p).cost u v) (at s from v)) (at s to u) ≡ false
    relaxed u v l is f = by_bool (graph_marks p.graph u v)
        (λ m. le_trans s laws (at s to u) (at s mid u) (s.plus ((problem_steps p).cost u v) (at s from v)) (hops.at_most u l) (rw m (at_found p.mark p.graph.marks mid marks_below m)))
        (λ n. rw n (at_found p.hop p.graph.hops to hops_below (sym (ap (λ (t : Bool). t || graph_hops p.graph u v) n) ∙ is)))
      where
        at_found : (cost : V) (rows : List ℕ) (xs : List V) → Below s cost rows from order (length order) xs → has (get_or rows v 0) u ≡ true → s.less (s.plus cost (at s from v)) (at s xs u) ≡ false
        at_found cost rows xs below row = subst (λ (w : ℕ). s.less (s.plus cost (at s from w)) (at s xs u) ≡ false) f.is
            (below f.place u f.within l (subst (λ (w : ℕ). has (get_or rows w 0) u ≡ true) (sym f.is) row))

    pub rounded_made : Rounded s (problem_steps p) (at s from) to next
    rounded_made = record {
      at_most = both.at_most;
      below = λ u v l m is. by_bool (has set v)
          (λ e. relaxed u v l is (ordered.all v e))
          (λ e. le_trans s laws (at s to u) (at s from u) (s.plus ((problem_steps p).cost u v) (at s from v)) (both.at_most u l) (quiet u v l m is e));
      reached = λ u l. ⊎_elim (λ (same : (at s to u ≡ at s from u) × (get_or next u 0 ≡ get_or before u 0)). inl same.0) (λ (new : Step from u (get_or next u 0) (at s to u)). inr new) (both.reached u l);
    }
