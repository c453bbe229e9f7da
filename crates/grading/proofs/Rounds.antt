-- The rounds of the relaxation, and what they come to. Assumes nothing.
use Rattle.std.proofs.Common.{◌≡◌, ℕ, suc, ◌+◌, ◌-◌, ◌<◌, ◌≤◌, Bool, true, false, cond, List, [], ◌≢◌, length, get_or, set, get_or-set_other, get_or-set_same, sym, ap, ◌∙◌, subst, inl, inr, ⊎_elim, zero-add, add-one, arith, below_more}
use Rattle.model.specs.Sets.{has}
use Rattle.model.proofs.Digits.{has_all}
use Rattle.scale.specs.declared.scale.Scale.{Ghosts}
use Rattle.scale.proofs.Order.{HasLaws, clash}
use Rattle.paths.specs.Steps.{Steps}
use Rattle.paths.specs.Levels.{level}
use Rattle.paths.specs.Walks.{Walk}
use Rattle.paths.specs.Descents.{Leads}
use Rattle.paths.proofs.Layers.{reach_is, level_at_most, level_down, settled}
use Rattle.paths.proofs.Turns.{reach_same, level_none, level_more}
use Rattle.paths.proofs.Walking.{walk_longer, level_walk, walk_extent}
use Rattle.grading.specs.declared.problem.Problem.{Problem}
use Rattle.grading.specs.Rows.{Collected}
use Rattle.grading.specs.Graphs.{graph_marks}
use Rattle.grading.specs.Problems.{at, problem_steps, Costs, Ready}
use Rattle.grading.specs.Relaxing.{Quiet, Rounded, falls_at}
use Rattle.grading.specs.Settling.{Settled, NextRow, Fallen}
use Rattle.grading.proofs.Collecting.{collected_at}

-- after k rounds, fewer than 64: `old` is the layer k, the rows below k say what the layers are reached by, and the steps that do not lead
-- to a record of `fell` are met
pub record Running {V : Type 0} (s : Ghosts V) (steps : Steps V) (k : ℕ) (old : List V) (ns : List (List ℕ)) (fell : ℕ) : Type 0 where
  pub early : k < 64
  pub layer : (u : ℕ) → u < 64 → at s old u ≡ level s steps 64 k u
  pub nexts : (j : ℕ) → j < k → NextRow s steps ns j
  pub quiet : Quiet s steps fell (at s old)

module _ {V : Type 0} (s : Ghosts V) (laws : HasLaws s) (p : Problem V) where
  abbrev steps : Steps V
  steps = problem_steps p

  cost_extent : Costs s p → (u v : ℕ) → s.extent ((problem_steps p).cost u v) 1
  cost_extent c u v = go (graph_marks p.graph u v)
    where
      go : (b : Bool) → s.extent (cond b p.mark p.hop) 1
      go true = c.0
      go false = c.1

  -- every layer up to 64 is made of walks of at most 64 steps
  walk_64 : (k u : ℕ) → k ≤ 64 → Walk s steps 64 u (level s steps 64 k u)
  walk_64 k u h =
      let e : (64 - k) + k ≡ 64 = omega arith in
      subst (λ (n : ℕ). Walk s steps n u (level s steps 64 k u)) e (walk_longer s steps k (64 - k) u (level s steps 64 k u) (level_walk s laws steps k u))

  pub running_ready : (k : ℕ) (cost : V) (old : List V) (ns : List (List ℕ)) (fell : ℕ) → length old ≡ 64 → Costs s p → s.extent cost 1 → Running s steps k old ns fell → Ready s cost old
  running_ready k cost old ns fell len c e run =
      let h : k < 64 = run.early in
      record {
        long = len;
        cost = e;
        extents = λ u l. subst (λ (z : V). s.extent z 64) (sym (run.layer u l)) (walk_extent s laws steps (cost_extent c) 64 u (level s steps 64 k u) (omega arith) (walk_64 k u (omega arith)));
      }

  -- at first the set has every record, so no step has to be met
  pub running_none : (old : List V) (ns : List (List ℕ)) → ((u : ℕ) → u < 64 → at s old u ≡ s.nothing) → Running s steps 0 old ns 18446744073709551615
  running_none old ns f = record {
    early = omega arith;
    layer = λ u l. f u l ∙ sym (level_none s steps 64 u);
    nexts = λ j l. absurd (omega arith);
    quiet = λ u v l m is gone. absurd (clash (has 18446744073709551615 v) (has_all v m) gone);
  }

  module _ (k : ℕ) (old new : List V) (ns : List (List ℕ)) (fell : ℕ) (part : List ℕ) (run : Running s steps k old ns fell) (rounded : Rounded s steps (at s old) new part) where
    -- the round from the layer k is the layer k + 1
    new_layer : (u : ℕ) → u < 64 → at s new u ≡ level s steps 64 (suc k) u
    new_layer u l =
        reach_is s laws steps (at s old) u 64 (at s new u) (rounded.at_most u l) (λ v m is. rounded.below u v l m is)
        (⊎_elim
        (λ (same : at s new u ≡ at s old u). inl same)
        (λ (step : (get_or part u 0 < 64) × (steps.has u (get_or part u 0) ≡ true) × (at s new u ≡ s.plus (steps.cost u (get_or part u 0)) (at s old (get_or part u 0)))). inr (get_or part u 0, step.0, step.1, step.2))
        (rounded.reached u l))
        ∙ reach_same s steps (at s old) (level s steps 64 k) u 64 (run.layer u l) run.layer ∙ sym (level_more s steps 64 k u)

    -- where it falls, it does by the step that was noted
    new_leads : Leads s steps k (λ u. get_or part u 0)
    new_leads u l falls = ⊎_elim
        (λ (same : at s new u ≡ at s old u).
        let still : level s steps 64 (suc k) u ≡ level s steps 64 k u = sym (new_layer u l) ∙ same ∙ run.layer u l in
        absurd (clash (s.less (level s steps 64 k u) (level s steps 64 k u)) (subst (λ (z : V). s.less z (level s steps 64 k u) ≡ true) still falls) (laws.irrefl (level s steps 64 k u))))
        (λ (step : (get_or part u 0 < 64) × (steps.has u (get_or part u 0) ≡ true) × (at s new u ≡ s.plus (steps.cost u (get_or part u 0)) (at s old (get_or part u 0)))).
        (step.0, (step.1, sym (new_layer u l) ∙ step.2 ∙ ap (s.plus (steps.cost u (get_or part u 0))) (run.layer (get_or part u 0) step.0), falls)))
        (rounded.reached u l)

    -- a round without a fall changes nothing, so that its layer meets every step
    pub settled_made : ((u : ℕ) → u < 64 → s.less (at s new u) (at s old u) ≡ false) → Settled s steps (at s old)
    settled_made still = record {
      meets = λ u v a b is. rw (run.layer u a, run.layer v b) (settled s laws steps 64 k same u v a b is);
      low = λ u l. subst (λ (z : V). s.less s.nothing z ≡ false) (sym (run.layer u l)) (under u);
      walk = λ u l. subst (Walk s steps 64 u) (sym (run.layer u l)) (walk_64 k u (let h : k < 64 = run.early in omega arith));
    }
      where
        same : (u : ℕ) → u < 64 → level s steps 64 (suc k) u ≡ level s steps 64 k u
        same u l = laws.total (level s steps 64 (suc k) u) (level s steps 64 k u) (rw (new_layer u l, run.layer u l) at (still u l)) (level_at_most s laws steps 64 k u)

        under : (u : ℕ) → s.less s.nothing (level s steps 64 k u) ≡ false
        under u = rw (level_none s steps 64 u, zero-add k) at (level_down s laws steps 64 0 k u)

    -- the rows after the round
    abbrev rows : List (List ℕ)
    rows = set ns k part

    rows_more : length ns ≡ 64 → (j : ℕ) → j < k + 1 → NextRow s steps rows j
    rows_more ln =
        let h : k < length ns = omega (arith, run.early) in
        below_more (NextRow s steps rows) k
        (λ j l. let ne : j ≢ k = omega arith in subst (λ (row : List ℕ). Leads s steps j (λ u. get_or row u 0)) (sym (get_or-set_other ns k j part [] ne)) (run.nexts j l))
        (subst (λ (row : List ℕ). Leads s steps k (λ u. get_or row u 0)) (sym (get_or-set_same ns k part [] h)) new_leads)

    -- a fall: the way down is in the rows
    pub fallen_made : (u : ℕ) → length ns ≡ 64 → u < 64 → s.less (at s new u) (at s old u) ≡ true → Fallen s steps rows k u
    fallen_made u ln low falls = record {
      early = run.early;
      record_low = low;
      falls = rw (new_layer u low, run.layer u low) at falls;
      nexts = rows_more ln;
    }

    -- a step to a record that did not fall in this round is met after it
    pub running_more : (kept : List V) (fell' : ℕ) → kept ≡ new → Collected (falls_at s old new) 64 fell' → k + 1 < 64 → length ns ≡ 64 → Running s steps (k + 1) kept rows fell'
    running_more kept fell' e collected early ln = record {
      early = early;
      layer = λ v l. ap (λ (xs : List V). at s xs v) e ∙ new_layer v l ∙ ap (λ (n : ℕ). level s steps 64 n v) (sym (add-one k));
      nexts = rows_more ln;
      quiet = subst (λ (xs : List V). Quiet s steps fell' (at s xs)) (sym e) (λ u v l m is gone.
          let still : at s new v ≡ at s old v = laws.total (at s new v) (at s old v) (sym (collected_at (falls_at s old new) fell' v collected m) ∙ gone) (rounded.at_most v m) in
          rw still (rounded.below u v l m is));
    }
