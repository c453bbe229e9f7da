-- From the solved problem to the view that it spells. Assumes nothing.
use Rattle.std.proofs.Common.{◌≡◌, ℕ, ◌-◌, ◌<◌, ◌≤◌, Bool, true, false, cond, ◌&&◌, ◌||◌, leb, List, length, take, sym, ap, ◌∙◌, subst, ap₂, arith}
use Rattle.std.proofs.lemmas.Bool.{and_parts, leb-true}
use Rattle.model.specs.declared.thresholds.Thresholds.{Thresholds}
use Rattle.model.specs.Views.{View, is_mark}
use Rattle.model.proofs.Steps.{step_stands, step_head}
use Rattle.scale.specs.declared.scale.Scale.{Ghosts}
use Rattle.scale.proofs.Order.{HasLaws}
use Rattle.paths.specs.Steps.{value, view_steps, Meets}
use Rattle.paths.specs.Walks.{Walk}
use Rattle.paths.specs.Bests.{Best, Forbids}
use Rattle.paths.specs.Descents.{Loop, Written}
use Rattle.paths.proofs.Walking.{SameSteps, walk_same, walk_extent, walks_bound}
use Rattle.paths.proofs.Written.{forbids_made}
use Rattle.grading.specs.declared.problem.Problem.{Problem}
use Rattle.grading.specs.Settling.{Settled}
use Rattle.grading.specs.Problems.{at, problem_steps, Spells, Copied}
use Rattle.grading.specs.Outcomes.{enough}

-- what enough memory is, number by number
pub record Enough (grades ring values bytes : ℕ) : Type 0 where
  pub grades_64 : 64 ≤ grades
  pub ring_64 : 64 ≤ ring
  pub values_4160 : 4160 ≤ values
  pub bytes_4160 : 4160 ≤ bytes

pub enough_parts : (a b c d : ℕ) → enough a b c d ≡ true → Enough a b c d
enough_parts a b c d e =
    let p = and_parts (leb 64 a) (leb 64 b && (leb 4160 c && leb 4160 d)) e in
    let q = and_parts (leb 64 b) (leb 4160 c && leb 4160 d) p.1 in
    let r = and_parts (leb 4160 c) (leb 4160 d) q.1 in
    record { grades_64 = leb-true 64 a p.0; ring_64 = leb-true 64 b q.0; values_4160 = leb-true 4160 c r.0; bytes_4160 = leb-true 4160 d r.1 }

module _ {V : Type 0} (s : Ghosts V) (laws : HasLaws s) (w : View) (t : Thresholds) (p : Problem V) (spells : Spells s w t p) where
  pub same_steps : SameSteps (problem_steps p) (view_steps s w t)
  same_steps = record {
    has = λ u v a b. ap₂ (λ (x y : Bool). x || y) (spells.draws.marks u v a b) (spells.draws.hops u v a b);
    cost = λ u v a b. ap (λ (x : Bool). cond x p.mark p.hop) (spells.draws.marks u v a b) ∙ ap₂ (λ (m h : V). cond (is_mark w u v) m h) spells.mark spells.hop;
  }

  value_extent : (u v : ℕ) → s.extent (value s w t u v) 1
  value_extent u v = go (is_mark w u v)
    where
      go : (b : Bool) → s.extent (cond b (s.mark t) (s.hop t)) 1
      go true = laws.mark_extent t spells.limits
      go false = laws.hop_extent t spells.limits

  module _ (old before after : List V) (settled : Settled s (problem_steps p) (at s old)) (copied : Copied s p.graph.standing 64 old before after) where
    -- at a standing record the grade is the settled value
    here : (u : ℕ) → u < 64 → w.stands u ≡ true → at s after u ≡ at s old u
    here u l st = copied.inside u l (spells.draws.stands u l ∙ st)

    walk_here : (u : ℕ) → u < 64 → w.stands u ≡ true → Walk s (view_steps s w t) 64 u (at s after u)
    walk_here u l st = subst (Walk s (view_steps s w t) 64 u) (sym (here u l st)) (walk_same s (problem_steps p) (view_steps s w t) same_steps 64 u (at s old u) l (settled.walk u l))

    meets_here : Meets s (view_steps s w t) (at s after)
    meets_here u v a b is =
        let eu = here u a (step_stands w u v is) in
        let ev = here v b (step_head w u v is) in
        rw (eu, ev, ← same_steps.cost u v a b) (settled.meets u v a b (same_steps.has u v a b ∙ is))

    pub best_made : Best s w t (at s after)
    best_made = record {
      meets = meets_here;
      low = λ u l st. subst (λ (z : V). s.less s.nothing z ≡ false) (sym (here u l st)) (settled.low u l);
      extent = λ u l st. walk_extent s laws (view_steps s w t) value_extent 64 u (at s after u) (omega arith) (walk_here u l st);
      greatest = λ q meets low u l st. walks_bound s laws w t q meets low 64 u (at s after u) l st (walk_here u l st);
      walk = walk_here;
    }

    pub others_kept : (u : ℕ) → (u < 64 → w.stands u ≡ false) → at s after u ≡ at s before u
    others_kept u f = copied.outside u (λ l. spells.draws.stands u l ∙ f l)

  pub forbids_shown : (ys xs : List ℕ) (low high : ℕ) → Loop s (problem_steps p) ys low high → Written ys low high xs → 64 ≤ length xs → Forbids s w t (take (high - low) xs)
  forbids_shown ys xs low high loop written room = forbids_made s laws (problem_steps p) w t same_steps ys xs low high loop written room
