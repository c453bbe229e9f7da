-- Walks: each layer is the sum of one, and what their sums are bounded by. Assumes nothing.
use Rattle.std.proofs.Common.{◌≡◌, ℕ, zero, suc, ◌+◌, ◌<◌, ◌≤◌, sym, ◌∙◌, subst, one-add, arith}
use Rattle.model.proofs.Steps.{step_head}
use Rattle.scale.specs.declared.scale.Scale.{Ghosts}
use Rattle.scale.proofs.Order.{HasLaws, le_trans, le_plus}
use Rattle.paths.specs.Steps.{Steps, view_steps}
use Rattle.paths.specs.Levels.{level}
use Rattle.paths.specs.Walks.{Walk, stop, go}
use Rattle.paths.specs.Statements.{WalksBound}
use Rattle.paths.proofs.Layers.{reach_keeps}
use Rattle.paths.proofs.Turns.{level_none, level_more}

module _ {V : Type 0} (s : Ghosts V) (steps : Steps V) where
  -- a walk of at most k steps has at most k + 1
  pub walk_more : (k u : ℕ) (z : V) → Walk s steps k u z → Walk s steps (suc k) u z
  walk_more k u z stop = stop
  walk_more (suc k) u z (go v l is w) = go v l is (walk_more k v _ w)

  pub walk_longer : (k d u : ℕ) (z : V) → Walk s steps k u z → Walk s steps (d + k) u z
  walk_longer k zero u z w = subst (λ (n : ℕ). Walk s steps n u z) (omega arith) w
  walk_longer k (suc d) u z w = subst (λ (n : ℕ). Walk s steps n u z) (omega arith) (walk_more (d + k) u z (walk_longer k d u z w))

-- a layer is the sum of a walk: none, that of the layer before, or one step and that of the layer before
module _ {V : Type 0} (s : Ghosts V) (laws : HasLaws s) (steps : Steps V) where
  pub level_walk : (k u : ℕ) → Walk s steps k u (level s steps 64 k u)
  level_walk zero u = subst (Walk s steps 0 u) (sym (level_none s steps 64 u)) stop
  level_walk (suc k) u = subst (Walk s steps (suc k) u) (sym (level_more s steps 64 k u))
      (reach_keeps s laws steps (level s steps 64 k) u (Walk s steps (suc k) u) 64 (walk_more s steps k u (level s steps 64 k u) (level_walk k u))
      (λ v l is. go v l is (level_walk k v)))

  -- k steps of extent 1 have together the extent k
  pub walk_extent : ((u v : ℕ) → s.extent (steps.cost u v) 1) → (k u : ℕ) (z : V) → k ≤ 4096 → Walk s steps k u z → s.extent z k
  walk_extent each zero u z h stop = laws.nothing_extent
  walk_extent each (suc k) u z h stop = laws.more_extent s.nothing k (walk_extent each k u s.nothing (omega arith) stop)
  walk_extent each (suc k) u z h (go v l is w) =
      subst (s.extent _) (one-add k) (laws.sum_extent (steps.cost u v) _ 1 k (each u v) (walk_extent each k v _ (omega arith) w) (omega arith))

-- the same steps between records, with the same values
pub record SameSteps {V : Type 0} (a b : Steps V) : Type 0 where
  pub has : (u v : ℕ) → u < 64 → v < 64 → a.has u v ≡ b.has u v
  pub cost : (u v : ℕ) → u < 64 → v < 64 → a.cost u v ≡ b.cost u v

-- the same walk over the same steps
module _ {V : Type 0} (s : Ghosts V) (a b : Steps V) (same : SameSteps a b) where
  pub walk_same : (k u : ℕ) (z : V) → u < 64 → Walk s a k u z → Walk s b k u z
  walk_same k u z h stop = stop
  walk_same (suc k) u z h (go {z = y} v l is w) =
      subst (λ (c : V). Walk s b (suc k) u (s.plus c y)) (sym (same.cost u v h l)) (go v l (sym (same.has u v h l) ∙ is) (walk_same k v y l w))

-- By induction on the walk: at its end p is not above nothing, and each step back adds the same to both sides.
module _ {V : Type 0} (s : Ghosts V) (laws : HasLaws s) where
  pub walks_bound : WalksBound s
  walks_bound w t p meets low k u z h st stop = low u h st
  walks_bound w t p meets low (suc k) u z h st (go {z = y} v l is walk) =
      le_trans s laws (p u) (s.plus ((view_steps s w t).cost u v) (p v)) (s.plus ((view_steps s w t).cost u v) y)
      (meets u v h l is)
      (le_plus s laws (p v) y ((view_steps s w t).cost u v) (walks_bound w t p meets low k v y l (step_head w u v is) walk))
