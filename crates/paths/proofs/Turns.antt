-- Layers, one from the one before: nothing at first, and then what is reached from it. Assumes nothing.
use Rattle.std.proofs.Common.{◌≡◌, ℕ, zero, suc, ◌<◌, refl, ap₂, arith}
use Rattle.scale.specs.declared.scale.Scale.{Ghosts}
use Rattle.paths.specs.Steps.{Steps}
use Rattle.paths.specs.Levels.{pick, reach, level}

-- what is reached goes by prev at u and at the nodes below n alone
module _ {V : Type 0} (s : Ghosts V) (steps : Steps V) (prev prev' : ℕ → V) (u : ℕ) where
  pub reach_same : (n : ℕ) → prev u ≡ prev' u → ((v : ℕ) → v < n → prev v ≡ prev' v) → reach s steps prev u n ≡ reach s steps prev' u n
  unfolding reach
  reach_same zero e f = e
  reach_same (suc n) e f = ap₂ (λ (p r : V). pick s (steps.has u n) (s.plus (steps.cost u n) p) r) (f n (omega arith)) (reach_same n e (λ v h. f v (omega arith)))

module _ {V : Type 0} (s : Ghosts V) (steps : Steps V) (n : ℕ) where
  pub level_none : (u : ℕ) → level s steps n 0 u ≡ s.nothing
  unfolding level
  level_none u = refl

  pub level_more : (k u : ℕ) → level s steps n (suc k) u ≡ reach s steps (level s steps n k) u n
  unfolding level
  level_more k u = refl
