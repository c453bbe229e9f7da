-- Walks and the sums of their steps. Assumes nothing.
use Rattle.std.specs.Prelude.{◌≡◌, ℕ, zero, suc, ◌<◌, true, List, length}
use Rattle.model.specs.declared.thresholds.Thresholds.{Thresholds}
use Rattle.model.specs.Views.{View}
use Rattle.model.specs.Rings.{round}
use Rattle.scale.specs.declared.scale.Scale.{Ghosts}
use Rattle.paths.specs.Steps.{Steps, value}

-- Walk s steps k u z: z is the sum of the steps of a walk of at most k steps that starts at u
pub data Walk {V : Type 0} (s : Ghosts V) (steps : Steps V) : ℕ → ℕ → V → Type 0 where
  stop : {k u : ℕ} → Walk s steps k u s.nothing
  go : {k u : ℕ} {z : V} (v : ℕ) → v < 64 → steps.has u v ≡ true → Walk s steps k v z → Walk s steps (suc k) u (s.plus (steps.cost u v) z)

-- z (n - 1) + .. + z 0
unfoldable pub total : {V : Type 0} → Ghosts V → (ℕ → V) → ℕ → V
total s z zero = s.nothing
total s z (suc n) = s.plus (z n) (total s z n)

-- the sum of the values of the steps round xs
abbrev pub sum_round : {V : Type 0} → Ghosts V → View → Thresholds → List ℕ → V
sum_round s w t xs = total s (λ i. value s w t (round xs i) (round xs (suc i))) (length xs)
