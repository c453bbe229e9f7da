-- The best values of what stands on a scale, and what forbids them. Assumes nothing.
use Rattle.std.specs.Prelude.{◌≡◌, ℕ, ◌<◌, true, false, List}
use Rattle.model.specs.declared.thresholds.Thresholds.{Thresholds}
use Rattle.model.specs.Views.{View}
use Rattle.model.specs.Rings.{Ring}
use Rattle.scale.specs.declared.scale.Scale.{Ghosts}
use Rattle.paths.specs.Steps.{view_steps, Meets}
use Rattle.paths.specs.Walks.{Walk, sum_round}

-- no standing record has a value above nothing
abbrev pub NoneAbove : {V : Type 0} → Ghosts V → View → (ℕ → V) → Type 0
NoneAbove s w p = (u : ℕ) → u < 64 → w.stands u ≡ true → s.less s.nothing (p u) ≡ false

-- values that meet every mark and hop, none above nothing, of extent at most 64, and no such values are higher at any record;
-- each is the sum of a walk of at most 64 steps from its record
pub record Best {V : Type 0} (s : Ghosts V) (w : View) (t : Thresholds) (g : ℕ → V) : Type 0 where
  pub meets : Meets s (view_steps s w t) g
  pub low : NoneAbove s w g
  pub extent : (u : ℕ) → u < 64 → w.stands u ≡ true → s.extent (g u) 64
  pub greatest : (p : ℕ → V) → Meets s (view_steps s w t) p → NoneAbove s w p → (u : ℕ) → u < 64 → w.stands u ≡ true → s.less (g u) (p u) ≡ false
  pub walk : (u : ℕ) → u < 64 → w.stands u ≡ true → Walk s (view_steps s w t) 64 u (g u)

-- a ring forbids on a scale when the sum of its steps' values is less than nothing
pub record Forbids {V : Type 0} (s : Ghosts V) (w : View) (t : Thresholds) (xs : List ℕ) : Type 0 where
  pub ring : Ring w xs
  pub below : s.less (sum_round s w t xs) s.nothing ≡ true
