-- The statements that lib.rt names. Assumes nothing.
use Rattle.std.specs.Prelude.{◌≡◌, ℕ, ◌<◌, true, false, List}
use Rattle.model.specs.declared.thresholds.Thresholds.{Thresholds}
use Rattle.model.specs.Views.{View}
use Rattle.scale.specs.declared.scale.Scale.{Ghosts}
use Rattle.paths.specs.Steps.{view_steps, Meets}
use Rattle.paths.specs.Walks.{Walk}
use Rattle.paths.specs.Bests.{NoneAbove, Forbids}

abbrev pub WalksBound : {V : Type 0} → Ghosts V → Type 0
WalksBound {V} s = (w : View) (t : Thresholds) (p : ℕ → V) → Meets s (view_steps s w t) p → NoneAbove s w p
    → (k u : ℕ) (z : V) → u < 64 → w.stands u ≡ true → Walk s (view_steps s w t) k u z → s.less z (p u) ≡ false

abbrev pub BelowForbids : {V : Type 0} → Ghosts V → Type 0
BelowForbids {V} s = (w : View) (t : Thresholds) (xs : List ℕ) → Forbids s w t xs → (p : ℕ → V) → Meets s (view_steps s w t) p → ⊥
