-- Steps with their values, and the steps of a view on a scale. Assumes nothing.
use Rattle.std.specs.Prelude.{◌≡◌, ℕ, ◌<◌, Bool, true, false, cond}
use Rattle.model.specs.declared.thresholds.Thresholds.{Thresholds}
use Rattle.model.specs.Views.{View, is_mark, is_step}
use Rattle.scale.specs.declared.scale.Scale.{Ghosts}

-- between which nodes there is a step, and what its value is
pub record Steps (V : Type 0) : Type 0 where
  pub has : ℕ → ℕ → Bool
  pub cost : ℕ → ℕ → V

-- the value of a step on a scale: the mark's, or else the hop's
abbrev pub value : {V : Type 0} → Ghosts V → View → Thresholds → ℕ → ℕ → V
value s w t u v = cond (is_mark w u v) (s.mark t) (s.hop t)

abbrev pub view_steps : {V : Type 0} → Ghosts V → View → Thresholds → Steps V
view_steps s w t = record { has = is_step w; cost = value s w t }

-- p at u is at most p at v plus the value of the step from u to v, for every step
abbrev pub Meets : {V : Type 0} → Ghosts V → Steps V → (ℕ → V) → Type 0
Meets s steps p = (u v : ℕ) → u < 64 → v < 64 → steps.has u v ≡ true → s.less (s.plus (steps.cost u v) (p v)) (p u) ≡ false
