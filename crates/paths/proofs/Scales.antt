-- The whole scale and the unit scale count in whole numbers. Assumes nothing.
use Rattle.std.proofs.Common.{refl}
use Rattle.model.specs.declared.thresholds.Thresholds.{Thresholds}
use Rattle.scale.specs.Scales.{whole_scale, unit_scale}
use Rattle.paths.specs.Numbers.{unit_thresholds}
use Rattle.paths.proofs.Numbered.{Numbered}

pub whole_numbered : (t : Thresholds) → Numbered whole_scale t (λ x. x.value)
whole_numbered t = record { nothing = refl; plus = λ a b. refl; less = λ a b. refl; mark = refl; hop = refl }

-- for t1 = 1 and t2 = 0 the unit scale has the values of the whole scale
pub unit_numbered : Numbered unit_scale unit_thresholds (λ x. x.value)
unit_numbered = record { nothing = refl; plus = λ a b. refl; less = λ a b. refl; mark = refl; hop = refl }
