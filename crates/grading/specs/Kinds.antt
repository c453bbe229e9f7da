-- What loose, strict and unit grading give, and what forbids it. Assumes nothing.
use Rattle.std.specs.Prelude.{ℕ, Bool, List}
use Rattle.model.specs.declared.thresholds.Thresholds.{Thresholds}
use Rattle.model.specs.Views.{View}
use Rattle.scale.specs.declared.scale.Scale.{Ghosts}
use Rattle.scale.specs.declared.whole.Whole.{Whole}
use Rattle.scale.specs.declared.unit.Unit.{Unit as Units}
use Rattle.scale.specs.declared.pair.Pair.{Pair}
use Rattle.paths.specs.Numbers.{BestLoose, ForbidsLoosely, BestStrict, ForbidsStrictly, unit_thresholds}

-- a scale by the ghost members of its trait
abbrev pub scale_of : {V : Type 0} → V → (V → V → V) → (V → V → V) → (V → V → Bool) → (Thresholds → V) → (Thresholds → V) → (V → ℕ → Type 0) → Ghosts V
scale_of nothing plus sum less mark hop extent = record { nothing = nothing; plus = plus; sum = sum; less = less; mark = mark; hop = hop; extent = extent }

abbrev pub loose_asked : View → Thresholds → (ℕ → Whole) → Type 0
loose_asked w t g = BestLoose w t (λ u. (g u).value)

abbrev pub loose_forbidden : View → Thresholds → List ℕ → Type 0
loose_forbidden = ForbidsLoosely

abbrev pub strict_asked : View → Thresholds → (ℕ → Pair Whole Units) → Type 0
strict_asked = BestStrict

abbrev pub strict_forbidden : View → Thresholds → List ℕ → Type 0
strict_forbidden = ForbidsStrictly

abbrev pub unit_asked : View → Thresholds → (ℕ → Units) → Type 0
unit_asked w t g = BestLoose w unit_thresholds (λ u. (g u).value)

abbrev pub unit_forbidden : View → Thresholds → List ℕ → Type 0
unit_forbidden w t xs = ForbidsLoosely w unit_thresholds xs
