-- What 0 alone tells. Assumes nothing.
use Rattle.std.specs.Prelude.{◌≡◌, ℤ, pos}
use Rattle.std.proofs.Common.{arith}
use Rattle.scale.specs.Wholes.{of_whole}
use Rattle.scale.specs.Units.{of_unit}
use Rattle.scale.specs.Pairs.{both}
use Rattle.bridge.specs.Questions.{graded_told}

-- a pair of nothing is told by 0 alone
pub nothing_told : (z : ℤ) → graded_told (both (of_whole (pos 0)) (of_unit (pos 0))) z → z ≡ pos 0
nothing_told z told = told (omega arith, omega arith)
