-- The grades that are in memory, as whole numbers. Assumes nothing.
use Rattle.std.specs.Prelude.{◌≡◌, ℕ, ◌<◌, ◌≤◌, true, List, ℤ, pos, ◌≤ℤ◌, slice_index_or, unsigned_abs}
use Rattle.model.specs.Views.{View}
use Rattle.scale.specs.declared.whole.Whole.{Whole}
use Rattle.scale.specs.Wholes.{of_whole}

abbrev pub grade_number : List Whole → ℕ → ℤ
grade_number grades u = (slice_index_or grades u (of_whole (pos 0))).value

-- minus the number is from 0 to 4,096
pub record Low (z : ℤ) : Type 0 where
  pub none_above : z ≤ℤ pos 0
  pub short : unsigned_abs z ≤ 4096

-- the grades of all standing records are such
abbrev pub Lows : View → List Whole → Type 0
Lows w grades = (u : ℕ) → u < 64 → w.stands u ≡ true → Low (grade_number grades u)
