-- What the rows of a bit sheet mean. Assumes nothing.
use Rattle.std.specs.Prelude.{ℕ, Bool, List, count_ones, slice_index}
use Rattle.model.specs.Rings.{sum_to}
use Rattle.model.specs.Sets.{has}
use Rattle.sheet.specs.Meanings.{Meaning, pairs}
use Rattle.sheet.specs.Kept.{kept_meaning}

abbrev pub row_marks : List ℕ → ℕ → ℕ → Bool
row_marks rows u v = has (slice_index rows u) v

-- the ones, counted over the rows
abbrev pub ones_in : List ℕ → ℕ
ones_in rows = sum_to (λ u. count_ones (slice_index rows u)) 64

-- the meaning of a bit sheet: it holds as many marks as there are marked pairs
abbrev pub rows_meaning : ℕ → List ℕ → Meaning
rows_meaning present rows = kept_meaning present (row_marks rows) (pairs (row_marks rows)) 4032
