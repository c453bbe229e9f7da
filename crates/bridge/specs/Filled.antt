-- What a sheet means once records were entered and then pairs marked on it, one by one. What is declined is left out. Assumes nothing.
use Rattle.std.specs.Prelude.{ℕ, List, slice_index}
use Rattle.std.specs.List.{fold}
use Rattle.model.specs.Views.{View}
use Rattle.sheet.specs.Meanings.{Meaning, empty}
use Rattle.sheet.specs.Views.{view_in}
use Rattle.sheet.specs.Checks.{enter_check, mark_check}
use Rattle.sheet.specs.Calls.{entered, marked, after_check}

abbrev pub with_record : Meaning → ℕ → Meaning
with_record m u = after_check (enter_check m u) (entered m u) m

-- a mark from the first number of the pair to the second
abbrev pub with_pair : Meaning → List ℕ → Meaning
with_pair m p =
    let u = slice_index p 0 in
    let v = slice_index p 1 in
    after_check (mark_check m u v) (marked m u v) m

abbrev pub filling : Meaning → List ℕ → List (List ℕ) → Meaning
filling m records pairs = fold with_pair (fold with_record m records) pairs

-- what stands and is marked on a new sheet of this capacity, once it is filled
abbrev pub filled_view : ℕ → List ℕ → List (List ℕ) → View
filled_view capacity records pairs = view_in (filling (empty capacity) records pairs)
