-- A folder as data: the records entered in it, and the marks made. Assumes nothing.
use Rattle.std.specs.Prelude.{ℕ, List}
use Rattle.std.specs.List.{fold}
use Rattle.model.specs.Views.{View}
use Rattle.sheet.specs.Meanings.{Meaning, empty}
use Rattle.sheet.specs.Calls.{entered, marked}
use Rattle.sheet.specs.Views.{view_in}
use Rattle.layers.specs.Folders.{Account, opened, seen}

-- what a new sheet means after the records listed are entered, and then the marks listed are made, each from its first record to its second
abbrev pub sheet : List ℕ → List (ℕ × ℕ) → Meaning
sheet records marks = fold (λ m p. marked m p.0 p.1) (fold entered (empty 4032) records) marks

-- a folder over that sheet which has set nothing aside
abbrev pub folder : List ℕ → List (ℕ × ℕ) → Account
folder records marks = opened (sheet records marks)

-- what stands and what is marked in a folder: all that a grading goes by
abbrev pub view : Account → View
view f = view_in (seen f)
