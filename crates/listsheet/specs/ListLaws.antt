-- A list sheet is a sheet: it holds as many marks as there are marked pairs. Assumes nothing.
use Rattle.std.specs.Prelude.{ℕ, ◌≤◌, List, length}
use Rattle.std.proofs.Common.{arith}
use Rattle.sheet.specs.Meanings.{Lawful}
use Rattle.sheet.specs.Kept.{Irreflexive, PresentFrom, PresentTo}
use Rattle.sheet.specs.KeptLaws.{kept_lawful}
use Rattle.listsheet.specs.declared.marks.Mark.{Mark}
use Rattle.listsheet.specs.Places.{list_marks, Once, list_meaning}
use Rattle.listsheet.specs.Listed.{pairs_listed}

pub list_lawful : (present : ℕ) (items : List Mark) → length items ≤ 512 → Once items → Irreflexive (list_marks items)
    → PresentFrom present (list_marks items) → PresentTo present (list_marks items) → Lawful (list_meaning present items)
list_lawful present items few once free from to =
    kept_lawful present (list_marks items) (length items) 512 free from to
    (omega (arith, pairs_listed present items once from to)) few (omega arith) (omega arith)
