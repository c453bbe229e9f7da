use Rattle.std.proofs.Common.{◌≡◌, ◌≤◌, get_or}
use Rattle.arrayvec.specs.ArrayVec.{array_vec_len}
use Rattle.sheet.specs.Views.{view_of}
use Rattle.archive.specs.Entries.{entries_below}
use Rattle.archive.proofs.listing.list_grades.Given as goal

abbrev pub invariant-loop-u : goal.invariant-loop-u
invariant-loop-u g l =
    (l.list.items ≡ entries_below (view_of g.S.Sheet l.sheet) (λ u. g.V.Shown.shown (get_or l.grades u g.V.Scale.nothing)) l.u) × (array_vec_len l.list ≤ l.u)
