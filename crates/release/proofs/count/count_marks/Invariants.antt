use Rattle.std.proofs.Common.{◌≡◌, ◌*◌, ◌≤◌, length}
use Rattle.sheet.specs.Views.{view_of}
use Rattle.form.specs.Sections.{marks_below}
use Rattle.release.proofs.count.count_marks.Given as goal

abbrev pub invariant-loop-u : goal.invariant-loop-u
invariant-loop-u g l = (l.count ≡ length (marks_below (view_of g.S.Sheet l.sheet) l.u)) × (l.count ≤ 64 * l.u)
