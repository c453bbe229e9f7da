use Rattle.std.proofs.Common.{◌+◌, ◌*◌, ◌≤◌}
use Rattle.std.specs.List.{flat_map}
use Rattle.sheet.specs.Views.{view_of}
use Rattle.arrayvec.specs.ArrayVec.{array_vec_len}
use Rattle.release.specs.Drafts.{Adds}
use Rattle.form.specs.Laid.{of_two}
use Rattle.form.specs.Sections.{depths_below}
use Rattle.release.specs.Grades.{grade_number}
use Rattle.release.proofs.sections.put_depths.Given as goal

abbrev pub invariant-loop-u : goal.invariant-loop-u
invariant-loop-u g l =
    let w = view_of g.S.Sheet l.sheet in
    Adds l.initial.draft (flat_map of_two (depths_below w (grade_number l.grades) l.u)) l.draft × (array_vec_len l.draft ≤ array_vec_len l.initial.draft + 2 * l.u)
