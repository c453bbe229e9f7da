use Rattle.std.proofs.Common.{◌+◌, ◌*◌, ◌≤◌}
use Rattle.std.specs.List.{flat_map}
use Rattle.form.specs.Laid.{of_pair}
use Rattle.form.specs.Sections.{marks_below}
use Rattle.sheet.specs.Views.{view_of}
use Rattle.arrayvec.specs.ArrayVec.{array_vec_len}
use Rattle.release.specs.Drafts.{Adds}
use Rattle.release.proofs.sections.put_marks.Given as goal

abbrev pub invariant-loop-u : goal.invariant-loop-u
invariant-loop-u g l =
    let w = view_of g.S.Sheet l.sheet in
    Adds l.initial.draft (flat_map of_pair (marks_below w l.u)) l.draft × (array_vec_len l.draft ≤ array_vec_len l.initial.draft + 128 * l.u)
