use Rattle.std.proofs.Common.{◌+◌, ◌*◌, ◌≤◌}
use Rattle.std.specs.List.{flat_map}
use Rattle.form.specs.Laid.{of_pair}
use Rattle.form.specs.Sections.{marks_from}
use Rattle.sheet.specs.Views.{view_of}
use Rattle.arrayvec.specs.ArrayVec.{array_vec_len}
use Rattle.release.specs.Drafts.{Adds}
use Rattle.release.proofs.sections.put_marks_from.Given as goal

abbrev pub invariant-loop-v : goal.invariant-loop-v
invariant-loop-v g l =
    let w = view_of g.S.Sheet l.sheet in
    Adds l.initial.draft (flat_map of_pair (marks_from w l.u l.v)) l.draft × (array_vec_len l.draft ≤ array_vec_len l.initial.draft + 2 * l.v)
