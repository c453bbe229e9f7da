use Rattle.std.proofs.Common.{◌+◌, ◌≤◌}
use Rattle.form.specs.Sections.{records_below}
use Rattle.sheet.specs.Views.{view_of}
use Rattle.arrayvec.specs.ArrayVec.{array_vec_len}
use Rattle.release.specs.Drafts.{Adds}
use Rattle.release.proofs.sections.put_records.Given as goal

abbrev pub invariant-loop-u : goal.invariant-loop-u
invariant-loop-u g l =
    let w = view_of g.S.Sheet l.sheet in
    Adds l.initial.draft (records_below w l.u) l.draft × (array_vec_len l.draft ≤ array_vec_len l.initial.draft + l.u)
