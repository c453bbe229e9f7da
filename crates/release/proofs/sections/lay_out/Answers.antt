use Rattle.std.proofs.Common.{sym, refl, ◌∙◌}
use Rattle.sheet.specs.Views.{view_of}
use Rattle.form.specs.Sections.{finding}
use Rattle.release.specs.Grades.{grade_number}
use Rattle.release.proofs.Adding.{pushed}
use Rattle.release.proofs.Laying.{laid}
use Rattle.form.proofs.Listing.{depths_long}
use Rattle.release.proofs.sections.lay_out.Goals as goal

pub returns : goal.returns
returns g c =
    let w = view_of g.S.Sheet c.args.sheet.now in
    let z = grade_number c.args.grades.now in
    laid (finding w z c.args.ring.now) c.new-draft.ensures
    c.count_records-records.ensures c.count_marks.ensures (c.count_records-records.ensures ∙ sym (depths_long w z 64)) refl
    (pushed c.push.ensures.items c.push.ensures.len) c.put_records.ensures.adds c.put_two.ensures c.put_marks.ensures.adds
    (pushed c.push-2.ensures.items c.push-2.ensures.len) c.put_depths.ensures.adds (pushed c.push-3.ensures.items c.push-3.ensures.len) c.put_ring.ensures
