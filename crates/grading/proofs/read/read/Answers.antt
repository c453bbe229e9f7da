use Rattle.sheet.specs.Views.{view_of}
use Rattle.grading.proofs.Drawing.{apart_made, drawn}
use Rattle.grading.proofs.read.read.Goals as goal

pub invariant_of-result : goal.invariant_of-result
invariant_of-result g c = record { apart = apart_made c.standing_of-standing.result c.marks_of-marks.result c.hops_of-hops.result c.hops_of-hops.ensures }

pub returns : goal.returns
returns g c =
    drawn (view_of g.S.Sheet c.args.sheet.now) c.standing_of-standing.result c.marks_of-marks.result c.hops_of-hops.result _ c.standing_of-standing.ensures c.marks_of-marks.ensures c.hops_of-hops.ensures
