use Rattle.std.proofs.Common.{refl, arith}
use Rattle.sheet.specs.Views.{view_of}
use Rattle.form.specs.Sections.{marks_below}
use Rattle.form.proofs.Listing.{marks_count}
use Rattle.release.proofs.count.count_marks.Goals as goal

pub loop-u-init : goal.loop-u-init
unfolding marks_below
loop-u-init g c = (refl, omega arith)

pub loop-u-preserved : goal.loop-u-preserved
loop-u-preserved g c =
    let w = view_of g.S.Sheet c.args.sheet.now in (
      omega (arith, c.count_marks_from.ensures.counted, c.loop-u.invariant.0, marks_count w c.loop-u.u),
      omega (arith, c.count_marks_from.ensures.few, c.loop-u.invariant.1),
    )
