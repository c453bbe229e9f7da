use Rattle.std.proofs.Common.{arith}
use Rattle.std.specs.List.{flat_map}
use Rattle.form.specs.Laid.{of_pair}
use Rattle.form.specs.Sections.{marks_below}
use Rattle.form.proofs.Listing.{marks_more}
use Rattle.sheet.specs.Views.{view_of}
use Rattle.release.proofs.Adding.{adds_none, adds_more}
use Rattle.release.proofs.sections.put_marks.Goals as goal

pub loop-u-init : goal.loop-u-init
unfolding marks_below
loop-u-init g c = (adds_none c.args.draft.now, omega arith)

pub loop-u-preserved : goal.loop-u-preserved
loop-u-preserved g c =
    let w = view_of g.S.Sheet c.args.sheet.now in (
      adds_more (λ n. flat_map of_pair (marks_below w n)) c.loop-u.u (marks_more w c.loop-u.u) c.loop-u.invariant.0 c.put_marks_from.ensures.adds,
      omega (arith, c.loop-u.invariant.1, c.put_marks_from.ensures.within),
    )
