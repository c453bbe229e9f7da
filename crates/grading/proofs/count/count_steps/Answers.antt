use Rattle.std.proofs.Common.{arith}
use Rattle.grading.proofs.Counting.{at_most_one, counted_none, counted_more}
use Rattle.grading.proofs.count.count_steps.Goals as goal

pub loop-i-init : goal.loop-i-init
loop-i-init c = (omega arith, omega arith, λ w draws. counted_none w c.args.ring.now)

pub loop-i-preserved : goal.loop-i-preserved
loop-i-preserved c =
    let told = c.add_step-all.ensures in
    let inv = c.loop-i.invariant in (
      at_most_one _ c.loop-i.all.marks c.add_step-all.result.marks c.loop-i.i told.marks inv.0,
      at_most_one _ c.loop-i.all.hops c.add_step-all.result.hops c.loop-i.i told.hops inv.1,
      λ w draws. counted_more w c.args.graph.now c.args.ring.now c.loop-i.i c.loop-i.all c.add_step-all.result draws c.loop-i-test.true c.requires.1 told.marks told.hops (inv.2 w draws),
    )
