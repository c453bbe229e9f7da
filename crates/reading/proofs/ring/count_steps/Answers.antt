use Rattle.reading.specs.Claims.{claimed_view}
use Rattle.reading.proofs.Counting.{counted_none, counted_more, no_step}
use Rattle.reading.proofs.ring.count_steps.Goals as goal

pub loop-i-init : goal.loop-i-init
loop-i-init c = counted_none (claimed_view c.args.claim.now) c.args.ring.now

pub loop-i-preserved : goal.loop-i-preserved
loop-i-preserved c =
    counted_more (claimed_view c.args.claim.now) c.args.ring.now c.loop-i.i c.in_ok-step.field-0 c.loop-i.tally c.with-tally.result
    c.loop-i-test.true c.in_ok-step.ensures c.with-tally.ensures.marks c.with-tally.ensures.hops c.loop-i.invariant

pub returns-in_err-step : goal.returns-in_err-step
returns-in_err-step c = rw c.from_residual.ensures (no_step (claimed_view c.args.claim.now) c.args.ring.now c.loop-i.i c.loop-i-test.true c.in_err-step.ensures)
