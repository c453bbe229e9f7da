use Rattle.reading.specs.Claims.{claimed_view}
use Rattle.reading.proofs.Counting.{CountedTo}
use Rattle.reading.proofs.ring.count_steps.Given as goal

abbrev pub invariant-loop-i : goal.invariant-loop-i
invariant-loop-i l = CountedTo (claimed_view l.claim) l.ring l.i l.tally
