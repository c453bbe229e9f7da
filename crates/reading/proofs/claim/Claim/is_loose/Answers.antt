use Rattle.std.proofs.Common.{below_more}
use Rattle.reading.proofs.claim.Claim.is_loose.Goals as goal

pub loop-u-preserved : goal.loop-u-preserved
loop-u-preserved c = below_more _ _ c.loop-u.invariant c.if-not-meets_from.ensures
