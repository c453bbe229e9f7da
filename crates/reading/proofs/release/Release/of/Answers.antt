use Rattle.std.proofs.Common.{refl}
use Rattle.reading.proofs.Judging.{unshown, ungraded, held}
use Rattle.reading.proofs.release.Release.of.Goals as goal

pub returns-in_default : goal.returns-in_default
returns-in_default c = (refl, unshown c.args.claim c.in_default.ensures)

pub returns-then-not-is_loose : goal.returns-then-not-is_loose
returns-then-not-is_loose c = (refl, ungraded c.args.claim c.in-Some.tally c.in-Some.ensures (rw c.thresholds.ensures at c.if-not-is_loose.ensures))

pub invariant_of-result : goal.invariant_of-result
invariant_of-result c = record {
  drawn = c.requires;
  holds = held c.args.claim c.in-Some.tally c.in-Some.ensures (rw c.thresholds.ensures at c.if-not-is_loose.ensures);
}
