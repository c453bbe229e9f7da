use Rattle.model.proofs.Digits.{lowest_of}
use Rattle.model.proofs.bits.lowest.Goals as goal

pub returns-else-set-eq0 : goal.returns-else-set-eq0
returns-else-set-eq0 c = lowest_of c.args.set c.if-set-eq0.false c.ranges.set.fits
