use Rattle.std.proofs.Common.{rules}
use Rattle.reading.proofs.Rings.{both_on}
use Rattle.reading.proofs.ring.count_ring.Goals as goal

pub returns-then-has_both : goal.returns-then-has_both
returns-then-has_both c = both_on c.args.claim.now c.args.ring.now c.in_ok-tally.tally (search rules) (search rules) (search rules) (search rules) (search rules)
