use Rattle.paths.proofs.Sums.{below_forbids}
use Rattle.paths.proofs.ring_below_forbids.Goals as goal

pub returns : goal.returns
returns g c = below_forbids g.V.Scale g.met.V.Scale.lawful
