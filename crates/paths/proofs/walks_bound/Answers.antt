use Rattle.paths.proofs.Walking as walking
use Rattle.paths.proofs.walks_bound.Goals as goal

pub returns : goal.returns
returns g c = walking.walks_bound g.V.Scale g.met.V.Scale.lawful
