use Rattle.model.proofs.Rounds.{turned}
use Rattle.model.proofs.theorems.turning_keeps_a_ring.Goals as goal

pub returns : goal.returns
returns c = turned
