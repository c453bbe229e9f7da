use Rattle.model.proofs.Rounds.{fewer}
use Rattle.model.proofs.theorems.fewer_records_fewer_rings.Goals as goal

pub returns : goal.returns
returns c = fewer
