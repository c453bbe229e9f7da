use Rattle.model.proofs.Ratios.{fewer_circles}
use Rattle.model.proofs.theorems.fewer_records_fewer_circles.Goals as goal

pub returns : goal.returns
returns c = fewer_circles
