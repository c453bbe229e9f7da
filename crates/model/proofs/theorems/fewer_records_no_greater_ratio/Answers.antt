use Rattle.model.proofs.Ratios.{no_greater_ratio}
use Rattle.model.proofs.theorems.fewer_records_no_greater_ratio.Goals as goal

pub returns : goal.returns
returns c = no_greater_ratio
