use Rattle.model.proofs.Ratios.{grading_above}
use Rattle.model.proofs.theorems.grading_at_a_ratio_and_above.Goals as goal

pub returns : goal.returns
returns c = grading_above
