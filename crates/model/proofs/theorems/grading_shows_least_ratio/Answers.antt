use Rattle.model.proofs.Ratios.{grading_shows_least}
use Rattle.model.proofs.theorems.grading_shows_least_ratio.Goals as goal

pub returns : goal.returns
returns c = grading_shows_least
