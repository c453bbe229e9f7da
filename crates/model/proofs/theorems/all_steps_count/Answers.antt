use Rattle.model.proofs.Rounds.{e_and_h}
use Rattle.model.proofs.theorems.all_steps_count.Goals as goal

pub returns : goal.returns
returns c = e_and_h
