use Rattle.layers.proofs.Undoing.{aside_and_back}
use Rattle.layers.proofs.theorems.aside_and_back.Goals as goal

pub returns : goal.returns
returns c = aside_and_back
