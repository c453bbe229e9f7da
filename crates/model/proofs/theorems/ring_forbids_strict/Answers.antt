use Rattle.model.proofs.Forbids.{ring_forbids_strict}
use Rattle.model.proofs.theorems.ring_forbids_strict.Goals as goal

pub returns : goal.returns
returns c = ring_forbids_strict
