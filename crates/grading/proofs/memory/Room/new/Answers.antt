use Rattle.std.proofs.Common.{replicate, ap}
use Rattle.grading.proofs.memory.Room.new.Goals as goal

pub returns-clause-values : goal.returns-clause-values
returns-clause-values g c = ap (replicate 4160) c.nothing-2.ensures
