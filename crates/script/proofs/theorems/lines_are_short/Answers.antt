use Rattle.script.proofs.OneWay.{lines_short}
use Rattle.script.proofs.theorems.lines_are_short.Goals as goal

pub returns : goal.returns
returns c = lines_short
