use Rattle.script.proofs.OneWay.{long_lines_wrong}
use Rattle.script.proofs.theorems.long_lines_are_wrong.Goals as goal

pub returns : goal.returns
returns c = long_lines_wrong
