use Rattle.script.proofs.OneWay.{read_one_way}
use Rattle.script.proofs.theorems.read_one_way.Goals as goal

pub returns : goal.returns
returns c = read_one_way
