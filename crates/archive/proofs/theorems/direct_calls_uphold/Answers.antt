use Rattle.archive.proofs.Direct.{direct_upheld}
use Rattle.archive.proofs.theorems.direct_calls_uphold.Goals as goal

pub returns : goal.returns
returns g c = direct_upheld g.S.Sheet
