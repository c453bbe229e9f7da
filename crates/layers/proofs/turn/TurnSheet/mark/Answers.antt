use Rattle.std.proofs.Common.{rules}
use Rattle.layers.proofs.Turning.{turned_marks}
use Rattle.layers.proofs.turn.TurnSheet.mark.Goals as goal

pub returns : goal.returns
returns g c = turned_marks c.args.u c.args.v (search rules)
