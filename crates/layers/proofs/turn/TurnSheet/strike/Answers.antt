use Rattle.std.proofs.Common.{rules}
use Rattle.layers.proofs.Turning.{turned_strikes}
use Rattle.layers.proofs.turn.TurnSheet.strike.Goals as goal

pub returns : goal.returns
returns g c = turned_strikes c.args.u c.args.v (search rules)
