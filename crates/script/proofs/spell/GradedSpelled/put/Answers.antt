use Rattle.std.proofs.Common.{◌+◌, arith}
use Rattle.script.proofs.Puts.{put_both, put_wider}
use Rattle.script.proofs.spell.GradedSpelled.put.Goals as goal

pub returns : goal.returns
returns g c = put_wider (put_both c.put-at.ensures (put_both c.put_text-at.ensures c.put.ensures)) (5 + g.G.Spelled.width) (omega arith)
