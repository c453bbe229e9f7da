use Rattle.std.proofs.Common.{◌*◌, take}
use Rattle.std.specs.List.{flat_map}
use Rattle.script.specs.Puts.{PutAt}
use Rattle.script.proofs.spell.put_all.Given as goal

abbrev pub invariant-loop-item : goal.invariant-loop-item
invariant-loop-item g l = PutAt (l.item-index * g.T.Spelled.width) (flat_map g.T.Spelled.text (take l.item-index l.items)) l.initial.at l.initial.out l.out l.at
