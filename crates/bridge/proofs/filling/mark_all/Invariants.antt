use Rattle.std.proofs.Common.{◌≡◌, take}
use Rattle.std.specs.List.{fold}
use Rattle.sheet.specs.Views.{meaning_of}
use Rattle.bridge.specs.Filled.{with_pair}
use Rattle.bridge.proofs.filling.mark_all.Given as goal

abbrev pub invariant-loop-pair : goal.invariant-loop-pair
invariant-loop-pair g l = meaning_of g.S.Sheet l.sheet ≡ fold with_pair (meaning_of g.S.Sheet l.initial.sheet) (take l.pair-index l.pairs)
