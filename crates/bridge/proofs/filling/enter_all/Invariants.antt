use Rattle.std.proofs.Common.{◌≡◌, take}
use Rattle.std.specs.List.{fold}
use Rattle.sheet.specs.Views.{meaning_of}
use Rattle.bridge.specs.Filled.{with_record}
use Rattle.bridge.proofs.filling.enter_all.Given as goal

abbrev pub invariant-loop-u : goal.invariant-loop-u
invariant-loop-u g l = meaning_of g.S.Sheet l.sheet ≡ fold with_record (meaning_of g.S.Sheet l.initial.sheet) (take l.u-index l.records)
