use Rattle.std.proofs.Common.{◌≡◌, length, take, drop}
use Rattle.layers.specs.FolderCalls.{account_of}
use Rattle.archive.specs.Histories.{History}
use Rattle.archive.specs.Right.{Right}
use Rattle.archive.proofs.replay.replay.Given as goal

abbrev pub invariant-loop-i : goal.invariant-loop-i
invariant-loop-i g l =
    History Right (account_of g.S.Sheet l.initial.desk.folder) (take l.i l.calls) (take l.i l.answers) (account_of g.S.Sheet l.desk.folder)
    × (drop (length l.calls) l.answers ≡ drop (length l.calls) l.initial.answers)
