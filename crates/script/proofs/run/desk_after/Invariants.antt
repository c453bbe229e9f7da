use Rattle.std.proofs.Common.{length}
use Rattle.layers.specs.FolderCalls.{account_of}
use Rattle.script.proofs.Judging.{Heard}
use Rattle.script.proofs.run.desk_after.Given as goal

abbrev pub invariant-loop-line : goal.invariant-loop-line
invariant-loop-line g l = Heard (account_of g.S.Sheet l.initial.desk.folder) l.lines l.rest (account_of g.S.Sheet l.desk.folder)

abbrev pub decreases-loop-line : goal.decreases-loop-line
decreases-loop-line g l = length l.rest
