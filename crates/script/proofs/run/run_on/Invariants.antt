use Rattle.std.proofs.Common.{length, vec_items}
use Rattle.layers.specs.FolderCalls.{account_of}
use Rattle.script.proofs.Judging.{Written}
use Rattle.script.proofs.run.run_on.Given as goal

abbrev pub invariant-loop-line : goal.invariant-loop-line
invariant-loop-line g l = Written (account_of g.S.Sheet l.initial.desk.folder) l.script l.rest (account_of g.S.Sheet l.desk.folder) (vec_items l.out)

abbrev pub decreases-loop-line : goal.decreases-loop-line
decreases-loop-line g l = length l.rest
