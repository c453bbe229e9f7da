use Rattle.std.proofs.Common.{◌≡◌, length}
use Rattle.grading.specs.Problems.{problem_steps}
use Rattle.grading.proofs.Rounds.{Running}
use Rattle.grading.proofs.settle.settle.Given as goal

abbrev pub invariant-loop-k : goal.invariant-loop-k
invariant-loop-k g l = (length l.next ≡ 64) × Running g.V.Scale (problem_steps l.problem) l.k l.old l.next l.fell
