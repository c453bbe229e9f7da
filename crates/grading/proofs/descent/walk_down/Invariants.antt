use Rattle.std.proofs.Common.{◌≡◌, ◌+◌, length}
use Rattle.paths.specs.Descents.{Walked}
use Rattle.grading.specs.Problems.{problem_steps}
use Rattle.grading.proofs.descent.walk_down.Given as goal

abbrev pub invariant-loop-t : goal.invariant-loop-t
invariant-loop-t g l = (length l.walk ≡ 65) × Walked g.V.Scale (problem_steps l.problem) l.walk (l.k + 1) l.t
