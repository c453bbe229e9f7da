use Rattle.std.proofs.Common.{◌≡◌, ℕ, ◌<◌}
use Rattle.grading.specs.Problems.{at}
use Rattle.grading.proofs.relax.clear.Given as goal

abbrev pub invariant-loop-x : goal.invariant-loop-x
invariant-loop-x g l = (u : ℕ) → u < l.x-index → at g.V.Scale l.row u ≡ g.V.Scale.nothing
