use Rattle.grading.specs.Problems.{Copied}
use Rattle.grading.proofs.solve.copy_values.Given as goal

abbrev pub invariant-loop-u : goal.invariant-loop-u
invariant-loop-u g l = Copied g.V.Scale l.set l.u l.from l.initial.to l.to
