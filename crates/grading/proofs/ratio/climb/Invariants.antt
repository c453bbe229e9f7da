use Rattle.std.proofs.Common.{◌≡◌}
use Rattle.sheet.specs.Views.{view_of}
use Rattle.grading.specs.Outcomes.{SameLent}
use Rattle.grading.specs.Ratios.{Held}
use Rattle.grading.proofs.Measures.{room_above}
use Rattle.grading.proofs.ratio.climb.Given as goal

abbrev pub invariant-loop-graph : goal.invariant-loop-graph
invariant-loop-graph g l = record {
  held : Held (view_of g.S.Sheet l.sheet) l.memory.ring.now l.best;
  grades : l.memory.grades.now ≡ l.fn.memory.grades.now;
  same : SameLent l.fn.memory l.memory;
}

abbrev pub decreases-loop-graph : goal.decreases-loop-graph
decreases-loop-graph g l = room_above l.best.marks l.best.hops
