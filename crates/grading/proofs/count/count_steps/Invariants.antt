use Rattle.std.proofs.Common.{◌≤◌}
use Rattle.model.specs.Views.{View}
use Rattle.grading.specs.Graphs.{Draws}
use Rattle.grading.specs.Counts.{Counted}
use Rattle.grading.proofs.count.count_steps.Given as goal

abbrev pub invariant-loop-i : goal.invariant-loop-i
invariant-loop-i l = (l.all.marks ≤ l.i) × (l.all.hops ≤ l.i) × ((w : View) → Draws w l.graph → Counted w l.ring l.i l.all)
