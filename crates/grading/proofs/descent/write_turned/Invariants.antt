use Rattle.grading.specs.Rings.{Placed}
use Rattle.grading.proofs.descent.write_turned.Given as goal

abbrev pub invariant-loop-i : goal.invariant-loop-i
invariant-loop-i l = Placed l.walk l.high l.len l.turn l.i l.x-items
