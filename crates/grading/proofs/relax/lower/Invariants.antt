use Rattle.std.proofs.Common.{◌≡◌, ℕ, true, false, ◌⊎◌, length}
use Rattle.model.specs.Sets.{has}
use Rattle.grading.specs.Problems.{at}
use Rattle.grading.specs.Relaxing.{Lowered, by_value}
use Rattle.grading.proofs.relax.lower.Given as goal

abbrev pub invariant-loop-u : goal.invariant-loop-u
invariant-loop-u g l = record {
  long : length l.next ≡ 64;
  lowered : Lowered g.V.Scale (by_value l.set l.value l.v) l.initial.to l.to l.initial.next l.next;
  below : (w : ℕ) → has l.set w ≡ true → (has l.rest w ≡ true) ⊎ (g.V.Scale.less l.value (at g.V.Scale l.to w) ≡ false);
  inside : (w : ℕ) → has l.rest w ≡ true → has l.set w ≡ true;
}

abbrev pub decreases-loop-u : goal.decreases-loop-u
decreases-loop-u g l = l.rest
