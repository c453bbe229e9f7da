use Rattle.grading.specs.Relaxing.{Lowered, by_steps, Below}
use Rattle.grading.proofs.Lowering.{Passed}
use Rattle.grading.proofs.relax.relax_kind.Given as goal

abbrev pub invariant-loop-v : goal.invariant-loop-v
invariant-loop-v g l = record {
  lowered : Lowered g.V.Scale (by_steps g.V.Scale l.cost l.rows l.from) l.initial.to l.to l.initial.next l.next;
  below : Below g.V.Scale l.cost l.rows l.from l.order l.v-index l.to;
  passed : Passed g.V.Scale l.cost l.from l.order l.left l.v-index l.to;
}
