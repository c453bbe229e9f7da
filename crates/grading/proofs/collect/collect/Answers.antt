use Rattle.std.proofs.Common.{sym, ◌∙◌}
use Rattle.grading.proofs.Collecting.{none_collected, collected_with, collected_without}
use Rattle.grading.proofs.collect.collect.Goals as goal
use Rattle.grading.proofs.collect.collect.Goals.{then-passes, else-passes}

pub loop-u-init : goal.loop-u-init
loop-u-init g c f told = none_collected f

pub loop-u-preserved : goal.loop-u-preserved
loop-u-preserved g c f told =
    let is = told c.loop-u.u c.passes.result c.loop-u-test.true c.passes.ensures in
    let before = c.loop-u.invariant f told in
    elim c.if-passes.branch [
      | then-passes w ↦ rw w.set-is (collected_with f c.loop-u.u c.loop-u.set w.with_bit-set.result (w.with_bit-set.ensures.below c.loop-u-test.true) (sym w.if-passes.true ∙ is) before)
      | else-passes w ↦ rw w.set-is (collected_without f c.loop-u.u c.loop-u.set (sym w.if-passes.false ∙ is) before)
    ]
