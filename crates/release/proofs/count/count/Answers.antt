use Rattle.std.proofs.Common.{arith}
use Rattle.release.proofs.count.count.Goals as goal
use Rattle.release.proofs.count.count.Goals.{then-passes, else-passes}

pub loop-u-preserved : goal.loop-u-preserved
loop-u-preserved g c =
    let so_far = c.loop-u.invariant in
    elim c.if-passes.branch [
      | then-passes w ↦ rw w.count-is (record {
        few = omega (arith, so_far.few);
        counted = λ n none told. omega (arith, so_far.counted n none told, rw w.if-passes.true at (told c.loop-u.u c.passes.result c.loop-u-test.true c.passes.ensures));
      })
      | else-passes w ↦ rw w.count-is (record {
        few = omega (arith, so_far.few);
        counted = λ n none told. omega (arith, so_far.counted n none told, rw w.if-passes.false at (told c.loop-u.u c.passes.result c.loop-u-test.true c.passes.ensures));
      })
    ]
