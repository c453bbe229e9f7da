use Rattle.std.proofs.Common.{◌+◌, ◌-◌, ◌<◌, arith, length-set}
use Rattle.paths.proofs.Loops.{walk_more}
use Rattle.grading.specs.Problems.{problem_steps}
use Rattle.grading.proofs.descent.walk_down.Goals as goal

pub loop-t-preserved : goal.loop-t-preserved
loop-t-preserved g c =
    let early : c.args.k < 64 = c.requires.early in
    (simp length-set c.loop-t.invariant.0, walk_more g.V.Scale g.met.V.Scale.lawful (problem_steps c.args.problem.now) c.loop-t.walk c.args.next.now (c.args.k + 1) c.loop-t.t (c.loop-t.t - 1) (omega arith) c.loop-t.invariant.0 (omega arith) c.loop-t.invariant.1 c.requires.nexts)
