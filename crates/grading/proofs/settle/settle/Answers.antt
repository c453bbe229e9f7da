use Rattle.std.proofs.Common.{◌+◌, sym, ap, ◌∙◌, arith, length-set}
use Rattle.model.specs.Sets.{has}
use Rattle.model.proofs.Digits.{has_zero}
use Rattle.paths.proofs.Loops.{loop_made}
use Rattle.grading.specs.Problems.{problem_steps, Ready}
use Rattle.grading.specs.Relaxing.{falls_at}
use Rattle.grading.proofs.Collecting.{collected_at}
use Rattle.grading.proofs.Rounds.{running_none, running_ready, running_more, fallen_made, settled_made}
use Rattle.grading.proofs.settle.settle.Goals as goal

pub loop-k-init : goal.loop-k-init
loop-k-init g c = (omega arith, running_none g.V.Scale g.met.V.Scale.lawful c.args.problem.now c.clear.new.row c.args.next.now (λ u l. c.clear.ensures u (omega arith)))

pub relax_round-requires-clause-ready : goal.relax_round-requires-clause-ready
relax_round-requires-clause-ready g c =
    let ready : (cost : _) → g.V.Scale.extent cost 1 → Ready g.V.Scale cost c.loop-k.old = λ cost e. running_ready g.V.Scale g.met.V.Scale.lawful c.args.problem.now c.loop-k.k cost c.loop-k.old c.loop-k.next c.loop-k.fell (omega arith) c.requires.2 e c.loop-k.invariant.1 in
    (omega arith, ready c.args.problem.now.mark c.requires.2.0, ready c.args.problem.now.hop c.requires.2.1)

pub walk_down-requires : goal.walk_down-requires
walk_down-requires g c =
    let falls = collected_at (falls_at g.V.Scale c.loop-k.old c.relax_round.new.to) c.fallen-fell.result c.in-Some.u c.fallen-fell.ensures c.in-Some.ensures.low in
    fallen_made g.V.Scale g.met.V.Scale.lawful c.args.problem.now c.loop-k.k c.loop-k.old c.relax_round.new.to c.loop-k.next c.loop-k.fell c.relax_round.new.next c.loop-k.invariant.1 c.relax_round.ensures
    c.in-Some.u c.loop-k.invariant.0 c.in-Some.ensures.low (sym falls ∙ c.in-Some.ensures.here)

pub returns-in_default : goal.returns-in_default
returns-in_default g c =
    settled_made g.V.Scale g.met.V.Scale.lawful c.args.problem.now c.loop-k.k c.loop-k.old c.relax_round.new.to c.loop-k.next c.loop-k.fell c.relax_round.new.next c.loop-k.invariant.1 c.relax_round.ensures
    (λ u l. sym (collected_at (falls_at g.V.Scale c.loop-k.old c.relax_round.new.to) c.fallen-fell.result u c.fallen-fell.ensures l) ∙ ap (λ n. has n u) c.in_default.ensures ∙ has_zero u)

pub returns-in-Some-find_repeat : goal.returns-in-Some-find_repeat
returns-in-Some-find_repeat g c =
    let found = c.in-Some-find_repeat.ensures in
    loop_made g.V.Scale g.met.V.Scale.lawful (problem_steps c.args.problem.now) c.walk_down.new.walk (c.loop-k.k + 1) c.in-Some-find_repeat.span.low c.in-Some-find_repeat.span.high c.walk_down.ensures found.0 found.1

pub loop-k-preserved : goal.loop-k-preserved
loop-k-preserved g c = (
  simp length-set c.loop-k.invariant.0,
  running_more g.V.Scale g.met.V.Scale.lawful c.args.problem.now c.loop-k.k c.loop-k.old c.relax_round.new.to c.loop-k.next c.loop-k.fell c.relax_round.new.next c.loop-k.invariant.1 c.relax_round.ensures
      c.copy_from_slice.new.self c.fallen-fell.result c.copy_from_slice.ensures.after c.fallen-fell.ensures c.in_default-find_repeat.ensures c.loop-k.invariant.0,
)
