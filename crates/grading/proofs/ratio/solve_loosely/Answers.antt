use Rattle.paths.specs.Bests.{Best, Forbids}
use Rattle.paths.specs.Numbers.{BestLoose, ForbidsLoosely}
use Rattle.scale.specs.Scales.{whole_scale}
use Rattle.grading.specs.KindLaws.{loose_given, loose_shown}
use Rattle.grading.specs.Outcomes.{brought}
use Rattle.grading.proofs.Checked.{attempt_so}
use Rattle.grading.proofs.ratio.solve_loosely.Goals as goal

pub returns-clause-solved : goal.returns-clause-solved
returns-clause-solved c w draws =
    let s = whole_scale in
    let t = c.args.thresholds in
    attempt_so w (Best s w t) (λ h. BestLoose w t (λ u. (h u).value)) s.nothing (Forbids s w t) (ForbidsLoosely w t) (loose_given w t) (loose_shown w t)
    (brought c.args.memory.now) (brought c.solve_graph.new.memory) c.solve_graph.result (c.solve_graph.ensures.solved w draws)
