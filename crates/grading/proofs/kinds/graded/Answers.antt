use Rattle.std.proofs.Common.{rules}
use Rattle.sheet.specs.Views.{view_of}
use Rattle.paths.specs.Bests.{Best, Forbids}
use Rattle.grading.specs.Outcomes.{brought}
use Rattle.grading.proofs.Checked.{outcome_so}
use Rattle.grading.proofs.kinds.graded.Goals as goal

pub returns-clause-graded : goal.returns-clause-graded
returns-clause-graded g c =
    let s = g.V.Scale in
    let k = g.V.Kind in
    let laws = g.met.V.Kind in
    let w = view_of g.S.Sheet c.args.sheet.now in
    let t = c.args.thresholds in
    outcome_so w (Best s w t) (k.asked w t) s.nothing (Forbids s w t) (k.forbids w t) (laws.given w t) (laws.shown w t)
    (brought c.args.memory.now) (brought c.grade.new.memory) t c.grade.result (search rules)
