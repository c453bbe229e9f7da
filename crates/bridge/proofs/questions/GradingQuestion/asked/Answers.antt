use Rattle.sheet.specs.Views.{view_of}
use Rattle.grading.specs.Outcomes.{brought}
use Rattle.bridge.proofs.Declining.{grading_declined}
use Rattle.bridge.proofs.questions.GradingQuestion.asked.Goals as goal

pub returns-in-Err-clause-answered : goal.returns-in-Err-clause-answered
returns-in-Err-clause-answered g c =
    let w = view_of g.S.Sheet c.args.sheet.now in
    let t = c.args.self.thresholds in
    grading_declined w t (g.V.Kind.asked w t) g.V.Scale.nothing (g.V.Kind.forbids w t) (brought c.args.memory.now) (brought c.graded.new.memory) c.in-Err.decline c.requires.room c.requires.cleared c.in-Err.ensures.graded
