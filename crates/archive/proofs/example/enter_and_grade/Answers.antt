use Rattle.grading.specs.Outcomes.{brought}
use Rattle.archive.specs.declared.call.Call.TheVariants.{Loose}
use Rattle.archive.specs.Direct.{enter, asked, loose, loosely, idle, then}
use Rattle.archive.proofs.Direct.{direct_upheld}
use Rattle.archive.proofs.example.enter_and_grade.Goals as goal

pub returns-clause-upheld : goal.returns-clause-upheld
returns-clause-upheld g c =
    let t = c.args.thresholds in
    let before = brought c.args.memory.now in
    let after = brought c.graded-given.new.memory in
    direct_upheld g.S.Sheet c.args.sheet c.new-folder.result c.enter-entered.new.self _ _ c.new-folder.ensures.account
    (then (enter c.args.u c.enter-entered.new.self c.enter-entered.result c.enter-entered.ensures.account)
    (then (asked (Loose t) (loosely before after c.graded-given.result) (loose t before after c.graded-given.result c.graded-given.ensures.graded c.graded-given.ensures.same.past)) idle))
