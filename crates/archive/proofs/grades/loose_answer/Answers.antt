use Rattle.std.proofs.Common.{pos}
use Rattle.scale.specs.Wholes.{of_whole}
use Rattle.paths.specs.Numbers.{BestLoose}
use Rattle.archive.specs.Shown.{whole_shown}
use Rattle.sheet.specs.Views.{view_of}
use Rattle.grading.specs.Kinds.{loose_asked, loose_forbidden}
use Rattle.grading.specs.Outcomes.{brought}
use Rattle.archive.specs.declared.answer.Answer.TheVariants.{Wholes}
use Rattle.archive.proofs.Telling.{told_given, told_refused}
use Rattle.archive.proofs.grades.loose_answer.Goals as goal

pub returns-in-Ok : goal.returns-in-Ok
returns-in-Ok g c =
    let w = view_of g.S.Sheet c.args.sheet.now in
    let t = c.args.thresholds in
    told_given w t (loose_asked w t) (of_whole (pos 0)) (loose_forbidden w t) (brought c.args.memory.now) (brought c.graded.new.memory) c.requires whole_shown (BestLoose w t) Wholes (λ h best. best)
    c.list_grades.result c.in-Ok.ensures.graded c.list_grades.ensures

pub returns-in-Err : goal.returns-in-Err
returns-in-Err g c =
    let w = view_of g.S.Sheet c.args.sheet.now in
    let t = c.args.thresholds in
    told_refused w t (loose_asked w t) (of_whole (pos 0)) (loose_forbidden w t) (brought c.args.memory.now) (brought c.graded.new.memory) c.requires whole_shown (BestLoose w t) Wholes c.in-Err.decline c.refusal.result c.in-Err.ensures.graded c.refusal.ensures
