use Rattle.std.proofs.Common.{pos}
use Rattle.scale.specs.Units.{of_unit}
use Rattle.paths.specs.Numbers.{BestLoose, unit_thresholds}
use Rattle.archive.specs.Shown.{unit_shown}
use Rattle.sheet.specs.Views.{view_of}
use Rattle.grading.specs.Kinds.{unit_asked, unit_forbidden}
use Rattle.grading.specs.Outcomes.{brought}
use Rattle.archive.specs.declared.answer.Answer.TheVariants.{Units}
use Rattle.archive.proofs.Telling.{told_given, told_refused}
use Rattle.archive.proofs.grades.unit_answer.Goals as goal

pub returns-in-Ok : goal.returns-in-Ok
returns-in-Ok g c =
    let w = view_of g.S.Sheet c.args.sheet.now in
    let t = unit_thresholds in
    told_given w t (unit_asked w t) (of_unit (pos 0)) (unit_forbidden w t) (brought c.args.memory.now) (brought c.graded.new.memory) c.requires unit_shown (BestLoose w t) Units (λ h best. best)
    c.list_grades.result c.in-Ok.ensures.graded c.list_grades.ensures

pub returns-in-Err : goal.returns-in-Err
returns-in-Err g c =
    let w = view_of g.S.Sheet c.args.sheet.now in
    let t = unit_thresholds in
    told_refused w t (unit_asked w t) (of_unit (pos 0)) (unit_forbidden w t) (brought c.args.memory.now) (brought c.graded.new.memory) c.requires unit_shown (BestLoose w t) Units c.in-Err.decline c.refusal.result c.in-Err.ensures.graded c.refusal.ensures
