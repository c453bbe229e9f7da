use Rattle.std.proofs.Common.{pos}
use Rattle.scale.specs.Wholes.{of_whole}
use Rattle.scale.specs.Units.{of_unit}
use Rattle.scale.specs.Pairs.{both}
use Rattle.paths.specs.Numbers.{BestStrict}
use Rattle.archive.specs.Shown.{pair_shown, pair_in}
use Rattle.sheet.specs.Views.{view_of}
use Rattle.grading.specs.Kinds.{strict_asked, strict_forbidden}
use Rattle.grading.specs.Outcomes.{brought}
use Rattle.archive.specs.declared.answer.Answer.TheVariants.{Pairs}
use Rattle.archive.proofs.Telling.{told_given, told_refused}
use Rattle.archive.proofs.grades.strict_answer.Goals as goal

pub returns-in-Ok : goal.returns-in-Ok
returns-in-Ok g c =
    let w = view_of g.S.Sheet c.args.sheet.now in
    let t = c.args.thresholds in
    told_given w t (strict_asked w t) (both (of_whole (pos 0)) (of_unit (pos 0))) (strict_forbidden w t) (brought c.args.memory.now) (brought c.graded.new.memory) c.requires pair_shown (λ h. BestStrict w t (λ u. pair_in (h u))) Pairs (λ h best. best)
    c.list_grades.result c.in-Ok.ensures.graded c.list_grades.ensures

pub returns-in-Err : goal.returns-in-Err
returns-in-Err g c =
    let w = view_of g.S.Sheet c.args.sheet.now in
    let t = c.args.thresholds in
    told_refused w t (strict_asked w t) (both (of_whole (pos 0)) (of_unit (pos 0))) (strict_forbidden w t) (brought c.args.memory.now) (brought c.graded.new.memory) c.requires pair_shown (λ h. BestStrict w t (λ u. pair_in (h u))) Pairs c.in-Err.decline c.refusal.result c.in-Err.ensures.graded c.refusal.ensures
