use Rattle.sheet.specs.Views.{view_of}
use Rattle.grading.specs.Outcomes.{brought}
use Rattle.archive.proofs.Finding.{ratio_told, circle_refused}
use Rattle.archive.proofs.ratio.ratio_answer.Goals as goal

pub returns-in-Ok : goal.returns-in-Ok
returns-in-Ok g c =
    let w = view_of g.S.Sheet c.args.sheet.now in
    ratio_told w (brought c.args.memory.now) (brought c.least_ratio.new.memory) c.requires c.in-Ok.least c.list_ring-ring.result c.list_grades-grades.result c.in-Ok.ensures.found
    c.list_ring-ring.ensures c.list_grades-grades.ensures

pub returns-in-Err : goal.returns-in-Err
returns-in-Err g c =
    let w = view_of g.S.Sheet c.args.sheet.now in
    circle_refused w (brought c.args.memory.now) (brought c.least_ratio.new.memory) c.requires c.in-Err.decline c.refusal.result c.in-Err.ensures.found c.refusal.ensures
