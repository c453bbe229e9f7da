use Rattle.std.proofs.Common.{rules}
use Rattle.model.specs.Views.{is_mark}
use Rattle.sheet.specs.Views.{view_of}
use Rattle.grading.proofs.read.marks_of.Goals as goal

pub returns : goal.returns
returns g c = c.rows.ensures (λ v u. is_mark (view_of g.S.Sheet c.args.sheet.now) u v) (λ v u b l m told. search rules)
