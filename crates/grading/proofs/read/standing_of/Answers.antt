use Rattle.std.proofs.Common.{rules}
use Rattle.sheet.specs.Views.{view_of}
use Rattle.grading.proofs.read.standing_of.Goals as goal

pub returns : goal.returns
returns g c = c.collect.ensures (view_of g.S.Sheet c.args.sheet.now).stands (λ u b l told. search rules)
