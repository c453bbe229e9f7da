use Rattle.std.proofs.Common.{rules}
use Rattle.grading.specs.Relaxing.{falls_at}
use Rattle.grading.proofs.relax.fallen.Goals as goal

pub returns : goal.returns
returns g c = c.collect.ensures (falls_at g.V.Scale c.args.old.now c.args.new.now) (λ u b l told. search rules)
