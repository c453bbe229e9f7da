use Rattle.std.proofs.Common.{rules}
use Rattle.grading.specs.Rows.{unmarked_from}
use Rattle.grading.proofs.read.hops_of.Goals as goal

pub returns : goal.returns
returns c = c.rows.ensures (λ v u. unmarked_from c.args.standing c.args.marks.now u v) (λ v u b l m told. search rules)
