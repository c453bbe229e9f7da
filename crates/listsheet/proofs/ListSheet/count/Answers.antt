use Rattle.std.proofs.Common.{sym, ◌∙◌}
use Rattle.listsheet.specs.Listed.{pairs_listed}
use Rattle.listsheet.proofs.ListSheet.count.Goals as goal

pub returns-clause-pairs : goal.returns-clause-pairs
returns-clause-pairs c =
    let s = c.args.self.now in
    c.len.ensures ∙ sym (pairs_listed s.present.set s.table.marks.items s.once s.from s.to)
