use Rattle.std.proofs.Common.{sym, ◌∙◌}
use Rattle.std.proofs.lemmas.Bool.{le-ltb}
use Rattle.sheet.proofs.Tables.{far_row}
use Rattle.sheet.proofs.bitsheet.BitSheetSheet.marked.Goals as goal

pub returns-else-u-lt64 : goal.returns-else-u-lt64
returns-else-u-lt64 c =
    let old = c.args.self.now in
    le-ltb c.args.u 64 c.if-u-lt64.false
    ∙ sym (far_row old.present.set old.table.rows old.from c.args.u c.args.v c.if-u-lt64.false)
