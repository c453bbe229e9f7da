use Rattle.std.proofs.Common.{ℕ, false, sym, ap, ◌∙◌}
use Rattle.model.specs.Sets.{has}
use Rattle.sheet.specs.Rows.{row_marks}
use Rattle.sheet.proofs.Keeping.{Written, kept_left, written_keeps}
use Rattle.sheet.proofs.Tables.{written_back, row_struck}
use Rattle.sheet.proofs.bitsheet.BitSheetSheet.strike.Goals as goal
use Rattle.sheet.proofs.bitsheet.BitSheetSheet.strike.Goals.{After-set_row}

-- a pair that fails a check
pub returns-in_err-check_pair : goal.returns-in_err-check_pair
returns-in_err-check_pair c = kept_left c.args.self.now.present.set c.args.u c.args.v _ _ c.from_residual.ensures.1 c.in_err-check_pair.ensures

-- a pair that passes them: its row is written back with one bit changed
written : (c : After-set_row) → let old = c.args.self.now in
    Written old.present.set (row_marks old.table.rows) (row_marks c.set_row.new.self.rows) c.args.u c.args.v false
written c =
    let wrote = c.set_row.ensures in
    written_back c.args.self.now.table.rows c.set_row.new.self.rows c.without_bit.result c.in_ok-check_pair.ensures
    c.row-row.ensures (λ low. c.without_bit.ensures.rest) wrote.rows wrote.long

pub invariant_of-self : goal.invariant_of-self
invariant_of-self c =
    let old = c.args.self.now in
    let kept = written_keeps (written c) old.irreflexive old.from old.to in
    record { irreflexive = kept.irreflexive; from = kept.from; to = kept.to }

pub returns : goal.returns
returns c =
    let old = c.args.self.now in
    row_struck old.table.rows c.set_row.new.self.rows (written (goal.at.returns c).After-set_row)
    (ap (λ (n : ℕ). has n c.args.v) (sym c.row-row.ensures) ∙ sym c.if-not-has_bit.ensures)
