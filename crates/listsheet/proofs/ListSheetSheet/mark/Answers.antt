use Rattle.std.proofs.Common.{◌≢◌, true, length, sym, ap, ◌∙◌, subst, arith}
use Rattle.std.proofs.lemmas.Bool.{eqb-false}
use Rattle.sheet.proofs.Keeping.{Written, kept_left, passed_clear, written_keeps, mark_taken}
use Rattle.listsheet.specs.Places.{list_marks, Once}
use Rattle.listsheet.proofs.Changes.{marks_pushed, once_pushed}
use Rattle.listsheet.proofs.ListSheetSheet.mark.Goals as goal
use Rattle.listsheet.proofs.ListSheetSheet.mark.Goals.{After-push}

-- a pair that fails a check
pub returns-in_err-check_pair : goal.returns-in_err-check_pair
returns-in_err-check_pair c = kept_left c.args.self.now.present.set c.args.u c.args.v _ _ c.from_residual.ensures.1 c.in_err-check_pair.ensures

-- the list is not full
full : (c : After-push) → length c.args.self.now.table.marks.items ≢ 512
full c = eqb-false (length c.args.self.now.table.marks.items) 512 (sym c.if-full.ensures)

-- a pair that passes them: its mark is written after the others
written : (c : After-push) → let old = c.args.self.now in
    Written old.present.set (list_marks old.table.marks.items) (list_marks c.push.new.self.marks.items) c.args.u c.args.v true
written c = record {
  clear = passed_clear c.args.self.now.present.set c.args.u c.args.v c.in_ok-check_pair.ensures;
  marks = ap list_marks c.push.ensures.items ∙ marks_pushed c.args.self.now.table.marks.items c.args.u c.args.v;
}

pub invariant_of-self : goal.invariant_of-self
invariant_of-self c =
    let old = c.args.self.now in
    let kept = written_keeps (written c) old.irreflexive old.from old.to in
    record {
      few = omega (arith, full c, c.args.self.now.few, c.push.ensures.len);
      once = subst Once (sym c.push.ensures.items) (once_pushed old.table.marks.items c.args.u c.args.v (sym c.if-has.ensures) old.once);
      irreflexive = kept.irreflexive;
      from = kept.from;
      to = kept.to;
    }

pub returns : goal.returns
returns c =
    mark_taken (written (goal.at.returns c).After-push) (sym c.if-has.ensures)
    (full (goal.at.returns c).After-push) c.push.ensures.len
