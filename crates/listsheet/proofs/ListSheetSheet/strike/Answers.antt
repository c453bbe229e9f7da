use Rattle.std.proofs.Common.{◌≡◌, ◌<◌, true, false, length, sym, ap, ◌∙◌, subst, arith}
use Rattle.sheet.proofs.Keeping.{Written, kept_left, passed_clear, written_keeps, strike_taken}
use Rattle.listsheet.specs.Places.{place, is_pair, list_marks, Once}
use Rattle.listsheet.proofs.Changes.{found_there, marks_removed, once_removed}
use Rattle.listsheet.proofs.ListSheetSheet.strike.Goals as goal
use Rattle.listsheet.proofs.ListSheetSheet.strike.Goals.{After-remove}

-- a pair that fails a check
pub returns-in_err-check_pair : goal.returns-in_err-check_pair
returns-in_err-check_pair c = kept_left c.args.self.now.present.set c.args.u c.args.v _ _ c.from_residual.ensures.1 c.in_err-check_pair.ensures

-- what is found is there
there : (c : After-remove) → let items = c.args.self.now.table.marks.items in
    (c.in-Some.k < length items) × (is_pair (place items c.in-Some.k) c.args.u c.args.v ≡ true) × (list_marks items c.args.u c.args.v ≡ true)
there c = found_there c.args.self.now.table.marks.items c.args.u c.args.v c.in-Some.k (sym c.in-Some.ensures)

-- a pair that passes them, and is found: the last mark takes its place
written : (c : After-remove) → let old = c.args.self.now in
    Written old.present.set (list_marks old.table.marks.items) (list_marks c.remove.new.self.marks.items) c.args.u c.args.v false
written c =
    let found = there c in
    record {
      clear = passed_clear c.args.self.now.present.set c.args.u c.args.v c.in_ok-check_pair.ensures;
      marks = ap list_marks c.remove.ensures.items ∙ marks_removed c.args.self.now.table.marks.items c.in-Some.k found.0 c.args.u c.args.v found.1 c.args.self.now.once;
    }

pub invariant_of-self : goal.invariant_of-self
invariant_of-self c =
    let old = c.args.self.now in
    let kept = written_keeps (written c) old.irreflexive old.from old.to in
    record {
      few = omega (arith, old.few, c.remove.ensures.len);
      once = subst Once (sym c.remove.ensures.items) (once_removed old.table.marks.items c.in-Some.k (there c).0 old.once);
      irreflexive = kept.irreflexive;
      from = kept.from;
      to = kept.to;
    }

pub returns : goal.returns
returns c = strike_taken (written (goal.at.returns c).After-remove) (there (goal.at.returns c).After-remove).2 (omega (arith, c.remove.ensures.len))
