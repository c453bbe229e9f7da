use Rattle.std.proofs.Common.{◌≡◌, Bool, true, false, ◌&&◌, sym, ap, ◌∙◌}
use Rattle.model.specs.Views.{View, two}
use Rattle.sheet.specs.Views.{view_of}
use Rattle.grading.proofs.Collecting.{both_two, mark_by}
use Rattle.grading.proofs.read.is_marked.Goals as goal

pub returns-then-both : goal.returns-then-both
returns-then-both g c =
    let w : View = view_of g.S.Sheet c.args.sheet.now in
    let t : two w c.args.u c.args.v ≡ true = sym (both_two w c.args.standing c.args.u c.args.v c.requires.2 c.requires.0 c.requires.1) ∙ sym c.if-both.ensures in
    c.ask_mark.ensures ∙ sym (mark_by w c.args.u c.args.v ∙ ap (λ (b : Bool). b && w.marked c.args.u c.args.v) t)

pub returns-else-both : goal.returns-else-both
returns-else-both g c =
    let w : View = view_of g.S.Sheet c.args.sheet.now in
    let t : two w c.args.u c.args.v ≡ false = sym (both_two w c.args.standing c.args.u c.args.v c.requires.2 c.requires.0 c.requires.1) ∙ sym c.if-both.ensures in
    c.if-both.false ∙ sym (mark_by w c.args.u c.args.v ∙ ap (λ (b : Bool). b && w.marked c.args.u c.args.v) t)
