use Rattle.std.proofs.Common.{ℕ, Bool, List, sym, ap, ◌∙◌, arith}
use Rattle.std.specs.List.{flat_map}
use Rattle.form.specs.Laid.{of_pair}
use Rattle.form.specs.Sections.{one_if, marks_from}
use Rattle.form.proofs.Listing.{marks_from_more}
use Rattle.sheet.specs.Views.{view_of}
use Rattle.release.proofs.Adding.{adds_none, adds_as, adds_more, adds_then, pushed}
use Rattle.release.proofs.sections.put_marks_from.Goals as goal
use Rattle.release.proofs.sections.put_marks_from.Goals.{then-marked, else-marked}

pub loop-v-init : goal.loop-v-init
unfolding marks_from
loop-v-init g c = (adds_none c.args.draft.now, omega arith)

pub loop-v-preserved : goal.loop-v-preserved
loop-v-preserved g c =
    let w = view_of g.S.Sheet c.args.sheet.now in
    let u = c.args.u in
    let v = c.loop-v.v in
    let so_far = c.loop-v.invariant in
    let text : Bool → List ℕ = λ x. flat_map of_pair (one_if x (u, v)) in
    elim c.if-marked.branch [
      | then-marked b ↦ rw b.draft-is (
        adds_more (λ n. flat_map of_pair (marks_from w u n)) v (marks_from_more w u v) so_far.0
            (adds_as (text (w.marked u v)) (ap text (sym b.if-marked.true ∙ c.marked.ensures)) (adds_then (pushed b.push.ensures.items b.push.ensures.len) (pushed b.push-then-marked.ensures.items b.push-then-marked.ensures.len))),
        omega (arith, so_far.1, b.push.ensures.len, b.push-then-marked.ensures.len),
      )
      | else-marked b ↦ rw b.draft-is (
        adds_more (λ n. flat_map of_pair (marks_from w u n)) v (marks_from_more w u v) so_far.0 (adds_as (text (w.marked u v)) (ap text (sym b.if-marked.false ∙ c.marked.ensures)) (adds_none c.loop-v.draft)),
        omega (arith, so_far.1),
      )
    ]
