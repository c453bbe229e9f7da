use Rattle.std.proofs.Common.{◌≡◌, Bool, sym, ap, ◌∙◌, arith}
use Rattle.sheet.specs.States.{is_standing}
use Rattle.sheet.specs.Views.{view_of}
use Rattle.form.specs.Sections.{one_if, records_below}
use Rattle.release.proofs.Adding.{adds_none, adds_as, adds_more, pushed}
use Rattle.form.proofs.Listing.{records_more}
use Rattle.release.proofs.sections.put_records.Goals as goal
use Rattle.release.proofs.sections.put_records.Goals.{then-stands, else-stands}

pub loop-u-init : goal.loop-u-init
unfolding records_below
loop-u-init g c = (adds_none c.args.draft.now, omega arith)

pub loop-u-preserved : goal.loop-u-preserved
loop-u-preserved g c =
    let w = view_of g.S.Sheet c.args.sheet.now in
    let u = c.loop-u.u in
    let so_far = c.loop-u.invariant in
    let stands : c.stands.result ≡ w.stands u = c.stands.ensures ∙ ap is_standing c.state.ensures in
    elim c.if-stands.branch [
      | then-stands b ↦ rw b.draft-is (
        adds_more (records_below w) u (records_more w u) so_far.0 (adds_as (one_if (w.stands u) u) (ap (λ (x : Bool). one_if x u) (sym b.if-stands.true ∙ stands)) (pushed b.push.ensures.items b.push.ensures.len)),
        omega (arith, so_far.1, b.push.ensures.len),
      )
      | else-stands b ↦ rw b.draft-is (
        adds_more (records_below w) u (records_more w u) so_far.0 (adds_as (one_if (w.stands u) u) (ap (λ (x : Bool). one_if x u) (sym b.if-stands.false ∙ stands)) (adds_none c.loop-u.draft)),
        omega (arith, so_far.1),
      )
    ]
