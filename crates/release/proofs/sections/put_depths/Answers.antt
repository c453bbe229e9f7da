use Rattle.std.proofs.Common.{◌≡◌, ℕ, ◌<◌, Bool, List, length, take, nat_abs, pos, sym, ap, ◌∙◌, subst, arith, length-take-le}
use Rattle.std.proofs.lemmas.List.{get_or-take}
use Rattle.scale.specs.Wholes.{of_whole}
use Rattle.std.specs.List.{flat_map}
use Rattle.sheet.specs.States.{is_standing}
use Rattle.sheet.specs.Views.{view_of}
use Rattle.form.specs.Laid.{of_two}
use Rattle.release.specs.Drafts.{Adds}
use Rattle.form.specs.Sections.{one_if, depths_below}
use Rattle.release.specs.Grades.{grade_number}
use Rattle.release.proofs.Adding.{adds_none, adds_as, adds_more}
use Rattle.form.proofs.Listing.{depths_more}
use Rattle.release.proofs.sections.put_depths.Goals as goal
use Rattle.release.proofs.sections.put_depths.Goals.{then-stands, else-stands}

pub loop-u-init : goal.loop-u-init
unfolding depths_below
loop-u-init g c = (adds_none c.args.draft.now, omega arith)

pub put_depth-requires-clause-low : goal.put_depth-requires-clause-low
put_depth-requires-clause-low g c =
    let grades = c.args.grades.now in
    let long : length (take 64 grades) ≡ 64 = length-take-le 64 grades c.requires.grades in
    let within : c.loop-u.u < 64 = omega arith in
    rw (get_or-take 64 grades c.loop-u.u (of_whole (pos 0)) within) (c.requires.low c.loop-u.u within (sym (c.stands.ensures ∙ ap is_standing c.state.ensures) ∙ c.if-stands.true))

pub loop-u-preserved : goal.loop-u-preserved
loop-u-preserved g c =
    let w = view_of g.S.Sheet c.args.sheet.now in
    let z = grade_number c.args.grades.now in
    let u = c.loop-u.u in
    let so_far = c.loop-u.invariant in
    let stands : c.stands.result ≡ w.stands u = c.stands.ensures ∙ ap is_standing c.state.ensures in
    let grades = c.args.grades.now in
    let long : length (take 64 grades) ≡ 64 = length-take-le 64 grades c.requires.grades in
    let within : u < 64 = omega arith in
    let text : Bool → List ℕ = λ x. flat_map of_two (one_if x (nat_abs (z u))) in
    elim c.if-stands.branch [
      | then-stands b ↦ rw b.draft-is (
        adds_more (λ n. flat_map of_two (depths_below w z n)) u (depths_more w z u) so_far.0 (adds_as (text (w.stands u)) (ap text (sym b.if-stands.true ∙ stands)) (rw (get_or-take 64 grades u (of_whole (pos 0)) within) at b.put_depth.ensures)),
        omega (arith, so_far.1, b.put_depth.ensures.long),
      )
      | else-stands b ↦ rw b.draft-is (
        adds_more (λ n. flat_map of_two (depths_below w z n)) u (depths_more w z u) so_far.0 (adds_as (text (w.stands u)) (ap text (sym b.if-stands.false ∙ stands)) (adds_none c.loop-u.draft)),
        omega (arith, so_far.1),
      )
    ]

pub returns : goal.returns
returns g c =
    let w = view_of g.S.Sheet c.args.sheet.now in
    let grades = c.args.grades.now in
    let long : length (take 64 grades) ≡ 64 = length-take-le 64 grades c.requires.grades in
    let e : c.loop-u.u ≡ 64 = omega arith in
    record {
      adds = subst (λ (n : ℕ). Adds c.args.draft.now (flat_map of_two (depths_below w (grade_number grades) n)) c.loop-u.draft) e c.loop-u.invariant.0;
      within = omega (arith, c.loop-u.invariant.1);
    }
