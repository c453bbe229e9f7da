use Rattle.std.proofs.Common.{◌+◌, length, refl, ap, ◌∙◌, rules}
use Rattle.model.specs.Rings.{bit}
use Rattle.sheet.specs.Views.{view_of}
use Rattle.form.specs.Sections.{marks_from}
use Rattle.form.proofs.Listing.{marks_from_count}
use Rattle.release.proofs.count.count_marks_from.Goals as goal

pub returns-clause-counted : goal.returns-clause-counted
unfolding marks_from
returns-clause-counted g c =
    let w = view_of g.S.Sheet c.args.sheet.now in
    c.count.ensures.counted (λ n. length (marks_from w c.args.u n)) refl (λ v b l told. marks_from_count w c.args.u v ∙ ap (λ x. length (marks_from w c.args.u v) + bit x) (search rules))
