use Rattle.std.proofs.Common.{◌+◌, length, refl, ap, ◌∙◌, rules}
use Rattle.model.specs.Rings.{bit}
use Rattle.sheet.specs.Views.{view_of}
use Rattle.form.specs.Sections.{records_below}
use Rattle.form.proofs.Listing.{records_count}
use Rattle.release.proofs.count.count_records.Goals as goal

pub returns : goal.returns
unfolding records_below
returns g c =
    let w = view_of g.S.Sheet c.args.sheet.now in
    c.count.ensures.counted (λ n. length (records_below w n)) refl (λ u b l told. records_count w u ∙ ap (λ x. length (records_below w u) + bit x) (search rules))
