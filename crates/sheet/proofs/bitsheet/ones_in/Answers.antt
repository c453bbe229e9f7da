use Rattle.std.proofs.Common.{◌≡◌, ℕ, ◌^◌, ◌<◌, length, get_or, ◌∙◌, rules}
use lib.Count.{ones}
use Rattle.std.specs.List.{sum_by}
use Rattle.std.proofs.iter.Serving.{serving}
use Rattle.sheet.proofs.Tables.{in_places, ones_fit, ones_pairs}
use Rattle.sheet.proofs.bitsheet.ones_in.Goals as goal

pub sum-requires-clause-fits : goal.sum-requires-clause-fits
sum-requires-clause-fits c =
    let rows = c.args.rows.now in
    let long : length c.args.rows.now ≡ 64 = search rules in
    let fit : (u : ℕ) → get_or c.args.rows.now u 0 < 2 ^ 64 = search rules in
    let small : sum_by ones c.args.rows.now < 2 ^ 16 = ones_fit rows long fit in
    grind serving

pub returns : goal.returns
returns c =
    let rows = c.args.rows.now in
    let long : length c.args.rows.now ≡ 64 = search rules in
    let fit : (u : ℕ) → get_or c.args.rows.now u 0 < 2 ^ 64 = search rules in
    let counted : c.sum.result ≡ sum_by ones c.args.rows.now = search rules in
    record { ones = counted ∙ in_places rows long fit; pairs = counted ∙ ones_pairs rows long fit }
