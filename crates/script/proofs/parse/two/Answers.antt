use Rattle.std.proofs.Common.{ℕ, List, sym, subst, MatchOption}
use Rattle.script.specs.Numbers.{Field, NoField}
use Rattle.script.specs.Lines.{Fields, NoFields}
use Rattle.script.proofs.Fields.{read_both}
use Rattle.script.proofs.parse.two.Goals as goal

pub returns : goal.returns
returns c =
    let bs = c.args.bytes.now in
    let k = c.in_ok-last_space.field-0 in
    subst (λ o. MatchOption o (NoFields 2 bs) (λ p. Fields 2 bs p.0 p.1)) (sym c.zip.ensures)
    (read_both bs k c.one.result c.one-2.result c.in_ok-last_space.ensures
    (subst (λ (ds : List ℕ). MatchOption c.one.result (NoField ds) (Field ds)) c.split_at.ensures.front c.one.ensures)
    (subst (λ (ds : List ℕ). MatchOption c.one-2.result (NoField ds) (Field ds)) c.split_at.ensures.back c.one-2.ensures))
