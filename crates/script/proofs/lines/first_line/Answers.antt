use Rattle.std.proofs.Common.{◌≡◌, ℕ, eqb, List, length, MatchOption, subst, rules, tests}
use Rattle.std.proofs.lemmas.Fn.{always_returns_same}
use Rattle.script.specs.Cuts.{FirstLine}
use Rattle.script.proofs.FirstLine.{cut_line, told_as}
use Rattle.script.proofs.lines.first_line.Goals as goal

pub returns : goal.returns
returns c =
    let bs = c.split_inclusive.result.rest.now in
    subst (λ (xs : List ℕ). MatchOption c.next.result (length xs ≡ 0) (λ l. FirstLine xs l.now)) c.split_inclusive.ensures.rest
    (told_as c.next.result (length bs ≡ 0) (λ l. FirstLine bs l.now) (λ x. x.0)
    (λ l x. cut_line bs l.now c.next.new.self.rest.now x.1.0 x.2 x.0 x.1.1 (x.1.2 (λ (b : ℕ). eqb b 10) (always_returns_same _ _ _ (λ a r f' k. search (rules, tests)))).1)
    c.next.ensures.steps)
