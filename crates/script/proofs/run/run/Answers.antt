use Rattle.std.proofs.Common.{ℕ, rules, vec_items, List, ◌++◌, codes, ap, ◌∙◌}
use Rattle.std.proofs.lemmas.Result.{IfOk-weaker}
use Rattle.script.specs.Judged.{Judged, opening, wrong}
use Rattle.script.proofs.Digits.{seventeen}
use Rattle.script.proofs.run.run.Goals as goal

pub returns-in-Some : goal.returns-in-Some
returns-in-Some c =
    IfOk-weaker c.open.result _ (λ v. Judged c.args.script.now (vec_items v))
    (λ v opened. opening c.in-Some.make c.in-Some.rest.now (search rules) opened) c.open.ensures

pub returns-in-None : goal.returns-in-None
returns-in-None c =
    IfOk-weaker c.begun.result _ (λ v. Judged c.args.script.now (vec_items v))
    (λ v is. wrong (search rules) (search rules) (is ∙ ap (λ (xs : List ℕ). codes "no " ++ (xs ++ codes "\n")) seventeen)) c.begun.ensures
