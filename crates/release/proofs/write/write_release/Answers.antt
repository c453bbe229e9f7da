use Rattle.std.proofs.Common.{ℕ, List, subst}
use Rattle.std.proofs.lemmas.Result.{err_from_is_err_and}
use Rattle.sheet.specs.Views.{view_of}
use Rattle.grading.specs.Outcomes.{brought}
use Rattle.release.specs.Writing.{Puts}
use Rattle.release.proofs.Releasing.{low, released, declined}
use Rattle.release.proofs.write.write_release.Goals as goal

pub returns-in_err-least-clause-released : goal.returns-in_err-least-clause-released
returns-in_err-least-clause-released g c =
    let p = err_from_is_err_and c.from_residual.result c.from_residual.ensures.1 in
    rw (p.1, p.2) (declined (view_of g.S.Sheet c.args.sheet.now) (brought c.args.memory.now) (brought c.least_ratio.new.memory) c.in_err-least.field-0.0 c.args.out.now c.in_err-least.ensures.found)

pub draft_of-requires-clause-low : goal.draft_of-requires-clause-low
draft_of-requires-clause-low g c =
    low (view_of g.S.Sheet c.args.sheet.now) (brought c.args.memory.now) (brought c.least_ratio.new.memory) c.in_ok-least.least c.in_ok-least.ensures.found

pub returns-clause-released : goal.returns-clause-released
returns-clause-released g c =
    released (view_of g.S.Sheet c.args.sheet.now) (brought c.args.memory.now) (brought c.least_ratio.new.memory) c.in_ok-least.least c.in_ok-least.ensures.found
    (subst (λ (xs : List ℕ). Puts xs c.args.out.now c.put_out.new.out c.put_out.result) c.draft_of.ensures c.put_out.ensures)
