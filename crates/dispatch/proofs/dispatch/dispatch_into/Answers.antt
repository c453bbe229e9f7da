use Rattle.std.proofs.Common.{refl, rules, subst}
use Rattle.std.proofs.lemmas.Result.{err_from_is_err_and}
use Rattle.sheet.specs.Meanings.{Meaning}
use Rattle.grading.specs.Outcomes.{brought}
use Rattle.dispatch.specs.Dispatches.{WrittenAfter, named, unnamed}
use Rattle.dispatch.proofs.dispatch.dispatch_into.Goals as goal

pub returns-in_err-make-clause-written : goal.returns-in_err-make-clause-written
returns-in_err-make-clause-written c =
    let p = err_from_is_err_and c.from_residual.result c.from_residual.ensures.1 in
    rw (p.1, p.2) (unnamed c.in_err-make.field-0.0 (search rules) (search rules) refl refl)

pub returns-in-Bits-clause-written : goal.returns-in-Bits-clause-written
returns-in-Bits-clause-written c =
    named c.in_ok-make.make c.in_ok-make.lines.now (search rules)
    (rw c.in-Bits.is (subst (λ (m : Meaning). WrittenAfter m c.in_ok-make.lines.now (brought c.args.memory.now) (brought c.after.new.memory) c.args.out.now c.after.new.out c.after.result) (search rules) c.after.ensures.written))

pub returns-in-List-clause-written : goal.returns-in-List-clause-written
returns-in-List-clause-written c =
    named c.in_ok-make.make c.in_ok-make.lines.now (search rules)
    (rw c.in-List.is (subst (λ (m : Meaning). WrittenAfter m c.in_ok-make.lines.now (brought c.args.memory.now) (brought c.after-in-List.new.memory) c.args.out.now c.after-in-List.new.out c.after-in-List.result) (search rules) c.after-in-List.ensures.written))
