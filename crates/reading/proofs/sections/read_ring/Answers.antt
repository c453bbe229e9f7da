use Rattle.std.proofs.Common.{◌≡◌, ℕ, List, [], ◌∷◌, ◌++◌, ◌-◌, ◌+◌, length, sym, ap, ◌∙◌, arith}
use Rattle.std.proofs.lemmas.Result.{err_from_is_err_and}
use Rattle.form.specs.Reading.{byte, number, numbers, any}
use Rattle.form.proofs.Steps.{then_is}
use Rattle.model.specs.Refusals.{number_of}
use Rattle.reading.specs.Claims.{IsRing}
use Rattle.reading.proofs.Progress.{begun, more, stopped, all}
use Rattle.reading.proofs.sections.read_ring.Goals as goal

pub loop-init : goal.loop-init
loop-init c =
    let from = then_is (byte c.args.reader.now.rest.now) (λ n r. numbers n r) c.in_ok-end.end c.byte.new.self.rest.now c.in_ok-end.ensures in
    (ap length c.new-ring.ensures, begun {S = ℕ} (λ _. number) any c.in_ok-end.end (c.in_ok-end.end - 0) (omega arith) from (sym c.new-ring.ensures))

pub loop-preserved : goal.loop-preserved
loop-preserved c = (
  omega (arith, c.push.ensures.len),
  more {S = ℕ} (λ _. number) any (c.in_ok-end.end - (c.loop.counter + 1)) c.in_ok-number.field-0 c.number.new.self.rest.now (λ ys. ys ≡ c.push.new.self.items)
      (omega arith) c.in_ok-number.ensures (λ ys e. ap (λ (xs : List ℕ). xs ++ c.in_ok-number.field-0 ∷ []) e ∙ sym c.push.ensures.items) c.loop.invariant.1,
)

pub returns-in_err-number : goal.returns-in_err-number
returns-in_err-number c =
    let p = err_from_is_err_and c.from_residual-in_err-number.result c.from_residual-in_err-number.ensures.1 in
    rw (p.1, p.2) (stopped {S = ℕ} (λ _. number) any (c.in_ok-end.end - (c.loop.counter + 1)) (number_of c.in_err-number.field-0.0) (omega arith) c.in_err-number.ensures c.loop.invariant.1)

pub returns : goal.returns
returns c = all {S = ℕ} (λ _. number) any (λ ys. IsRing ys c.loop.ring) (omega arith) (λ ys e. e) c.loop.invariant.1
