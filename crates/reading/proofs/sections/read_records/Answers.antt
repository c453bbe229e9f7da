use Rattle.std.proofs.Common.{◌-◌, ◌+◌, arith}
use Rattle.std.proofs.lemmas.Result.{err_from_is_err_and}
use Rattle.form.specs.Reading.{byte, number_from, above, rising}
use Rattle.form.proofs.Steps.{then_is}
use Rattle.model.specs.Refusals.{number_of}
use Rattle.reading.specs.Claims.{IsSet}
use Rattle.reading.proofs.Progress.{begun, more, stopped, all}
use Rattle.reading.proofs.Sets.{Risen, risen_none, risen_more, risen_all}
use Rattle.reading.proofs.sections.read_records.Goals as goal

pub loop-init : goal.loop-init
loop-init c =
    let from = then_is (byte c.args.reader.now.rest.now) (λ n r. rising n r) c.in_ok-end.end c.byte.new.self.rest.now c.in_ok-end.ensures in
    (omega arith, begun number_from above c.in_ok-end.end (c.in_ok-end.end - 0) (omega arith) from risen_none)

pub loop-preserved : goal.loop-preserved
loop-preserved c =
    let u = c.in_ok-u.u in
    let told = c.in_ok-u.ensures in (
      omega (arith, told.between.1),
      more number_from above (c.in_ok-end.end - (c.loop.counter + 1)) u c.number_from.new.self.rest.now (Risen c.with_bit-records.result (u + 1))
          (omega arith) told.gives
          (λ ys risen. risen_more c.loop.records c.loop.low u c.with_bit-records.result ys told.between.0 (c.with_bit-records.ensures.below (omega (arith, told.between.1))) risen)
          c.loop.invariant.1,
    )

pub returns-in_err-u : goal.returns-in_err-u
returns-in_err-u c =
    let p = err_from_is_err_and c.from_residual-in_err-u.result c.from_residual-in_err-u.ensures.1 in
    rw (p.1, p.2) (stopped number_from above (c.in_ok-end.end - (c.loop.counter + 1)) (number_of c.in_err-u.field-0.0) (omega arith) c.in_err-u.ensures.gives c.loop.invariant.1)

pub returns : goal.returns
returns c = all number_from above (λ ys. IsSet ys c.loop.records) (omega arith) (λ ys risen. risen_all c.loop.records c.loop.low c.loop.invariant.0 ys risen) c.loop.invariant.1
