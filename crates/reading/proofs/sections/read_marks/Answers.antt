use Rattle.std.proofs.Common.{slice_set, ◌-◌, ◌+◌, refl, arith, length-set, ◌∙◌}
use Rattle.std.proofs.lemmas.Result.{err_from_is_err_and}
use Rattle.model.specs.Refusals.{number_of}
use Rattle.model.specs.Sets.{has}
use Rattle.model.proofs.Digits.{has_bound}
use Rattle.form.specs.Reading.{two_bytes, rising_pairs, pair_from, later}
use Rattle.form.proofs.Steps.{then_is}
use Rattle.reading.specs.Claims.{AreRows}
use Rattle.reading.proofs.Progress.{begun, more, stopped, all}
use Rattle.reading.proofs.Rows.{fitting, rows_none, rows_with}
use Rattle.reading.proofs.sections.read_marks.Goals as goal

pub loop-init : goal.loop-init
loop-init c =
    let from = then_is (two_bytes c.args.reader.now.rest.now) (λ n r. rising_pairs (has c.args.records) n r) c.in_ok-end.end c.two_bytes.new.self.rest.now c.in_ok-end.ensures in
    (refl, begun (pair_from (has c.args.records)) later c.in_ok-end.end (c.in_ok-end.end - 0) (omega arith) from (rows_none c.args.records))

pub loop-preserved : goal.loop-preserved
loop-preserved c =
    let u = c.in_ok-u.u in
    let v = c.in_ok-u.v in
    let two = fitting c.args.records c.loop.low.0 c.loop.low.1 u v c.in_ok-u.ensures.fits in
    let from = has_bound c.args.records u two.from in
    let to = has_bound c.args.records v two.to in (
      length-set c.loop.rows u c.with_bit.result ∙ c.loop.invariant.0,
      more (pair_from (has c.args.records)) later (c.in_ok-end.end - (c.loop.counter + 1)) (u, v) c.pair_from.new.self.rest.now
          (λ ms. AreRows c.args.records ms (slice_set c.loop.rows u c.with_bit.result)) (omega arith) c.in_ok-u.ensures.gives
          (λ ys rows. rows_with c.args.records u v c.with_bit.result ys c.loop.rows two (omega (arith, c.loop.invariant.0)) (c.with_bit.ensures.below to) rows) c.loop.invariant.1,
    )

pub returns-in_err-u : goal.returns-in_err-u
returns-in_err-u c =
    let p = err_from_is_err_and c.from_residual-in_err-u.result c.from_residual-in_err-u.ensures.1 in
    rw (p.1, p.2) (stopped (pair_from (has c.args.records)) later (c.in_ok-end.end - (c.loop.counter + 1))
    (number_of c.in_err-u.field-0.0) (omega arith) c.in_err-u.ensures.gives c.loop.invariant.1)

pub returns : goal.returns
returns c = all (pair_from (has c.args.records)) later (λ ms. AreRows c.args.records ms c.loop.rows) (omega arith) (λ ys rows. rows) c.loop.invariant.1
