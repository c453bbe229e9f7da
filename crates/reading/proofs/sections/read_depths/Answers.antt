use Rattle.std.proofs.Common.{◌≡◌, ℕ, slice_set, ◌+◌, ◌^◌, ◌<◌, refl, sym, ap, subst, arith, length-set, ◌∙◌}
use Rattle.std.proofs.lemmas.Result.{err_from_is_err_and}
use Rattle.model.specs.Refusals.{number_of}
use lib.Count.{ones}
use Rattle.reading.specs.Giving.{byte_of}
use Rattle.form.specs.Reading.{two_bytes, any, words, depths_part}
use Rattle.form.proofs.Steps.{then_is, then_stop}
use Rattle.reading.specs.Claims.{ArePlaces}
use Rattle.reading.proofs.Progress.{begun, more, kept, stopped, all}
use Rattle.reading.proofs.Sets.{count_is}
use Rattle.reading.proofs.Places.{Placed, placed_none, placed_with, placed_without, placed_all, left_from, left_less, left_same, left_all, left_none, depths_by}
use Rattle.reading.proofs.sections.read_depths.Goals as goal
use Rattle.reading.proofs.sections.read_depths.Goals.{then-has_bit+in_ok-depths, else-has_bit}

pub returns-in_err-byte_of : goal.returns-in_err-byte_of
returns-in_err-byte_of c =
    let p = err_from_is_err_and c.from_residual.result c.from_residual.ensures.1 in
    let bs = c.args.reader.now.rest.now in
    let count = count_is c.args.records (omega (arith, c.ranges.records.fits)) in
    rw (p.1, p.2) (
    ap (λ k. depths_part k bs) (sym count)
    ∙ depths_by (ones c.args.records) bs
    ∙ then_stop (byte_of (ones c.args.records) bs) (λ n r. words n r) (number_of c.in_err-byte_of.field-0.0) c.in_err-byte_of.ensures.gives)

pub loop-u-init : goal.loop-u-init
loop-u-init c =
    let bs = c.args.reader.now.rest.now in
    let small : c.args.records < 2 ^ 64 = omega (arith, c.ranges.records.fits) in
    let from =
    ap (λ k. depths_part k bs) (sym (count_is c.args.records small)) ∙ depths_by (ones c.args.records) bs
    ∙ then_is (byte_of (ones c.args.records) bs) (λ n r. words n r) c.in_ok-byte_of.field-0 c.byte_of.new.self.rest.now c.in_ok-byte_of.ensures.gives in (
      refl,
      begun {S = ℕ} (λ _. two_bytes) any c.in_ok-byte_of.field-0 (left_from c.args.records 0)
          (left_all c.args.records c.in_ok-byte_of.field-0 small c.in_ok-byte_of.ensures.same) from (placed_none c.args.records),
    )

pub loop-u-preserved : goal.loop-u-preserved
loop-u-preserved c =
    let set = c.args.records in
    elim c.if-has_bit.branch [
      | then-has_bit+in_ok-depths w ↦ rw (w.reader-is, w.depths-is) (
        length-set c.loop-u.depths c.loop-u.u w.in_ok-depths.field-0 ∙ c.loop-u.invariant.0,
        more {S = ℕ} (λ _. two_bytes) any (left_from set (c.loop-u.u + 1)) w.in_ok-depths.field-0 w.two_bytes.new.self.rest.now
            (Placed set (c.loop-u.u + 1) (slice_set c.loop-u.depths c.loop-u.u w.in_ok-depths.field-0))
            (left_less set c.loop-u.u (omega arith) (sym w.if-has_bit.ensures)) w.in_ok-depths.ensures
            (λ ds. placed_with set c.loop-u.u w.in_ok-depths.field-0 c.loop-u.depths ds (sym w.if-has_bit.ensures) (omega (arith, c.loop-u.invariant.0))) c.loop-u.invariant.1,
      )
      | else-has_bit w ↦ rw (w.reader-is, w.depths-is) (
        c.loop-u.invariant.0,
        kept {S = ℕ} (λ _. two_bytes) any (left_from set (c.loop-u.u + 1)) (Placed set (c.loop-u.u + 1) c.loop-u.depths)
            (left_same set c.loop-u.u (sym w.if-has_bit.ensures)) (λ ds. placed_without set c.loop-u.u c.loop-u.depths ds (sym w.if-has_bit.ensures)) c.loop-u.invariant.1,
      )
    ]

pub returns-in_err-depths : goal.returns-in_err-depths
returns-in_err-depths c =
    let p = err_from_is_err_and c.from_residual-in_err-depths.result c.from_residual-in_err-depths.ensures.1 in
    rw (p.1, p.2) (stopped {S = ℕ} (λ _. two_bytes) any (left_from c.args.records (c.loop-u.u + 1)) (number_of c.in_err-depths.field-0.0)
    (left_less c.args.records c.loop-u.u (omega arith) (sym c.if-has_bit.ensures)) c.in_err-depths.ensures c.loop-u.invariant.1)

pub returns : goal.returns
returns c =
    let end : c.loop-u.u ≡ 64 = omega arith in
    all {S = ℕ} (λ _. two_bytes) any (λ ds. ArePlaces c.args.records ds c.loop-u.depths) (ap (left_from c.args.records) end ∙ left_none c.args.records)
    (λ ds placed. placed_all c.args.records c.loop-u.depths ds (subst (λ (n : ℕ). Placed c.args.records n c.loop-u.depths ds) end placed)) c.loop-u.invariant.1
