use Rattle.std.proofs.Common.{◌≡◌, ℕ, ◌<◌, true, false, length, get_or, ap, ◌∙◌, subst, arith}
use Rattle.std.proofs.lemmas.List.{get_or_read}
use Rattle.model.specs.Sets.{has}
use Rattle.model.proofs.Digits.{has_all}
use Rattle.scale.proofs.Order.{clash}
use Rattle.grading.specs.Problems.{at}
use Rattle.grading.specs.Relaxing.{Lowered, by_value, by_steps}
use Rattle.grading.proofs.Lowering.{lowered_none, lowered_both, by_row, below_more, passed_more}
use Rattle.grading.proofs.relax.relax_kind.Goals as goal

pub loop-v-init : goal.loop-v-init
loop-v-init g c = record {
  lowered = lowered_none g.V.Scale g.met.V.Scale.lawful (by_steps g.V.Scale c.args.cost c.args.rows.now c.args.from.now) c.args.to.now c.args.next.now;
  below = λ i u l h is. absurd (omega arith);
  passed = λ i u n l h gone. absurd (clash (has 18446744073709551615 u) (has_all u h) gone);
}

pub loop-v-preserved : goal.loop-v-preserved
loop-v-preserved g c =
    let s = g.V.Scale in
    let laws = g.met.V.Scale.lawful in
    let ready = c.requires.0 in
    let rising = c.requires.1 in
    let rows = c.args.rows.now in
    let from = c.args.from.now in
    let order = c.args.order.now in
    let n = c.loop-v.v-index in
    let v = get_or order n 0 in
    let cost = c.args.cost in
    let to = c.loop-v.to in
    let by = by_steps s cost rows from in
    let low : v < 64 = rising.low n c.loop-v-test.true in
    let within : v < length from = omega (arith, ready.long) in
    let here : c.index-from-v.result ≡ at s from v = get_or_read from v c.index-from-v.result within c.index-from-v.is s.nothing in
    let sum : c.sum.result ≡ s.plus cost (at s from v) = c.sum.ensures ∙ ap (s.sum cost) here ∙ laws.exact cost (at s from v) 1 64 ready.cost (ready.extents v low) (omega arith) in
    let lowered : Lowered s (by_value c.common.result (s.plus cost (at s from v)) v) to c.lower.new.to c.loop-v.next c.lower.new.next
    = subst (λ z. Lowered s (by_value c.common.result z v) to c.lower.new.to c.loop-v.next c.lower.new.next) sum c.lower.ensures.lowered in
    let below : (u : ℕ) → u < 64 → has c.common.result u ≡ true → s.less (s.plus cost (at s from v)) (at s c.lower.new.to u) ≡ false
    = λ u h is. subst (λ z. s.less z (at s c.lower.new.to u) ≡ false) sum (c.lower.ensures.below u h is) in
    record {
      lowered = lowered_both s laws by (by_value c.common.result (s.plus cost (at s from v)) v) by c.args.to.now to c.lower.new.to c.args.next.now c.loop-v.next c.lower.new.next c.loop-v.invariant.lowered lowered
          (λ u m z b. b) (by_row s laws cost rows from c.common.result c.loop-v.left v low c.common.ensures);
      below = below_more s laws cost rows from order rising c.loop-v.left c.without-left.result c.common.result n c.loop-v-test.true to c.lower.new.to lowered.at_most c.common.ensures c.without-left.ensures below c.loop-v.invariant.passed c.loop-v.invariant.below;
      passed = passed_more s laws cost rows from order rising c.loop-v.left c.without-left.result c.common.result n c.loop-v-test.true to c.lower.new.to lowered.at_most c.common.ensures c.without-left.ensures below c.loop-v.invariant.passed;
    }
