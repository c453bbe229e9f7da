use Rattle.std.proofs.Common.{◌≡◌, ◌<◌, true, false, length, set, sym, ap, ◌∙◌, refl, ⊎_elim, arith, get_or-set_same, length-set}
use Rattle.std.proofs.lemmas.List.{get_or_read}
use Rattle.model.specs.Sets.{has}
use Rattle.model.proofs.Digits.{has_zero}
use Rattle.scale.proofs.Order.{clash}
use Rattle.grading.specs.Problems.{at}
use Rattle.grading.specs.Relaxing.{by_value}
use Rattle.grading.proofs.Lowering.{lowered_both, lowered_at, rest_less, below_less}
use Rattle.grading.proofs.relax.lower.Goals as goal

pub loop-u-preserved-then-less : goal.loop-u-preserved-then-less
loop-u-preserved-then-less g c =
    let s = g.V.Scale in
    let laws = g.met.V.Scale.lawful in
    let u = c.in-Some.u in
    let to = c.loop-u.to in
    let value = c.args.value in
    let by = by_value c.args.set value c.args.v in
    let taken = c.in-Some.ensures in
    let within : u < length to = omega (arith, taken.lowest.low, c.requires, c.loop-u.auto.to) in
    let here : c.index-to-u.result ≡ at s to u = get_or_read to u c.index-to-u.result within c.index-to-u.is s.nothing in
    let less : s.less value (at s to u) ≡ true = ap (s.less value) (sym here ∙ c.index-to-u.is) ∙ sym c.if-less.ensures in
    let one = lowered_at s laws by to c.loop-u.next u c.args.v value within (omega (arith, taken.lowest.low, c.loop-u.invariant.long)) less (c.loop-u.invariant.inside u taken.lowest.here, refl, refl) in
    record {
      long = simp length-set c.loop-u.invariant.long;
      lowered = lowered_both s laws by by by c.args.to.now to (set to u value) c.args.next.now c.loop-u.next (set c.loop-u.next u c.args.v) c.loop-u.invariant.lowered one (λ w n z b. b) (λ w n z b. b);
      below = below_less s laws c.args.set c.loop-u.rest c.take_lowest.new.set value u taken to (set to u value) (ap (s.less value) (get_or-set_same to u value s.nothing within) ∙ laws.irrefl value) one.at_most c.loop-u.invariant.below;
      inside = rest_less s laws c.args.set c.loop-u.rest c.take_lowest.new.set value u taken c.loop-u.invariant.inside;
    }

pub loop-u-preserved : goal.loop-u-preserved
loop-u-preserved g c =
    let s = g.V.Scale in
    let laws = g.met.V.Scale.lawful in
    let u = c.in-Some.u in
    let to = c.loop-u.to in
    let value = c.args.value in
    let taken = c.in-Some.ensures in
    let within : u < length to = omega (arith, taken.lowest.low, c.requires, c.loop-u.auto.to) in
    let here : c.index-to-u.result ≡ at s to u = get_or_read to u c.index-to-u.result within c.index-to-u.is s.nothing in
    record {
      long = c.loop-u.invariant.long;
      lowered = c.loop-u.invariant.lowered;
      below = below_less s laws c.args.set c.loop-u.rest c.take_lowest.new.set value u taken to to (ap (s.less value) (sym here ∙ c.index-to-u.is) ∙ sym c.if-less.ensures) (λ w l. laws.irrefl (at s to w)) c.loop-u.invariant.below;
      inside = rest_less s laws c.args.set c.loop-u.rest c.take_lowest.new.set value u taken c.loop-u.invariant.inside;
    }

pub returns-clause-below : goal.returns-clause-below
returns-clause-below g c u l is = ⊎_elim
    (λ (r : has c.loop-u.rest u ≡ true). absurd (clash (has c.loop-u.rest u) r (ap (λ n. has n u) c.in_default.ensures.0 ∙ has_zero u)))
    (λ (b : g.V.Scale.less c.args.value (at g.V.Scale c.loop-u.to u) ≡ false). b)
    (c.loop-u.invariant.below u is)
