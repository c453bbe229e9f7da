-- From the outcome of a grading call to its answer. Assumes nothing.
use Rattle.std.proofs.Common.{ap, length, ◌≤◌, ◌⊎◌, length-take-le, ◌≡◌, ℕ, Bool, true, false, List, get_or, take, Ok, Err, MatchBool, Result, sym, refl, subst, inl, inr, arith}
use Rattle.arrayvec.specs.ArrayVec.{ArrayVec}
use Rattle.model.specs.declared.decline.Decline.{Decline}
use Rattle.model.specs.declared.decline.Decline.TheVariants.{TooLittleMemory, NumberTooHigh, SameRecord, RecordAbsent, RecordAside, AlreadyStands, AlreadyMarked, SheetFull, NotMarked, NotSetAside, OutsideLimits, Circle, Forbidden, MissingByte, BrokenForm, DoesNotHold, WrongLine}
use Rattle.model.specs.declared.thresholds.Thresholds.{Thresholds}
use Rattle.model.specs.Limits.{within_limits}
use Rattle.model.specs.Refusals.{number_of, ring_length}
use Rattle.model.specs.Views.{View}
use Rattle.grading.specs.Outcomes.{Memory, suffices, Declined, Given, Shown, Solved, Outcome}
use Rattle.archive.specs.declared.answer.Answer.{Answer}
use Rattle.archive.specs.declared.answer.Answer.TheVariants.{Forced}
use Rattle.archive.specs.declared.answer.Graded.{Graded}
use Rattle.archive.specs.Entries.{entries_below}
use Rattle.archive.specs.Told.{Refused, plain, forced, GradesTold, outside, given}
use Rattle.archive.specs.Told as told

-- the numbers 12 and 13 are those of Circle and Forbidden alone
pub plain_number : (d : Decline) → ((k : ℕ) → d ≡ Circle k → ⊥) → ((k : ℕ) → d ≡ Forbidden k → ⊥) → (number_of d ≡ 12 → ⊥) × (number_of d ≡ 13 → ⊥)
plain_number TooLittleMemory c f = (λ e. omega arith, λ e. omega arith)
plain_number NumberTooHigh c f = (λ e. omega arith, λ e. omega arith)
plain_number SameRecord c f = (λ e. omega arith, λ e. omega arith)
plain_number RecordAbsent c f = (λ e. omega arith, λ e. omega arith)
plain_number RecordAside c f = (λ e. omega arith, λ e. omega arith)
plain_number AlreadyStands c f = (λ e. omega arith, λ e. omega arith)
plain_number AlreadyMarked c f = (λ e. omega arith, λ e. omega arith)
plain_number SheetFull c f = (λ e. omega arith, λ e. omega arith)
plain_number NotMarked c f = (λ e. omega arith, λ e. omega arith)
plain_number NotSetAside c f = (λ e. omega arith, λ e. omega arith)
plain_number OutsideLimits c f = (λ e. omega arith, λ e. omega arith)
plain_number (Circle k) c f = absurd (c k refl)
plain_number (Forbidden k) c f = absurd (f k refl)
plain_number MissingByte c f = (λ e. omega arith, λ e. omega arith)
plain_number BrokenForm c f = (λ e. omega arith, λ e. omega arith)
plain_number DoesNotHold c f = (λ e. omega arith, λ e. omega arith)
plain_number WrongLine c f = (λ e. omega arith, λ e. omega arith)

-- a refusal that shows a ring, and that ring
pub with_ring : (d : Decline) (k : ℕ) (ring : List ℕ) (v : ArrayVec ℕ) → (d ≡ Circle k) ⊎ (d ≡ Forbidden k) → ring_length d ≤ length ring → v.items ≡ take k ring
    → Refused d (take (ring_length d) ring) (Forced d v)
with_ring d k ring v (inl is) within items =
    let long : ring_length d ≡ k = ap ring_length is in
    forced v (inl (ap number_of is)) (rw long items) (omega (arith, ap length items, length-take-le k ring (omega arith)))
with_ring d k ring v (inr is) within items =
    let long : ring_length d ≡ k = ap ring_length is in
    forced v (inr (ap number_of is)) (rw long items) (omega (arith, ap length items, length-take-le k ring (omega arith)))

-- the number 11 comes with no ring
ringless : (d : Decline) → number_of d ≡ 11 → ring_length d ≤ 64
ringless TooLittleMemory e = omega arith
ringless NumberTooHigh e = omega arith
ringless SameRecord e = omega arith
ringless RecordAbsent e = omega arith
ringless RecordAside e = omega arith
ringless AlreadyStands e = omega arith
ringless AlreadyMarked e = omega arith
ringless SheetFull e = omega arith
ringless NotMarked e = omega arith
ringless NotSetAside e = omega arith
ringless OutsideLimits e = omega arith
ringless MissingByte e = omega arith
ringless BrokenForm e = omega arith
ringless DoesNotHold e = omega arith
ringless WrongLine e = omega arith
ringless (Circle k) e = absurd (omega (arith, e))
ringless (Forbidden k) e = absurd (omega (arith, e))

module _ {V : Type 0} (w : View) (t : Thresholds) (asked : (ℕ → V) → Type 0) (none : V) (forbids : List ℕ → Type 0) (before after : Memory V) (room : suffices before ≡ true) where
  -- with enough memory: the limits first, and then the grades or the ring
  inside : (r : Result (Unit {0}) Decline) → Outcome w t asked none forbids before after r → MatchBool (within_limits t) (Solved w asked none forbids before after r) (Declined 11 before after r)
  inside r o = subst (λ (b : Bool). MatchBool b (MatchBool (within_limits t) (Solved w asked none forbids before after r) (Declined 11 before after r)) (Declined 1 before after r)) room o

  -- a grading that is taken leaves the grades asked for, at thresholds within the limits
  pub taken : Outcome w t asked none forbids before after (Ok tt) → (within_limits t ≡ true) × Given w asked none before after
  taken o = go (within_limits t) refl (inside (Ok tt) o)
    where
      go : (b : Bool) → within_limits t ≡ b → MatchBool b (Given w asked none before after) (Declined 11 before after (Ok tt)) → (within_limits t ≡ true) × Given w asked none before after
      go true l s = (l, s)
      go false l s = absurd (omega (arith, s.answer))

  -- in numbers, as answers have them
  module _ {G : Type 0} (shown : V → G) (told_asked : (ℕ → G) → Type 0) (give : ArrayVec (Graded G) → Answer) where
    pub told_given : ((g : ℕ → V) → asked g → told_asked (λ u. shown (g u))) → (v : ArrayVec (Graded G)) → Outcome w t asked none forbids before after (Ok tt)
        → v.items ≡ entries_below w (λ u. shown (get_or after.grades u none)) 64 → GradesTold w t told_asked forbids give (give v)
    told_given same v o e =
        let all = taken o in
        given v (λ u. shown (get_or after.grades u none)) all.0 (same (λ u. get_or after.grades u none) all.1.grades) e

    pub told_refused : (d : Decline) (x : Answer) → Outcome w t asked none forbids before after (Err d) → Refused d (take (ring_length d) after.ring) x → GradesTold w t told_asked forbids give x
    told_refused d x o = go (within_limits t) refl (inside (Err d) o) x
      where
        go : (b : Bool) → within_limits t ≡ b → MatchBool b ((number_of d ≡ 13) × Shown forbids (ring_length d) before after) (Declined 11 before after (Err d)) → (y : Answer) → Refused d (take (ring_length d) after.ring) y → GradesTold w t told_asked forbids give y
        go true l s y (plain no-circle no-ring) = absurd (no-ring s.0)
        go true l s y (forced v is e long) = told.forced d v s.0 long l (subst forbids (sym e) s.1.ring)
        go false l s y (plain no-circle no-ring) = outside d s.answer l
        go false l s y (forced v (inl is) e long) = absurd (omega (arith, s.answer))
        go false l s y (forced v (inr is) e long) = absurd (omega (arith, s.answer))

  pub refusal_short : (d : Decline) → Outcome w t asked none forbids before after (Err d) → ring_length d ≤ 64
  refusal_short d o = go (within_limits t) (inside (Err d) o)
    where
      go : (b : Bool) → MatchBool b ((number_of d ≡ 13) × Shown forbids (ring_length d) before after) (Declined 11 before after (Err d)) → ring_length d ≤ 64
      go true s = s.1.short
      go false s = ringless d s.answer
