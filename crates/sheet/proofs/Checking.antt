-- What it tells that a pair passes the checks or fails one, and what a call makes of it. Assumes nothing.
use Rattle.std.proofs.Common.{◌≡◌, ℕ, zero, suc, ◌<◌, Bool, true, false, cond, ◌||◌, eqb, ltb, IsErrAnd, Result, sym, refl, ap, ◌∙◌, arith}
use Rattle.std.proofs.lemmas.Result.{err_from_is_err_and}
use Rattle.std.proofs.lemmas.Bool.{or_parts, ltb-false}
use Rattle.model.specs.declared.decline.Decline.{Decline}
use Rattle.model.specs.declared.decline.Decline.TheVariants.{TooLittleMemory, NumberTooHigh, SameRecord, RecordAbsent, RecordAside, AlreadyStands, AlreadyMarked, SheetFull, NotMarked, NotSetAside, OutsideLimits, Circle, Forbidden, MissingByte, BrokenForm, DoesNotHold, WrongLine}
use Rattle.model.specs.Refusals.{number_of, answer_number}
use Rattle.sheet.specs.declared.state.State.{State}
use Rattle.sheet.specs.declared.state.State.TheVariants.{Absent, Standing, Aside}
use Rattle.sheet.specs.States.{is_absent, is_aside}
use Rattle.sheet.specs.Checks.{pair_check}
use Rattle.sheet.specs.Calls.{after_check, Called}

-- no refusal has the number of a call that is taken
pub number_some : (d : Decline) → number_of d ≡ 0 → ⊥
number_some TooLittleMemory e = omega arith
number_some NumberTooHigh e = omega arith
number_some SameRecord e = omega arith
number_some RecordAbsent e = omega arith
number_some RecordAside e = omega arith
number_some AlreadyStands e = omega arith
number_some AlreadyMarked e = omega arith
number_some SheetFull e = omega arith
number_some NotMarked e = omega arith
number_some NotSetAside e = omega arith
number_some OutsideLimits e = omega arith
number_some (Circle k) e = omega arith
number_some (Forbidden k) e = omega arith
number_some MissingByte e = omega arith
number_some BrokenForm e = omega arith
number_some DoesNotHold e = omega arith
number_some WrongLine e = omega arith

-- a call that is declined changes nothing
pub declined : {A : Type 0} (n : ℕ) (changed before : A) → (n ≡ 0 → ⊥) → after_check n changed before ≡ before
declined zero changed before h = absurd (h refl)
declined (suc n) changed before h = refl

-- a call whose checks all pass does what it says
pub call_taken : {A : Type 0} {number : ℕ} {before changed after : A} (r : Result (Unit {0}) Decline)
    → answer_number r ≡ 0 → number ≡ 0 → after ≡ changed → Called number before changed after r
call_taken {before = before} {changed = changed} r a e h = record { answer = a ∙ sym e; meaning = h ∙ ap (λ (n : ℕ). after_check n changed before) (sym e) }

-- a call that answers the refusal d, and changes nothing, does what it says
pub call_declined : {A : Type 0} {number : ℕ} {before changed : A} (r : Result (Unit {0}) Decline) (d : Decline)
    → answer_number r ≡ number_of d → number_of d ≡ number → Called number before changed before r
call_declined {number = number} {before = before} {changed = changed} r d a e =
    record { answer = a ∙ e; meaning = sym (declined number changed before (λ z. number_some d (e ∙ z))) }

-- A call told of one thing is told of another that is read off it, such as a layer's meaning off the one below:
-- the number may be found by other words, and the change need be the wanted one only where the call is taken.
pub called_by : {A B : Type 0} (read : A → B) {n k : ℕ} {before changed after : A} {wanted : B} {r : Result (Unit {0}) Decline}
    → n ≡ k → (n ≡ 0 → read changed ≡ wanted) → Called n before changed after r → Called k (read before) wanted (read after) r
called_by read {n = n} {before = before} {changed = changed} {wanted = wanted} same is c = record {
  answer = c.answer ∙ same;
  meaning = ap read c.meaning ∙ go n is ∙ ap (λ (i : ℕ). after_check i wanted (read before)) same;
}
  where
    go : (n : ℕ) → (n ≡ 0 → read changed ≡ wanted) → read (after_check n changed before) ≡ after_check n wanted (read before)
    go zero h = h refl
    go (suc n) h = refl

-- a pair that passes the checks: two different numbers below 64 that both stand
pub record Clear (u v : ℕ) (a b : State) : Type 0 where
  pub low : (ltb 63 u || ltb 63 v) ≡ false
  pub apart : eqb u v ≡ false
  pub left : a ≡ Standing
  pub right : b ≡ Standing

-- A pair whose answer is 0 passes every check, whatever number k comes after them:
-- of all ways that the tests can turn out, each that fails one has another answer.
pub pair_clear : (u v : ℕ) (a b : State) (k : ℕ) → pair_check u v a b k ≡ 0 → Clear u v a b
pair_clear u v a b k = go (ltb 63 u || ltb 63 v) (eqb u v) refl refl a b
  where
    go : (x y : Bool) → (ltb 63 u || ltb 63 v) ≡ x → eqb u v ≡ y → (a b : State)
        → ◌≡◌ {A = ℕ} (cond x 2 (cond y 3 (cond (is_absent a || is_absent b) 4 (cond (is_aside a || is_aside b) 5 k)))) 0 → Clear u v a b
    go true y p q a b e = absurd (omega arith)
    go false true p q a b e = absurd (omega arith)
    go false false p q Absent b e = absurd (omega arith)
    go false false p q Standing Absent e = absurd (omega arith)
    go false false p q Standing Standing e = record { low = p; apart = q; left = refl; right = refl }
    go false false p q Standing Aside e = absurd (omega arith)
    go false false p q Aside Absent e = absurd (omega arith)
    go false false p q Aside Standing e = absurd (omega arith)
    go false false p q Aside Aside e = absurd (omega arith)

-- a check that fails, whatever comes after the checks
pub pair_shut : (u v : ℕ) (a b : State) (n k : ℕ) → n ≡ pair_check u v a b 0 → (n ≡ 0 → ⊥) → n ≡ pair_check u v a b k
pair_shut u v a b n k = go (ltb 63 u || ltb 63 v) (eqb u v) (is_absent a || is_absent b) (is_aside a || is_aside b)
  where
    go : (x y z w : Bool) → n ≡ cond x 2 (cond y 3 (cond z 4 (cond w 5 0))) → (n ≡ 0 → ⊥) → n ≡ cond x 2 (cond y 3 (cond z 4 (cond w 5 k)))
    go true y z w e h = e
    go false true z w e h = e
    go false false true w e h = e
    go false false false true e h = e
    go false false false false e h = absurd (h e)

-- a pair that passes the checks is answered by what comes after them
pub pair_open : (u v : ℕ) (a b : State) (k : ℕ) → Clear u v a b → pair_check u v a b k ≡ k
pair_open u v a b k c = simp (c.low, c.apart, c.left, c.right)

pub low_left : {a b : State} (u v : ℕ) → Clear u v a b → u < 64
low_left u v c = omega (arith, ltb-false 63 u (or_parts (ltb 63 u) (ltb 63 v) c.low).0)

pub low_right : {a b : State} (u v : ℕ) → Clear u v a b → v < 64
low_right u v c = omega (arith, ltb-false 63 v (or_parts (ltb 63 u) (ltb 63 v) c.low).1)

-- a call on a pair that fails a check
pub pair_declined : {A : Type 0} {before changed : A} (u v : ℕ) (a b : State) (k : ℕ) (r : Result (Unit {0}) Decline) (d : Decline)
    → answer_number r ≡ number_of d → number_of d ≡ pair_check u v a b 0 → Called (pair_check u v a b k) before changed before r
pair_declined u v a b k r d said failed = call_declined r d said (pair_shut u v a b (number_of d) k failed (number_some d))

-- the same where the error of the checks is handed on by `?`
pub pair_left : {A : Type 0} {before changed : A} (u v : ℕ) (a b : State) (k : ℕ) (r : Result (Unit {0}) Decline) (d : Decline)
    → IsErrAnd r (λ e. e ≡ d) → number_of d ≡ pair_check u v a b 0 → Called (pair_check u v a b k) before changed before r
pair_left u v a b k r d handed failed =
    let p = err_from_is_err_and r handed in
    pair_declined u v a b k r d (ap answer_number p.1 ∙ ap number_of p.2) failed
