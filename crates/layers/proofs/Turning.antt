-- The calls of a turned sheet: the checks and changes are those below, with the two records exchanged. Assumes nothing.
use Rattle.std.specs.Prelude.{◌≡◌, ℕ, ◌+◌, ◌-◌, Bool, true, false, cond, Result, ◌==◌, nat_lt}
use Rattle.std.proofs.Common.{ap, arith}
use Rattle.std.proofs.Math.Path.{fun_ext}
use Rattle.std.proofs.Math.Bool.{or_comm, and_comm}
use Rattle.std.proofs.lemmas.Bool.Decides.{nat_tests}
use Rattle.model.specs.declared.decline.Decline.{Decline}
use Rattle.sheet.specs.declared.state.State.{State}
use Rattle.sheet.specs.States.{is_absent, is_aside}
use Rattle.sheet.specs.Meanings.{Meaning}
use Rattle.sheet.specs.Checks.{pair_check, mark_check, strike_check}
use Rattle.sheet.specs.Calls.{put_mark, marked, struck, Called}
use Rattle.sheet.proofs.Checking.{called_by}
use Rattle.layers.specs.Turns.{turned, turned_meaning}

eqb_turn : (a b : ℕ) → (a == b) ≡ (b == a)
eqb_turn a b = grind (arith, nat_tests)

-- the checks of a pair look at both records alike
pair_turn : (u v : ℕ) (a b : State) (k : ℕ) → pair_check u v a b k ≡ pair_check v u b a k
pair_turn u v a b k =
    simp (or_comm (nat_lt 63 u) (nat_lt 63 v), eqb_turn u v, or_comm (is_absent a) (is_absent b), or_comm (is_aside a) (is_aside b))

put_turn : (m : ℕ → ℕ → Bool) (u v : ℕ) (b : Bool) → turned (put_mark m v u b) ≡ put_mark (turned m) u v b
unfolding put_mark
put_turn m u v b = fun_ext (λ x. fun_ext (λ y. ap (λ (t : Bool). cond t b (m y x)) (and_comm (y == v) (x == u))))

-- a call below with the records exchanged is the call on the turned sheet
pub turned_marks : {m after : Meaning} (u v : ℕ) {r : Result (Unit {0}) Decline} → Called (mark_check m v u) m (marked m v u) after r
    → Called (mark_check (turned_meaning m) u v) (turned_meaning m) (marked (turned_meaning m) u v) (turned_meaning after) r
turned_marks {m = m} u v c =
    called_by turned_meaning (pair_turn v u (m.states v) (m.states u) _)
    (λ _ i. record { states = m.states; marks = put_turn m.marks u v true i; held = m.held + 1; capacity = m.capacity }) c

pub turned_strikes : {m after : Meaning} (u v : ℕ) {r : Result (Unit {0}) Decline} → Called (strike_check m v u) m (struck m v u) after r
    → Called (strike_check (turned_meaning m) u v) (turned_meaning m) (struck (turned_meaning m) u v) (turned_meaning after) r
turned_strikes {m = m} u v c =
    called_by turned_meaning (pair_turn v u (m.states v) (m.states u) _)
    (λ _ i. record { states = m.states; marks = put_turn m.marks u v false i; held = m.held - 1; capacity = m.capacity }) c
