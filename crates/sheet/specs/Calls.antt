-- What a call answers and what it changes. Assumes nothing.
use Rattle.std.specs.Prelude.{◌≡◌, ℕ, zero, suc, ◌+◌, ◌-◌, Bool, true, false, cond, ◌&&◌, Result, ◌==◌}
use Rattle.model.specs.declared.decline.Decline.{Decline}
use Rattle.model.specs.Refusals.{answer_number}
use Rattle.sheet.specs.declared.state.State.{State}
use Rattle.sheet.specs.declared.state.State.TheVariants.{Standing}
use Rattle.sheet.specs.Meanings.{Meaning}
use Rattle.sheet.specs.Checks.{enter_check, mark_check, strike_check}

-- one state, and one mark, changed
unfoldable pub put_state : (ℕ → State) → ℕ → State → ℕ → State
put_state st u s x = cond (x == u) s (st x)

unfoldable pub put_mark : (ℕ → ℕ → Bool) → ℕ → ℕ → Bool → ℕ → ℕ → Bool
put_mark m u v b x y = cond (x == u && y == v) b (m x y)

-- the meaning after a call that is taken
abbrev pub entered : Meaning → ℕ → Meaning
entered m u = record { states = put_state m.states u Standing; marks = m.marks; held = m.held; capacity = m.capacity }

abbrev pub marked : Meaning → ℕ → ℕ → Meaning
marked m u v = record { states = m.states; marks = put_mark m.marks u v true; held = m.held + 1; capacity = m.capacity }

abbrev pub struck : Meaning → ℕ → ℕ → Meaning
struck m u v = record { states = m.states; marks = put_mark m.marks u v false; held = m.held - 1; capacity = m.capacity }

-- what is there after a call whose first failed check is `number`: a declined call changes nothing
abbrev pub after_check : {A : Type 0} → ℕ → A → A → A
after_check zero changed before = changed
after_check (suc k) changed before = before

-- a call answers the number of its first failed check, and changes the meaning only if there is none
pub record Called {A : Type 0} (number : ℕ) (before changed after : A) (r : Result (Unit {0}) Decline) : Type 0 where
  pub answer : answer_number r ≡ number
  pub meaning : after ≡ after_check number changed before

-- the three calls on a sheet s that becomes t, by what sheets mean
abbrev pub Enters : {S : Type 0} → (S → Meaning) → ℕ → S → S → Result (Unit {0}) Decline → Type 0
Enters means u s t r = Called (enter_check (means s) u) (means s) (entered (means s) u) (means t) r

abbrev pub Marks : {S : Type 0} → (S → Meaning) → ℕ → ℕ → S → S → Result (Unit {0}) Decline → Type 0
Marks means u v s t r = Called (mark_check (means s) u v) (means s) (marked (means s) u v) (means t) r

abbrev pub Strikes : {S : Type 0} → (S → Meaning) → ℕ → ℕ → S → S → Result (Unit {0}) Decline → Type 0
Strikes means u v s t r = Called (strike_check (means s) u v) (means s) (struck (means s) u v) (means t) r
