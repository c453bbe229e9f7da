-- What a folder means: the sheet below it, and the numbers that this folder has set aside. Assumes nothing.
use Rattle.std.specs.Prelude.{ℕ, Bool, true, false, cond, ◌&&◌, nat_lt}
use Rattle.model.specs.Sets.{put}
use Rattle.sheet.specs.declared.state.State.{State}
use Rattle.sheet.specs.declared.state.State.TheVariants.{Absent, Standing, Aside}
use Rattle.sheet.specs.States.{is_absent, is_aside, is_standing}
use Rattle.sheet.specs.Meanings.{Meaning}
use Rattle.sheet.specs.Calls.{entered, marked, struck}

-- what the sheet below means, and the set of numbers that were set aside over it
pub record Account : Type 0 where
  pub below : Meaning
  pub own : ℕ → Bool

-- at the opening nothing is set aside
abbrev pub opened : Meaning → Account
opened m = record { below = m; own = λ u. false }

-- the marks between records that both stand
abbrev pub standing_marks : (ℕ → State) → (ℕ → ℕ → Bool) → ℕ → ℕ → Bool
standing_marks states marks u v = marks u v && (is_standing (states u) && is_standing (states v))

-- in a folder a number is absent if it is absent below; else it is aside if it is in the set or aside below
abbrev pub filed_state : Bool → State → State
filed_state own Absent = Absent
filed_state true Standing = Aside
filed_state false Standing = Standing
filed_state own Aside = Aside

abbrev pub filed_states : Account → ℕ → State
filed_states a u = filed_state (a.own u) (a.below.states u)

-- marked if marked below and both stand in the folder
abbrev pub filed_marks : Account → ℕ → ℕ → Bool
filed_marks a = standing_marks (filed_states a) a.below.marks

-- the folder as a sheet: counts are as below
abbrev pub seen : Account → Meaning
seen a = record { states = filed_states a; marks = filed_marks a; held = a.below.held; capacity = a.below.capacity }

-- set aside checks 2, 4, 5, and bring back 2, 4, 10: by what a folder means as a sheet, and by its own set
abbrev pub aside_check : Meaning → ℕ → ℕ
aside_check m u = cond (nat_lt 63 u) 2 (cond (is_absent (m.states u)) 4 (cond (is_aside (m.states u)) 5 0))

abbrev pub back_check : Meaning → (ℕ → Bool) → ℕ → ℕ
back_check m own u = cond (nat_lt 63 u) 2 (cond (is_absent (m.states u)) 4 (cond (own u) 0 10))

-- the account after a call that is taken: a record that is entered is new, so it is in no set
abbrev pub entered_in : Account → ℕ → Account
entered_in a u = record { below = entered a.below u; own = put a.own u false }

abbrev pub marked_in : Account → ℕ → ℕ → Account
marked_in a u v = record { below = marked a.below u v; own = a.own }

abbrev pub struck_in : Account → ℕ → ℕ → Account
struck_in a u v = record { below = struck a.below u v; own = a.own }

abbrev pub set_aside : Account → ℕ → Account
set_aside a u = record { below = a.below; own = put a.own u true }

abbrev pub brought_back : Account → ℕ → Account
brought_back a u = record { below = a.below; own = put a.own u false }
