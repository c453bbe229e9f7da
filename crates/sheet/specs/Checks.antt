-- The checks of the calls, in their order: the number of the first that fails, or 0. Assumes nothing.
use Rattle.std.specs.Prelude.{ℕ, cond, ◌||◌, ◌==◌, nat_lt}
use Rattle.sheet.specs.declared.state.State.{State}
use Rattle.sheet.specs.States.{is_absent, is_aside, is_standing}
use Rattle.sheet.specs.Meanings.{Meaning}

-- 2, 6, 5 on a number u whose state is a
abbrev pub entry_check : ℕ → State → ℕ
entry_check u a = cond (nat_lt 63 u) 2 (cond (is_standing a) 6 (cond (is_aside a) 5 0))

abbrev pub enter_check : Meaning → ℕ → ℕ
enter_check m u = entry_check u (m.states u)

-- 2, 3, 4, 5 on two numbers u and v whose states are a and b, and then k
abbrev pub pair_check : ℕ → ℕ → State → State → ℕ → ℕ
pair_check u v a b k =
    cond (nat_lt 63 u || nat_lt 63 v) 2
    (cond (u == v) 3 (cond (is_absent a || is_absent b) 4 (cond (is_aside a || is_aside b) 5 k)))

-- 2, 3, 4, 5, 7, 8
abbrev pub mark_check : Meaning → ℕ → ℕ → ℕ
mark_check m u v = pair_check u v (m.states u) (m.states v) (cond (m.marks u v) 7 (cond (m.held == m.capacity) 8 0))

-- 2, 3, 4, 5, 9
abbrev pub strike_check : Meaning → ℕ → ℕ → ℕ
strike_check m u v = pair_check u v (m.states u) (m.states v) (cond (m.marks u v) 0 9)
