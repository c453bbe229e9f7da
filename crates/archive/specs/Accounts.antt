-- The plain account: it tells what stands in a folder, fed only what the sheet below meant at the opening and the calls
-- since then. Assumes nothing.
use Rattle.std.specs.Prelude.{ℕ, cond, List, [], ◌∷◌}
use Rattle.model.specs.Views.{View}
use Rattle.sheet.specs.declared.state.State.{State}
use Rattle.sheet.specs.declared.state.State.TheVariants.{Aside}
use Rattle.sheet.specs.Meanings.{Meaning}
use Rattle.sheet.specs.Checks.{enter_check, mark_check, strike_check}
use Rattle.sheet.specs.Calls.{entered, after_check}
use Rattle.sheet.specs.Views.{view_in}
use Rattle.layers.specs.Folders.{Account, standing_marks, aside_check, back_check, marked_in, struck_in, set_aside, brought_back}
use Rattle.archive.specs.declared.call.Call.{Call}
use Rattle.archive.specs.declared.call.Call.TheVariants.{Enter, Mark, Strike, SetAside, BringBack, Loose, Strict, Unit as Units, Ratio, Wrong}

-- a number in the set is aside, any other has its state
abbrev pub told_states : Account → ℕ → State
told_states a u = cond (a.own u) Aside (a.below.states u)

-- what the account tells of the folder: a pair is marked if the account has it and both its numbers stand
abbrev pub told : Account → Meaning
told a = record { states = told_states a; marks = standing_marks (told_states a) a.below.marks; held = a.below.held; capacity = a.below.capacity }

-- what stands, and the marks between what stands
abbrev pub stands_in : Account → View
stands_in a = view_in (told a)

-- entering makes the number's state standing, and leaves the set alone
abbrev pub noted : Account → ℕ → Account
noted a u = record { below = entered a.below u; own = a.own }

-- the account after a call: checks are asked of the account, and a declined call changes nothing; no more does a grading, a least ratio or a wrong line
abbrev pub next : Account → Call → Account
next a (Enter u) = after_check (enter_check (told a) u) (noted a u) a
next a (Mark u v) = after_check (mark_check (told a) u v) (marked_in a u v) a
next a (Strike u v) = after_check (strike_check (told a) u v) (struck_in a u v) a
next a (SetAside u) = after_check (aside_check (told a) u) (set_aside a u) a
next a (BringBack u) = after_check (back_check (told a) a.own u) (brought_back a u) a
next a (Loose t) = a
next a (Strict t) = a
next a Units = a
next a Ratio = a
next a Wrong = a

-- and after a list of calls
unfoldable pub run : Account → List Call → Account
run a [] = a
run a (c ∷ cs) = run (next a c) cs
