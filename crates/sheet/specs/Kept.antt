-- What a make means that keeps a word of present records and a table of marks. Assumes nothing.
use Rattle.std.specs.Prelude.{◌≡◌, ℕ, Bool, true, false, cond}
use Rattle.model.specs.Sets.{has}
use Rattle.sheet.specs.declared.state.State.{State}
use Rattle.sheet.specs.declared.state.State.TheVariants.{Absent, Standing}
use Rattle.sheet.specs.Meanings.{Meaning}

-- a present record stands: such a make has no record aside
abbrev pub present_states : ℕ → ℕ → State
present_states present u = cond (has present u) Standing Absent

abbrev pub kept_meaning : ℕ → (ℕ → ℕ → Bool) → ℕ → ℕ → Meaning
kept_meaning present m held capacity = record { states = present_states present; marks = m; held = held; capacity = capacity }

-- no mark of a record to itself, of an absent record, or to one
abbrev pub Irreflexive : (ℕ → ℕ → Bool) → Type 0
Irreflexive m = (u : ℕ) → m u u ≡ false

abbrev pub PresentFrom : ℕ → (ℕ → ℕ → Bool) → Type 0
PresentFrom present m = (u v : ℕ) → m u v ≡ true → has present u ≡ true

abbrev pub PresentTo : ℕ → (ℕ → ℕ → Bool) → Type 0
PresentTo present m = (u v : ℕ) → m u v ≡ true → has present v ≡ true
