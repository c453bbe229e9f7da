-- What a turn means. Assumes nothing.
use Rattle.std.specs.Prelude.{ℕ, Bool}
use Rattle.sheet.specs.Meanings.{Meaning}

-- marks read the other way round
abbrev pub turned : (ℕ → ℕ → Bool) → ℕ → ℕ → Bool
turned m u v = m v u

-- all else is as below
abbrev pub turned_meaning : Meaning → Meaning
turned_meaning m = record { states = m.states; marks = turned m.marks; held = m.held; capacity = m.capacity }
