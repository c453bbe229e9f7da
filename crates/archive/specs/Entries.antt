-- The standing records with their grades, rising. Assumes nothing.
use Rattle.std.specs.Prelude.{ℕ, zero, suc, Bool, true, false, List, [], ◌∷◌, ◌++◌}
use Rattle.model.specs.Views.{View}
use Rattle.archive.specs.declared.answer.Graded.{Graded}

-- a record with its grade, if it stands
abbrev pub entry : {V : Type 0} → Bool → ℕ → V → List (Graded V)
entry true u z = record { «record» = u; grade = z } ∷ []
entry false u z = []

-- the records below n that stand, each with its grade
unfoldable pub entries_below : {V : Type 0} → View → (ℕ → V) → ℕ → List (Graded V)
entries_below w g zero = []
entries_below w g (suc n) = entries_below w g n ++ entry (w.stands n) n (g n)
