-- The records, marks and depths of what stands, records and marks rising: of a view whose marks join standing records, and of grades that are not above 0.
-- Assumes nothing.
use Rattle.std.specs.Prelude.{ℕ, zero, suc, Bool, true, false, List, [], ◌∷◌, ◌++◌, ℤ, unsigned_abs}
use Rattle.model.specs.Views.{View}
use Rattle.form.specs.Contents.{Contents}

-- an item of a list, if it is one
abbrev pub one_if : {X : Type 0} → Bool → X → List X
one_if true x = x ∷ []
one_if false x = []

-- the records below n that stand
unfoldable pub records_below : View → ℕ → List ℕ
records_below w zero = []
records_below w (suc n) = records_below w n ++ one_if (w.stands n) n

-- the marks from u to numbers below n, and the marks from all numbers below n
unfoldable pub marks_from : View → ℕ → ℕ → List (ℕ × ℕ)
marks_from w u zero = []
marks_from w u (suc n) = marks_from w u n ++ one_if (w.marked u n) (u, n)

unfoldable pub marks_below : View → ℕ → List (ℕ × ℕ)
marks_below w zero = []
marks_below w (suc n) = marks_below w n ++ marks_from w n 64

-- minus the grades of the standing records below n: none of them is above 0
unfoldable pub depths_below : View → (ℕ → ℤ) → ℕ → List ℕ
depths_below w g zero = []
depths_below w g (suc n) = depths_below w g n ++ one_if (w.stands n) (unsigned_abs (g n))

-- what a release contains of a view w with the grades g and the ring xs
abbrev pub finding : View → (ℕ → ℤ) → List ℕ → Contents
finding w g xs = record { records = records_below w 64; marks = marks_below w 64; depths = depths_below w g 64; ring = xs }
