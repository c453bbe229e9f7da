-- The sample folders, and what is answered of each: the statement that lib.rt names. Assumes nothing.
use Rattle.std.specs.Prelude.{ℕ, List, [], ◌∷◌}
use Rattle.model.specs.declared.thresholds.Thresholds.{Thresholds}
use Rattle.model.specs.Views.{View}
use Rattle.layers.specs.Folders.{set_aside}
use Rattle.paths.specs.Numbers.{ForbidsLoosely, ForbidsStrictly}
use Rattle.samples.specs.Folders.{folder, view}
use Rattle.samples.specs.Results.{LooseGrades, StrictGrades, RatioIs, ReleaseIs, NoRings, CircleIs}

-- the thresholds t1 and t2
abbrev pub thresholds : ℕ → ℕ → Thresholds
thresholds t1 t2 = record { t1 = t1; t2 = t2 }

-- ---- the folders: records and marks, and what is thereby seen
abbrev pub first_two : List ℕ
first_two = 0 ∷ 1 ∷ []

abbrev pub first_four : List ℕ
first_four = 0 ∷ 1 ∷ 2 ∷ 3 ∷ []

abbrev pub three_in_a_row : List (ℕ × ℕ)
three_in_a_row = (0, 1) ∷ (1, 2) ∷ (2, 3) ∷ []

abbrev pub six_upward : List (ℕ × ℕ)
six_upward = (0, 1) ∷ (0, 2) ∷ (0, 3) ∷ (1, 2) ∷ (1, 3) ∷ (2, 3) ∷ []

abbrev pub nothing : View
nothing = view (folder [] [])

abbrev pub alike : View
alike = view (folder first_two [])

abbrev pub one_mark : View
one_mark = view (folder first_two ((0, 1) ∷ []))

abbrev pub both_ways : View
both_ways = view (folder first_two ((0, 1) ∷ (1, 0) ∷ []))

abbrev pub path : View
path = view (folder first_four three_in_a_row)

-- the path, with one record set aside
abbrev pub path_without : ℕ → View
path_without u = view (set_aside (folder first_four three_in_a_row) u)

abbrev pub two_marks : View
two_marks = view (folder first_four ((0, 1) ∷ (2, 3) ∷ []))

-- record 4 is unmarked
abbrev pub upward : View
upward = view (folder (0 ∷ 1 ∷ 2 ∷ 3 ∷ 4 ∷ []) six_upward)

abbrev pub outer_mark : View
outer_mark = view (folder (0 ∷ 1 ∷ 2 ∷ []) ((0, 2) ∷ []))

-- ---- what is answered
-- three records 0 1 2; one mark 0 2; three depths 2 1 0; a ring of three, 0 2 1
abbrev pub outer_mark_bytes : List ℕ
outer_mark_bytes = 3 ∷ 0 ∷ 1 ∷ 2 ∷ 1 ∷ 0 ∷ 0 ∷ 2 ∷ 3 ∷ 2 ∷ 0 ∷ 1 ∷ 0 ∷ 0 ∷ 0 ∷ 3 ∷ 0 ∷ 2 ∷ 1 ∷ []

-- thresholds at which the path has no grading, and at which it has one
pub record PathGraded : Type 0 where
  pub loose_declined : ForbidsLoosely path (thresholds 1 2) first_four
  pub loose_given : LooseGrades path (thresholds 1 3) (3 ∷ 2 ∷ 1 ∷ 0 ∷ [])
  pub strict_declined : ForbidsStrictly path (thresholds 1 3) first_four
  pub strict_given : StrictGrades path (thresholds 1 4) ((3, 3) ∷ (2, 2) ∷ (1, 1) ∷ (0, 0) ∷ [])

pub record Samples : Type 0 where
  pub no_records : RatioIs nothing 0 1 [] [] × ReleaseIs nothing 0 1 (0 ∷ 0 ∷ 0 ∷ 0 ∷ 0 ∷ [])
  pub no_marks : RatioIs alike 0 1 [] (0 ∷ 0 ∷ [])
  pub mark_alone : RatioIs one_mark 0 1 [] (1 ∷ 0 ∷ []) × NoRings one_mark
  pub a_path : RatioIs path 3 1 first_four (3 ∷ 2 ∷ 1 ∷ 0 ∷ [])
  pub its_gradings : PathGraded
  pub last_aside : RatioIs (path_without 3) 2 1 (0 ∷ 1 ∷ 2 ∷ []) (2 ∷ 1 ∷ 0 ∷ [])
  pub second_aside : RatioIs (path_without 1) 1 2 (0 ∷ 2 ∷ 3 ∷ []) (1 ∷ 0 ∷ 2 ∷ 0 ∷ [])
  pub marked_both_ways : CircleIs both_ways first_two
  pub marks_apart : RatioIs two_marks 2 2 first_four (2 ∷ 0 ∷ 2 ∷ 0 ∷ [])
  pub all_upward : RatioIs upward 3 2 (0 ∷ 1 ∷ 2 ∷ 3 ∷ 4 ∷ []) (6 ∷ 4 ∷ 2 ∷ 0 ∷ 3 ∷ [])
  pub three_records : RatioIs outer_mark 1 2 (0 ∷ 2 ∷ 1 ∷ []) (2 ∷ 1 ∷ 0 ∷ [])
      × ReleaseIs outer_mark 1 2 outer_mark_bytes
