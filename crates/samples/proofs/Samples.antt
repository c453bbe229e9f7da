-- Each sample: its tests compute. With each ratio stands to which record the step leads by which a record has its grade. Assumes nothing.
use Rattle.std.proofs.Common.{◌≡◌, ℕ, Bool, true, false, List, [], ◌∷◌, refl}
use Rattle.model.specs.Views.{step, two as different}
use Rattle.model.specs.Rings.{sum_to, Circle}
use Rattle.model.specs.Sets.{put}
use Rattle.model.proofs.Steps.{clash}
use Rattle.sheet.specs.Calls.{put_state, put_mark}
use Rattle.samples.specs.Results.{RatioIs, NoRings, CircleIs}
use Rattle.samples.specs.Statements.{thresholds, first_two, first_four, three_in_a_row, six_upward, PathGraded, Samples}
use Rattle.samples.specs.Statements.{nothing, alike, one_mark, both_ways, path, path_without, two_marks, upward, outer_mark}
use Rattle.samples.proofs.Covers.{Covers, covers}
use Rattle.samples.proofs.Rings.{ring_by_test, ring_at}
use Rattle.samples.proofs.Tests.{same_list, same_list_is}
use Rattle.samples.proofs.Grades.{loose_by_test, strict_by_test}
use Rattle.samples.proofs.Results.{ratio_by_test, forbids_loosely, forbids_strictly}
use Rattle.samples.proofs.Releases.{nothing_released, outer_mark_released}

-- nothing is set aside
abbrev none : ℕ → Bool
none u = false

no_records : RatioIs nothing 0 1 [] []
unfolding step different sum_to put_state put_mark
no_records = ratio_by_test [] 0 (covers 0 [] [] none refl) refl

no_marks : RatioIs alike 0 1 [] (0 ∷ 0 ∷ [])
unfolding step different sum_to put_state put_mark
no_marks = ratio_by_test [] 2 (covers 2 first_two [] none refl) refl

covers_one : Covers one_mark 2
covers_one = covers 2 first_two ((0, 1) ∷ []) none refl

mark_alone : RatioIs one_mark 0 1 [] (1 ∷ 0 ∷ [])
unfolding step different sum_to put_state put_mark
mark_alone = ratio_by_test (1 ∷ []) 2 covers_one refl

no_rings : NoRings one_mark
unfolding step different put_state put_mark
no_rings xs r = clash false (ring_at one_mark 2 (λ xs. false) xs covers_one refl r) refl

covers_path : Covers path 4
covers_path = covers 4 first_four three_in_a_row none refl

a_path : RatioIs path 3 1 first_four (3 ∷ 2 ∷ 1 ∷ 0 ∷ [])
unfolding step different sum_to put_state put_mark
a_path = ratio_by_test (1 ∷ 2 ∷ 3 ∷ []) 4 covers_path refl

its_gradings : PathGraded
unfolding step different sum_to put_state put_mark
its_gradings = record {
  loose_declined = forbids_loosely path (thresholds 1 2) first_four refl;
  loose_given = loose_by_test (1 ∷ 2 ∷ 3 ∷ []) 4 covers_path refl;
  strict_declined = forbids_strictly path (thresholds 1 3) first_four refl;
  strict_given = strict_by_test (1 ∷ 2 ∷ 3 ∷ []) 4 covers_path refl;
}

last_aside : RatioIs (path_without 3) 2 1 (0 ∷ 1 ∷ 2 ∷ []) (2 ∷ 1 ∷ 0 ∷ [])
unfolding step different sum_to put put_state put_mark
last_aside = ratio_by_test (1 ∷ 2 ∷ []) 4 (covers 4 first_four three_in_a_row (put none 3 true) refl) refl

second_aside : RatioIs (path_without 1) 1 2 (0 ∷ 2 ∷ 3 ∷ []) (1 ∷ 0 ∷ 2 ∷ 0 ∷ [])
unfolding step different sum_to put put_state put_mark
second_aside = ratio_by_test (2 ∷ 0 ∷ 3 ∷ []) 4 (covers 4 first_four three_in_a_row (put none 1 true) refl) refl

circle : Circle both_ways first_two
unfolding step different sum_to put_state put_mark
circle = record { ring = ring_by_test both_ways first_two refl; hopless = refl }

only_circle : (xs : List ℕ) → Circle both_ways xs → xs ≡ first_two
unfolding step different put_state put_mark
only_circle xs c = same_list_is xs first_two (ring_at both_ways 2 (λ xs. same_list xs first_two) xs (covers 2 first_two ((0, 1) ∷ (1, 0) ∷ []) none refl) refl c.ring)

marked_both_ways : CircleIs both_ways first_two
marked_both_ways = record { circle = circle; only = only_circle; ratioless = λ e h xs least. least.circleless first_two circle }

marks_apart : RatioIs two_marks 2 2 first_four (2 ∷ 0 ∷ 2 ∷ 0 ∷ [])
unfolding step different sum_to put_state put_mark
marks_apart = ratio_by_test (1 ∷ 0 ∷ 3 ∷ []) 4 (covers 4 first_four ((0, 1) ∷ (2, 3) ∷ []) none refl) refl

all_upward : RatioIs upward 3 2 (0 ∷ 1 ∷ 2 ∷ 3 ∷ 4 ∷ []) (6 ∷ 4 ∷ 2 ∷ 0 ∷ 3 ∷ [])
unfolding step different sum_to put_state put_mark
all_upward = ratio_by_test (1 ∷ 2 ∷ 3 ∷ 0 ∷ 0 ∷ []) 5 (covers 5 (0 ∷ 1 ∷ 2 ∷ 3 ∷ 4 ∷ []) six_upward none refl) refl

three_records : RatioIs outer_mark 1 2 (0 ∷ 2 ∷ 1 ∷ []) (2 ∷ 1 ∷ 0 ∷ [])
unfolding step different sum_to put_state put_mark
three_records = ratio_by_test (2 ∷ 0 ∷ []) 3 (covers 3 (0 ∷ 1 ∷ 2 ∷ []) ((0, 2) ∷ []) none refl) refl

pub samples : Samples
samples = record {
  no_records = (no_records, nothing_released no_records);
  no_marks = no_marks;
  mark_alone = (mark_alone, no_rings);
  a_path = a_path;
  its_gradings = its_gradings;
  last_aside = last_aside;
  second_aside = second_aside;
  marked_both_ways = marked_both_ways;
  marks_apart = marks_apart;
  all_upward = all_upward;
  three_records = (three_records, outer_mark_released three_records);
}
