-- What is answered of a sample: grades, a ratio, a release, a circle; and that no other answer is right. Assumes nothing.
use Rattle.std.specs.Prelude.{◌≡◌, ℕ, ◌<◌, true, List, ℤ, pos, neg_ℤ, get_or, slice_index}
use Rattle.model.specs.declared.thresholds.Thresholds.{Thresholds}
use Rattle.model.specs.Views.{View}
use Rattle.model.specs.Rings.{Ring, Circle}
use Rattle.model.specs.Ratios.{thresholds_at, LeastRatio}
use Rattle.scale.specs.declared.whole.Whole.{Whole}
use Rattle.scale.specs.declared.unit.Unit.{Unit as Units}
use Rattle.scale.specs.declared.pair.Pair.{Pair}
use Rattle.scale.specs.Wholes.{of_whole}
use Rattle.scale.specs.Units.{of_unit}
use Rattle.scale.specs.Pairs.{both}
use Rattle.paths.specs.Numbers.{BestLoose, BestStrict}
use Rattle.form.specs.Laid.{laid_out}
use Rattle.form.specs.Sections.{finding}

-- grades by how far below 0 they are: that of record u at the place u. The place of a number that does not stand has no meaning, and holds 0
abbrev pub minus : List ℕ → ℕ → ℤ
minus depths u = neg_ℤ (pos (slice_index depths u))

-- the pair -a, -b for a, b
abbrev pub minus_both : (ℕ × ℕ) → Pair Whole Units
minus_both d = both (of_whole (neg_ℤ (pos d.0))) (of_unit (neg_ℤ (pos d.1)))

-- strict grades the same way
abbrev pub minus_pairs : List (ℕ × ℕ) → ℕ → Pair Whole Units
minus_pairs depths u = minus_both (get_or depths u (0, 0))

-- the best loose grades are minus the depths, and no others are the best
pub record LooseGrades (w : View) (t : Thresholds) (depths : List ℕ) : Type 0 where
  pub best : BestLoose w t (minus depths)
  pub only : (g : ℕ → ℤ) → BestLoose w t g → (u : ℕ) → u < 64 → w.stands u ≡ true → g u ≡ minus depths u

-- the same of strict grades
pub record StrictGrades (w : View) (t : Thresholds) (depths : List (ℕ × ℕ)) : Type 0 where
  pub best : BestStrict w t (minus_pairs depths)
  pub only : (g : ℕ → Pair Whole Units) → BestStrict w t g → (u : ℕ) → u < 64 → w.stands u ≡ true → g u ≡ minus_pairs depths u

-- e to h is the least ratio, shown by the ring; no other numbers or ring show it; and the grades at t1 = h and t2 = e are minus the depths
pub record RatioIs (w : View) (e h : ℕ) (ring depths : List ℕ) : Type 0 where
  pub least : LeastRatio w e h ring
  pub only : (f k : ℕ) (xs : List ℕ) → LeastRatio w f k xs → (f ≡ e) × (k ≡ h) × (xs ≡ ring)
  pub grades : LooseGrades w (thresholds_at e h) depths

-- whichever ring shows the ratio e to h, and however its best grades are held: the release has these bytes
abbrev pub ReleaseIs : View → ℕ → ℕ → List ℕ → Type 0
ReleaseIs w e h bytes = (xs : List ℕ) (g : ℕ → ℤ) → LeastRatio w e h xs → BestLoose w (thresholds_at e h) g → laid_out (finding w g xs) ≡ bytes

-- no ring stands
abbrev pub NoRings : View → Type 0
NoRings w = (xs : List ℕ) → Ring w xs → ⊥

-- the ring is a circle, and the only one; so there is no least ratio
pub record CircleIs (w : View) (ring : List ℕ) : Type 0 where
  pub circle : Circle w ring
  pub only : (xs : List ℕ) → Circle w xs → xs ≡ ring
  pub ratioless : (e h : ℕ) (xs : List ℕ) → LeastRatio w e h xs → ⊥
