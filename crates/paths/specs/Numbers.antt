-- Grades in whole numbers: the best loose and the best strict grading, and the rings that forbid them. Assumes nothing.
use Rattle.std.specs.Prelude.{◌≡◌, ℕ, ◌*◌, ◌<◌, ◌≤◌, max, true, List, ℤ, pos, ◌+ℤ◌, ◌*ℤ◌, ◌≤ℤ◌, unsigned_abs}
use Rattle.model.specs.declared.thresholds.Thresholds.{Thresholds}
use Rattle.model.specs.Views.{View}
use Rattle.model.specs.Rings.{Ring}
use Rattle.model.specs.Gradings.{Loose, Strict, ForbidsLoose, ForbidsStrict, NoLoose, NoStrict}
use Rattle.scale.specs.declared.whole.Whole.{Whole}
use Rattle.scale.specs.declared.unit.Unit.{Unit as Units}
use Rattle.scale.specs.declared.pair.Pair.{Pair}
use Rattle.scale.specs.Scales.{whole_scale, unit_scale, pair_scale}
use Rattle.paths.specs.Bests.{Best}

-- unit grading's thresholds: a mark leads up by at least 1, and a hop not at all
abbrev pub unit_thresholds : Thresholds
unit_thresholds = record { t1 = 1; t2 = 0 }

-- no standing record has a grade above 0
abbrev pub NoneAboveZero : View → (ℕ → ℤ) → Type 0
NoneAboveZero w z = (u : ℕ) → u < 64 → w.stands u ≡ true → z u ≤ℤ pos 0

-- a loose grading to the denominator 1 without a grade above 0, each of at most 64 steps of t1 or t2 in size; no loose grading q
-- without a grade above 0, to any denominator d, is higher: q u is at most d times z u at every standing record
pub record BestLoose (w : View) (t : Thresholds) (z : ℕ → ℤ) : Type 0 where
  pub loose : Loose w t 1 z
  pub low : NoneAboveZero w z
  pub size : (u : ℕ) → u < 64 → w.stands u ≡ true → unsigned_abs (z u) ≤ 64 * max t.t1 t.t2
  pub highest : (d : ℕ) (q : ℕ → ℤ) → Loose w t d q → NoneAboveZero w q → (u : ℕ) → u < 64 → w.stands u ≡ true → q u ≤ℤ (pos d *ℤ z u)

-- a ring that forbids every loose grading, to any denominator
pub record ForbidsLoosely (w : View) (t : Thresholds) (xs : List ℕ) : Type 0 where
  pub ring : Ring w xs
  pub forbids : ForbidsLoose w t xs
  pub none : NoLoose w t

-- the pair a, b stands for 128·a + b
abbrev pub merged : Pair Whole Units → ℤ
merged p = (pos 128 *ℤ p.first.value) +ℤ p.second.value

-- pairs that stand for a strict grading to the denominator 128 without a grade above 0, greatest as pairs
pub record BestStrict (w : View) (t : Thresholds) (g : ℕ → Pair Whole Units) : Type 0 where
  pub strict : Strict w t 128 (λ u. merged (g u))
  pub low : NoneAboveZero w (λ u. merged (g u))
  pub greatest : Best (pair_scale whole_scale unit_scale) w t g

-- a ring that forbids every strict grading, to any denominator
pub record ForbidsStrictly (w : View) (t : Thresholds) (xs : List ℕ) : Type 0 where
  pub ring : Ring w xs
  pub forbids : ForbidsStrict w t xs
  pub none : NoStrict w t
