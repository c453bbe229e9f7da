-- What rings say of gradings: the statements that theorems.rt names. Assumes nothing.
use Rattle.std.specs.Prelude.{◌≡◌, ℕ, ◌+◌, ◌*◌, ◌≤◌, List, length, ℤ, pos, ◌*ℤ◌}
use Rattle.model.specs.declared.thresholds.Thresholds.{Thresholds}
use Rattle.model.specs.Views.{View, Within}
use Rattle.model.specs.Rings.{Cycle, Ring, Circle, Turned, marks_of, hops_of}
use Rattle.model.specs.Gradings.{Loose, ForbidsLoose, ForbidsStrict, NoLoose, NoStrict}
use Rattle.model.specs.Ratios.{thresholds_at, Shows, LeastRatio}

abbrev pub RingForbidsLoose : Type 0
RingForbidsLoose = (w : View) (t : Thresholds) (xs : List ℕ) → Cycle w xs → ForbidsLoose w t xs → NoLoose w t

abbrev pub RingForbidsStrict : Type 0
RingForbidsStrict = (w : View) (t : Thresholds) (xs : List ℕ) → Cycle w xs → ForbidsStrict w t xs → NoStrict w t

abbrev pub AllStepsCount : Type 0
AllStepsCount = (w : View) (xs : List ℕ) → Cycle w xs → marks_of w xs + hops_of w xs ≡ length xs

-- the same records in the same order round, with as many marks and hops
pub record SameCycle (w : View) (xs ys : List ℕ) : Type 0 where
  pub cycle : Cycle w ys
  pub marks : marks_of w ys ≡ marks_of w xs
  pub hops : hops_of w ys ≡ hops_of w xs

abbrev pub TurningKeeps : Type 0
TurningKeeps = (w : View) (r : ℕ) (xs ys : List ℕ) → Turned r xs ys → Cycle w xs → SameCycle w xs ys

pub record SameRing (a b : View) (xs : List ℕ) : Type 0 where
  pub ring : Ring b xs
  pub marks : marks_of b xs ≡ marks_of a xs
  pub hops : hops_of b xs ≡ hops_of a xs

abbrev pub FewerRings : Type 0
FewerRings = (a b : View) (xs : List ℕ) → Within a b → Ring a xs → SameRing a b xs

abbrev pub FewerCircles : Type 0
FewerCircles = (a b : View) (xs : List ℕ) → Within a b → Circle a xs → Circle b xs

-- what shows a ratio (a ring that has it, or none for 0 to 1), and a loose grading at that ratio, show that it is the least
abbrev pub GradingShowsLeast : Type 0
GradingShowsLeast = (w : View) (e h d : ℕ) (xs : List ℕ) (g : ℕ → ℤ) → 1 ≤ h → Shows w e h xs → 1 ≤ d → Loose w (thresholds_at e h) d g → LeastRatio w e h xs

-- t1 times a loose grading at the ratio e to h is one for thresholds with t2/t1 at least e/h, to h times its denominator d.
-- Nothing is asked of h and d: where both are at least 1, d·h is a denominator
abbrev pub GradingAbove : Type 0
GradingAbove = (w : View) (e h d : ℕ) (g : ℕ → ℤ) (t : Thresholds) → Loose w (thresholds_at e h) d g → e * t.t1 ≤ t.t2 * h → Loose w t (d * h) (λ u. pos t.t1 *ℤ g u)

abbrev pub NoGreaterRatio : Type 0
NoGreaterRatio = (a b : View) (e h f k : ℕ) (xs ys : List ℕ) → Within a b → LeastRatio a e h xs → LeastRatio b f k ys → e * k ≤ f * h
