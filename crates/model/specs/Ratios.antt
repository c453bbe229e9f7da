-- The ratio of marks to hops on rings: the least that leaves no ring against it. Assumes nothing.
use Rattle.std.specs.Prelude.{◌≡◌, ℕ, ◌*◌, ◌<◌, ◌≤◌, ◌⊎◌, List, []}
use Rattle.model.specs.declared.thresholds.Thresholds.{Thresholds}
use Rattle.model.specs.Views.{View}
use Rattle.model.specs.Rings.{Ring, Circle, marks_of, hops_of}
use Rattle.model.specs.Gradings.{NoLoose}

-- the thresholds at the ratio e to h: t1 = h and t2 = e, so that t2/t1 is e/h
abbrev pub thresholds_at : ℕ → ℕ → Thresholds
thresholds_at e h = record { t1 = h; t2 = e }

-- a ring with e marks, at least one, and h hops
pub record RingWith (w : View) (e h : ℕ) (xs : List ℕ) : Type 0 where
  pub ring : Ring w xs
  pub marks : marks_of w xs ≡ e
  pub hops : hops_of w xs ≡ h
  pub some : 1 ≤ e

-- no ring is shown, and the ratio is 0 to 1
pub record NoRing (e h : ℕ) (xs : List ℕ) : Type 0 where
  pub empty : xs ≡ []
  pub marks : e ≡ 0
  pub hops : h ≡ 1

-- what shows a ratio: a ring that has it, or none for 0 to 1
abbrev pub Shows : View → ℕ → ℕ → List ℕ → Type 0
Shows w e h xs = NoRing e h xs ⊎ RingWith w e h xs

-- no ring has more marks to its hops than e to h
abbrev pub Bounds : View → ℕ → ℕ → Type 0
Bounds w e h = (xs : List ℕ) → Ring w xs → marks_of w xs * h ≤ e * hops_of w xs

-- no ring is a circle
abbrev pub NoCircle : View → Type 0
NoCircle w = (xs : List ℕ) → Circle w xs → ⊥

-- e marks to h hops is what the ring xs has, or 0 to 1 with no ring; no ring has a greater ratio, and no circle stands;
-- below it, at thresholds with t2/t1 less than e/h, there is no loose grading to any denominator
pub record LeastRatio (w : View) (e h : ℕ) (xs : List ℕ) : Type 0 where
  pub hopped : 1 ≤ h
  pub shown : Shows w e h xs
  pub bounds : Bounds w e h
  pub circleless : NoCircle w
  pub below : (t : Thresholds) → t.t2 * h < e * t.t1 → NoLoose w t
