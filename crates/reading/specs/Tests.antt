-- What the tests of a claim decide: whether grades meet each step, and what a ring counts. Assumes nothing.
use Rattle.std.specs.Prelude.{◌≡◌, ℕ, suc, ◌+◌, ◌*◌, ◌<◌, ◌≤◌, true, List, length, ℤ, pos, ◌+ℤ◌, ◌≤ℤ◌, ◌≢◌, slice_index, Bool, Option, Some, None, MatchBool}
use Rattle.model.specs.declared.thresholds.Thresholds.{Thresholds}
use Rattle.model.specs.Views.{View, is_mark, is_hop, is_step}
use Rattle.model.specs.Rings.{round, marks_of, hops_of}
use Rattle.model.specs.Ratios.{RingWith, Shows}
use Rattle.reading.specs.declared.ring.Tally.{Tally}

-- the test says whether P holds
abbrev pub Decides : Bool → Type 0 → Type 0
Decides b P = MatchBool b P (P → ⊥)

-- what was found are numbers e and h with P, or there are none
abbrev pub Finds : Option Tally → (ℕ → ℕ → Type 0) → Type 0
Finds None P = (e h : ℕ) → P e h → ⊥
Finds (Some t) P = P t.marks t.hops

-- the grades of u and v meet the step from u to v
pub record MeetsStep (w : View) (g : ℕ → ℤ) (t : Thresholds) (u v : ℕ) : Type 0 where
  pub up : is_mark w u v ≡ true → (g u +ℤ pos (1 * t.t1 + 0)) ≤ℤ g v
  pub near : is_hop w u v ≡ true → (g u ≤ℤ (g v +ℤ pos (1 * t.t2))) × (g v ≤ℤ (g u +ℤ pos (1 * t.t2)))

-- they meet the step from u to each other number
pub record MeetsFrom (w : View) (g : ℕ → ℤ) (t : Thresholds) (u : ℕ) : Type 0 where
  pub each : (v : ℕ) → v < 64 → MeetsStep w g t u v

-- they meet every step: they are a loose grading to the denominator 1
pub record AllMeet (w : View) (g : ℕ → ℤ) (t : Thresholds) : Type 0 where
  pub each : (u : ℕ) → u < 64 → MeetsFrom w g t u

-- the number at the place i is none of those before it
pub record New (xs : List ℕ) (i : ℕ) : Type 0 where
  pub apart : (j : ℕ) → j < i → slice_index xs j ≢ slice_index xs i

-- no number is there twice
pub record Different (xs : List ℕ) : Type 0 where
  pub each : (i : ℕ) → i < length xs → New xs i

-- none is smaller than the first
abbrev pub FirstSmallest : List ℕ → Type 0
FirstSmallest xs = (i : ℕ) → i < length xs → slice_index xs 0 ≤ slice_index xs i

-- from each number, and from the last to the first, leads a step
abbrev pub AllSteps : View → List ℕ → Type 0
AllSteps w xs = (i : ℕ) → i < length xs → is_step w (round xs i) (round xs (suc i)) ≡ true

-- and so many of the steps are marks, and so many hops
pub record StepsCounted (w : View) (xs : List ℕ) (t : Tally) : Type 0 where
  pub steps : AllSteps w xs
  pub marks : marks_of w xs ≡ t.marks
  pub hops : hops_of w xs ≡ t.hops

-- a ring with e marks and h hops, both at least 1
pub record BothOn (w : View) (xs : List ℕ) (e h : ℕ) : Type 0 where
  pub ring : RingWith w e h xs
  pub hopped : 1 ≤ h

-- xs shows the ratio e to h
pub record RatioShown (w : View) (xs : List ℕ) (e h : ℕ) : Type 0 where
  pub shown : Shows w e h xs
  pub hopped : 1 ≤ h
