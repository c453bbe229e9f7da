-- What the call for the least ratio answers, and what it leaves in the memory that was brought. Assumes nothing.
use Rattle.std.specs.Prelude.{◌≡◌, ℕ, ◌<◌, ◌≤◌, false, cond, List, take, pos, Ok, Err, MatchBool, Result, nat_lt, slice_index, slice_index_or}
use Rattle.model.specs.declared.decline.Decline.{Decline}
use Rattle.model.specs.declared.decline.Decline.TheVariants.{Circle as circle}
use Rattle.model.specs.Refusals.{number_of, ring_length}
use Rattle.model.specs.Views.{View}
use Rattle.model.specs.Rings.{Circle}
use Rattle.model.specs.Ratios.{thresholds_at, Shows, LeastRatio}
use Rattle.scale.specs.declared.whole.Whole.{Whole}
use Rattle.scale.specs.Wholes.{of_whole}
use Rattle.grading.specs.declared.ratio.Ratio.{Ratio}
use Rattle.grading.specs.Outcomes.{Memory, suffices, Declined, Shown}
use Rattle.paths.specs.Numbers.{BestLoose}

abbrev pub grade_at : List Whole → ℕ → Whole
grade_at grades u = slice_index_or grades u (of_whole (pos 0))

-- the grades of the standing records are the best loose ones at t1 = h and t2 = e; all other places are kept
pub record GradedAt (w : View) (e h : ℕ) (before after : List Whole) : Type 0 where
  pub best : BestLoose w (thresholds_at e h) (λ u. (grade_at after u).value)
  pub others : (u : ℕ) → (u < 64 → w.stands u ≡ false) → grade_at after u ≡ grade_at before u

-- the first k ring bytes show the least ratio, the bytes past them are kept, and the grades are the best at that ratio;
-- where no ring has a mark k is 0, and the ring bytes are kept whole
pub record RatioGiven (w : View) (r : Ratio) (before after : Memory Whole) : Type 0 where
  pub short : r.ring ≤ 64
  pub least : LeastRatio w r.marks r.hops (take r.ring after.ring)
  pub past : (i : ℕ) → r.ring ≤ i → slice_index after.ring i ≡ slice_index before.ring i
  pub ringless : r.marks ≡ 0 → (r.ring ≡ 0) × (after.ring ≡ before.ring)
  pub graded : GradedAt w r.marks r.hops before.grades after.grades

-- the least ratio, or declined by 12 with a circle; what scratch holds is free
abbrev pub RatioOrCircle : View → Memory Whole → Memory Whole → Result Ratio Decline → Type 0
RatioOrCircle w before after (Ok r) = RatioGiven w r before after
RatioOrCircle w before after (Err d) = (number_of d ≡ 12) × Shown (Circle w) (ring_length d) before after

-- a result but for its value
abbrev pub valueless : {X : Type 0} → Result X Decline → Result (Unit {0}) Decline
valueless (Ok x) = Ok tt
valueless (Err d) = Err d

-- the checks in their order: 1, and then 12 or the ratio
abbrev pub RatioFound : View → Memory Whole → Memory Whole → Result Ratio Decline → Type 0
RatioFound w before after r = MatchBool (suffices before) (RatioOrCircle w before after r) (Declined 1 before after (valueless r))

-- ---- on the way
abbrev pub ratio : ℕ → ℕ → ℕ → Ratio
ratio e h k = record { marks = e; hops = h; ring = k }

-- the ratio in hand: numbers up to 64, and the first bytes of xs show it; without hops they are a circle
pub record Held (w : View) (xs : List ℕ) (r : Ratio) : Type 0 where
  pub few_marks : r.marks ≤ 64
  pub few_hops : r.hops ≤ 64
  pub short : r.ring ≤ 64
  pub shown : Shows w r.marks r.hops (take r.ring xs)

-- at the end of the way: grades at the ratio in hand, or a circle in hand and all grades kept
pub record Climbed (w : View) (r : Ratio) (before after : List Whole) (xs : List ℕ) : Type 0 where
  pub held : Held w xs r
  pub grades : MatchBool (nat_lt 0 r.hops) (GradedAt w r.marks r.hops before after) (after ≡ before)

-- a ratio without hops is a circle's, and declined
abbrev pub answer_to : Ratio → Result Ratio Decline
answer_to r = cond (nat_lt 0 r.hops) (Ok r) (Err (circle r.ring))
