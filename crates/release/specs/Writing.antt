-- What writing a release answers, and what it leaves in the memory and the output bytes that were brought. Assumes nothing.
use Rattle.std.specs.Prelude.{◌≡◌, ℕ, ◌<◌, ◌≤◌, List, ◌++◌, length, take, drop, Ok, Err, MatchBool, Result}
use Rattle.model.specs.declared.decline.Decline.{Decline}
use Rattle.model.specs.Refusals.{number_of, ring_length}
use Rattle.model.specs.Rings.{Circle}
use Rattle.model.specs.Views.{View}
use Rattle.scale.specs.declared.whole.Whole.{Whole}
use Rattle.grading.specs.declared.ratio.Ratio.{Ratio}
use Rattle.grading.specs.Outcomes.{Memory, suffices, Declined, Shown}
use Rattle.grading.specs.Ratios.{RatioGiven, valueless}
use Rattle.form.specs.Laid.{laid_out}
use Rattle.form.specs.Sections.{finding}
use Rattle.release.specs.Grades.{grade_number}

-- the release of what stands in w, by the finding r that the least ratio leaves in memory: its records and marks, the depths of its grades, its ring
abbrev pub release_of : View → Memory Whole → Ratio → List ℕ
release_of w m r = laid_out (finding w (grade_number m.grades) (take r.ring m.ring))

-- bytes put at the front of the output, with their number as the answer; or declined by 1 where it is too short, and kept whole
pub data Puts (bytes before after : List ℕ) : Result ℕ Decline → Type 0 where
  put : (n : ℕ) → n ≡ length bytes → n ≤ length before → after ≡ bytes ++ drop n before → Puts bytes before after (Ok n)
  short : (d : Decline) → number_of d ≡ 1 → length before < length bytes → after ≡ before → Puts bytes before after (Err d)

-- the release of the least ratio's finding is put out; or a circle stands, and the output is kept whole
pub data Writes (w : View) (before after : Memory Whole) (out_before out_after : List ℕ) : Result ℕ Decline → Type 0 where
  found : (r : Ratio) {a : Result ℕ Decline} → RatioGiven w r before after → Puts (release_of w after r) out_before out_after a → Writes w before after out_before out_after a
  circled : (d : Decline) → number_of d ≡ 12 → Shown (Circle w) (ring_length d) before after → out_after ≡ out_before → Writes w before after out_before out_after (Err d)

-- declined by 1 for the memory, with all of it and the output kept
pub record MemoryRefused (before after : Memory Whole) (out_before out_after : List ℕ) (a : Result ℕ Decline) : Type 0 where
  pub memory : Declined 1 before after (valueless a)
  pub output : out_after ≡ out_before

-- the checks in their order: 1 for the memory, 12, and then 1 for the output
abbrev pub Released : View → Memory Whole → Memory Whole → List ℕ → List ℕ → Result ℕ Decline → Type 0
Released w before after out_before out_after a = MatchBool (suffices before) (Writes w before after out_before out_after a) (MemoryRefused before after out_before out_after a)
