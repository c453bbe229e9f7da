-- What a question leaves as grades, and what is handed on of it in numbers. Assumes nothing.
use Rattle.std.specs.Prelude.{◌≡◌, ℕ, ◌<◌, true, false, ◌⊎◌, List, ℤ, pos, Ok, Err, Result, slice_index_or}
use Rattle.model.specs.declared.decline.Decline.{Decline}
use Rattle.model.specs.Refusals.{number_of}
use Rattle.model.specs.Views.{View}
use Rattle.bridge.specs.declared.answer.Answer.{Answer}

-- which marks, hops and grades answer a question, and by which numbers it is declined
pub record Asking (V : Type 0) : Type 1 where
  pub right : ℕ → ℕ → (ℕ → V) → Type 0
  pub declines : ℕ → Type 0

-- ---- in the memory, where nothing was before
-- right grades at the standing records, and nothing at all other places
pub record Found {V : Type 0} (w : View) (none : V) (fits : (ℕ → V) → Type 0) (after : List V) : Type 0 where
  pub grades : fits (λ u. slice_index_or after u none)
  pub others : (u : ℕ) → u < 64 → w.stands u ≡ false → slice_index_or after u none ≡ none

-- declined by a right number, and nothing at all places
pub record Nothing {V : Type 0} (none : V) (refused : Type 0) (after : List V) : Type 0 where
  pub declined : refused
  pub places : (u : ℕ) → u < 64 → slice_index_or after u none ≡ none

abbrev pub Answered : {V : Type 0} → View → V → Asking V → List V → Result (ℕ × ℕ) Decline → Type 0
Answered w none q after (Ok ratio) = Found w none (q.right ratio.0 ratio.1) after
Answered w none q after (Err d) = Nothing none (q.declines (number_of d)) after

-- ---- in numbers
abbrev pub grade_of : Answer → ℕ → ℤ
grade_of a u = slice_index_or a.grades u (pos 0)

-- the number 0: marks, hops and grades are right, each standing record has the number of its grade, and all other places have 0
pub record Taken {V : Type 0} (w : View) (tells : V → ℤ → Type 0) (fits : ℕ → ℕ → (ℕ → V) → Type 0) (a : Answer) : Type 0 where
  pub number : a.number ≡ 0
  pub grades : ℕ → V
  pub right : fits a.marks a.hops grades
  pub told : (u : ℕ) → u < 64 → w.stands u ≡ true → tells (grades u) (grade_of a u)
  pub others : (u : ℕ) → u < 64 → w.stands u ≡ false → grade_of a u ≡ pos 0

-- the number of a right refusal, and 0 for all else
pub record Declined (declines : ℕ → Type 0) (a : Answer) : Type 0 where
  pub number : declines a.number
  pub marks : a.marks ≡ 0
  pub hops : a.hops ≡ 0
  pub grades : (u : ℕ) → u < 64 → grade_of a u ≡ pos 0

abbrev pub Handed : {V : Type 0} → View → (V → ℤ → Type 0) → Asking V → Answer → Type 0
Handed w tells q a = Taken w tells q.right a ⊎ Declined q.declines a

-- asked at least once; else what was there is kept
pub record Asked (times : ℕ) (handed : Answer → Type 0) (before after : Answer) : Type 0 where
  pub once : 0 < times → handed after
  pub never : times ≡ 0 → after ≡ before

-- an answer by what was found, beside grades in numbers
abbrev pub noted : List ℤ → Result (ℕ × ℕ) Decline → Answer
noted grades (Ok ratio) = record { grades = grades; marks = ratio.0; hops = ratio.1; number = 0 }
noted grades (Err d) = record { grades = grades; marks = 0; hops = 0; number = number_of d }
