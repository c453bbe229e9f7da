-- From what was found in the memory to what is handed on in numbers.
use Rattle.std.proofs.Common.{◌≡◌, ℕ, ◌<◌, inl, inr, List, ℤ, pos, get_or, refl, ap, subst, Ok, Err, Result}
use Rattle.model.specs.declared.decline.Decline.{Decline}
use Rattle.model.specs.declared.thresholds.Thresholds.{Thresholds}
use Rattle.model.specs.Views.{View}
use Rattle.sheet.specs.declared.meaning.Sheet.{Ghosts}
use Rattle.sheet.specs.Meanings.{Meaning, empty}
use Rattle.sheet.specs.Views.{view_in, view_of, meaning_of}
use Rattle.paths.specs.Numbers.{BestStrict, ForbidsStrictly}
use Rattle.bridge.specs.declared.answer.Answer.{Answer}
use Rattle.bridge.specs.Filled.{filling, filled_view}
use Rattle.bridge.specs.Answers.{Asking, Answered, Handed, Asked, noted}
use Rattle.bridge.specs.Questions.{graded_told, pair_told, asking_grades}

module _ {V : Type 0} (w : View) (none : V) (tells : V → ℤ → Type 0) (naught : (z : ℤ) → tells none z → z ≡ pos 0) (q : Asking V) (after : List V) (numbers : List ℤ) where
  pub handed : ((u : ℕ) → u < 64 → tells (get_or after u none) (get_or numbers u (pos 0))) → (given : Result (ℕ × ℕ) Decline) → Answered w none q after given
      → Handed w tells q (noted numbers given)
  handed told (Ok ratio) found = inl (record {
    number = refl;
    grades = λ u. get_or after u none;
    right = found.grades;
    told = λ u small stands. told u small;
    others = λ u small absent. nothing u small (found.others u small absent);
  })
    where
      nothing : (u : ℕ) → u < 64 → get_or after u none ≡ none → get_or numbers u (pos 0) ≡ pos 0
      nothing u small e = naught _ (subst (λ (x : V). tells x (get_or numbers u (pos 0))) e (told u small))
  handed told (Err d) found = inr (record {
    number = found.declined;
    marks = refl;
    hops = refl;
    grades = λ u small. naught _ (subst (λ (x : V). tells x (get_or numbers u (pos 0))) (found.places u small) (told u small));
  })

-- the pairs of a strict grading are within the extent of grades, and so are told as they are
pub told_exactly : (w : View) (t : Thresholds) (a : Answer) → Handed w graded_told (asking_grades t (BestStrict w t) (ForbidsStrictly w t)) a
    → Handed w pair_told (asking_grades t (BestStrict w t) (ForbidsStrictly w t)) a
told_exactly w t a (inl taken) = inl (record {
  number = taken.number;
  grades = taken.grades;
  right = taken.right;
  told = λ u small stands. taken.told u small stands (taken.right.grades.greatest.extent u small stands);
  others = taken.others;
})
told_exactly w t a (inr declined) = inr declined

-- what is handed on of a sheet that was filled, by what it meant when it was new
pub of_filled : {S : Type 0} (g : Ghosts S) (new sheet : S) (capacity : ℕ) (records : List ℕ) (pairs : List (List ℕ)) (times : ℕ) (hands : View → Answer → Type 0) (before after : Answer)
    → meaning_of g sheet ≡ filling (meaning_of g new) records pairs → meaning_of g new ≡ empty capacity
    → Asked times (hands (view_of g sheet)) before after → Asked times (hands (filled_view capacity records pairs)) before after
of_filled g new sheet capacity records pairs times hands before after filled e =
    let P : Meaning → Type 0 = λ m. Asked times (hands (view_in m)) before after in
    λ asked. subst P (ap (λ (m : Meaning). filling m records pairs) e) (subst P filled asked)
