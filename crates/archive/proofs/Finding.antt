-- From the outcome of a call for the least ratio to its answer. Assumes nothing.
use Rattle.std.proofs.Common.{◌≡◌, ℕ, ◌≤◌, Bool, true, take, Ok, Err, MatchBool, Result, ℤ, sym, subst}
use Rattle.arrayvec.specs.ArrayVec.{ArrayVec}
use Rattle.model.specs.declared.decline.Decline.{Decline}
use Rattle.model.specs.Refusals.{ring_length}
use Rattle.model.specs.Rings.{Circle}
use Rattle.model.specs.Ratios.{LeastRatio}
use Rattle.model.specs.Views.{View}
use Rattle.scale.specs.declared.whole.Whole.{Whole}
use Rattle.grading.specs.declared.ratio.Ratio.{Ratio}
use Rattle.grading.specs.Outcomes.{Memory, suffices, Declined}
use Rattle.grading.specs.Ratios.{grade_at, valueless, RatioOrCircle, RatioFound}
use Rattle.archive.specs.declared.answer.Answer.{Answer}
use Rattle.archive.specs.declared.answer.Answer.TheVariants.{Ratio as Ratio-answer}
use Rattle.archive.specs.declared.answer.Graded.{Graded}
use Rattle.archive.specs.Entries.{entries_below}
use Rattle.archive.specs.Told.{Refused, plain, forced, RatioTold, circled, found}

module _ (w : View) (before after : Memory Whole) (room : suffices before ≡ true) where
  -- with enough memory: the ratio, or a circle
  pub enough : (r : Result Ratio Decline) → RatioFound w before after r → RatioOrCircle w before after r
  enough r o = subst (λ (b : Bool). MatchBool b (RatioOrCircle w before after r) (Declined 1 before after (valueless r))) room o

  pub ratio_told : (r : Ratio) (ring : ArrayVec ℕ) (v : ArrayVec (Graded ℤ)) → RatioFound w before after (Ok r)
      → ring.items ≡ take r.ring after.ring → v.items ≡ entries_below w (λ u. (grade_at after.grades u).value) 64
      → RatioTold w (Ratio-answer r.marks r.hops ring v)
  ratio_told r ring v o shown list =
      let given = enough (Ok r) o in
      found r.marks r.hops ring v (λ u. (grade_at after.grades u).value) (subst (LeastRatio w r.marks r.hops) (sym shown) given.least) given.graded.best list

  pub circle_short : (d : Decline) → RatioFound w before after (Err d) → ring_length d ≤ 64
  circle_short d o = (enough (Err d) o).1.short

  pub circle_refused : (d : Decline) (x : Answer) → RatioFound w before after (Err d) → Refused d (take (ring_length d) after.ring) x → RatioTold w x
  circle_refused d x o (plain no-circle no-ring) = absurd (no-circle (enough (Err d) o).0)
  circle_refused d x o (forced v is e long) = circled d v (enough (Err d) o).0 long (subst (Circle w) (sym e) (enough (Err d) o).1.ring)
