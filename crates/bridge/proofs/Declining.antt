-- From the outcome of a grading call that is declined to what the question promises of it.
use Rattle.std.proofs.Common.{◌≡◌, ℕ, ◌<◌, ◌⊎◌, inl, inr, Bool, true, false, List, get_or, refl, ap, subst, ◌∙◌, Err, MatchBool}
use Rattle.model.specs.declared.decline.Decline.{Decline}
use Rattle.model.specs.declared.thresholds.Thresholds.{Thresholds}
use Rattle.model.specs.Limits.{within_limits}
use Rattle.model.specs.Refusals.{number_of}
use Rattle.model.specs.Views.{View}
use Rattle.grading.specs.Outcomes.{Memory, suffices, Declined, Solved, Outcome}
use Rattle.bridge.specs.Answers.{Nothing}
use Rattle.bridge.specs.Questions.{Outside, Forbidden}

module _ {V : Type 0} (w : View) (t : Thresholds) (asked : (ℕ → V) → Type 0) (none : V) (forbids : List ℕ → Type 0) (before after : Memory V) (d : Decline) where
  pub grading_declined : suffices before ≡ true → ((u : ℕ) → u < 64 → get_or before.grades u none ≡ none) → Outcome w t asked none forbids before after (Err d)
      → Nothing none (Outside t (number_of d) ⊎ Forbidden t forbids (number_of d)) after.grades
  grading_declined room cleared o =
      go (within_limits t) refl (subst (λ (b : Bool). MatchBool b (MatchBool (within_limits t) (Solved w asked none forbids before after (Err d)) (Declined 11 before after (Err d))) (Declined 1 before after (Err d))) room o)
    where
      kept : after.grades ≡ before.grades → (u : ℕ) → u < 64 → get_or after.grades u none ≡ none
      kept e u small = ap (λ (gs : List V). get_or gs u none) e ∙ cleared u small

      go : (b : Bool) → within_limits t ≡ b → MatchBool b (Solved w asked none forbids before after (Err d)) (Declined 11 before after (Err d))
          → Nothing none (Outside t (number_of d) ⊎ Forbidden t forbids (number_of d)) after.grades
      go true l s = record { declined = inr (record { number = s.0; limits = l; ring = _; forbidden = s.1.ring }); places = kept s.1.grades }
      go false l s = record { declined = inl (record { number = s.answer; limits = l }); places = kept (ap (λ (m : Memory V). m.grades) s.kept) }
