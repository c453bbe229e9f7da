-- A test by its answer, and an attempt by what follows from its grades and its ring. Assumes nothing.
use Rattle.std.proofs.Common.{◌≡◌, ℕ, Bool, true, false, List, Ok, Err, MatchBool, Result, sym, subst}
use Rattle.model.specs.declared.decline.Decline.{Decline}
use Rattle.model.specs.declared.thresholds.Thresholds.{Thresholds}
use Rattle.model.specs.Limits.{within_limits}
use Rattle.model.specs.Refusals.{ring_length}
use Rattle.model.specs.Views.{View}
use Rattle.grading.specs.declared.forbidden.Forbidden.{Forbidden}
use Rattle.grading.specs.Outcomes.{Memory, suffices, Declined, Given, Shown, Attempt, Solved, Outcome}

pub when_true : (b : Bool) (P Q : Type 0) → b ≡ true → P → MatchBool b P Q
when_true b P Q e p = subst (λ (x : Bool). MatchBool x P Q) (sym e) p

-- what follows from the grades, and from the ring, follows of an attempt, and of an outcome
module _ {V : Type 0} (w : View) (A B : (ℕ → V) → Type 0) (none : V) (F G : List ℕ → Type 0) (grades : (g : ℕ → V) → A g → B g) (ring : (xs : List ℕ) → F xs → G xs) (before after : Memory V) where
  given_so : Given w A none before after → Given w B none before after
  given_so given = record { grades = grades _ given.grades; others = given.others; ring = given.ring }

  shown_so : (k : ℕ) → Shown F k before after → Shown G k before after
  shown_so k shown = record { short = shown.short; ring = ring _ shown.ring; past = shown.past; grades = shown.grades }

  pub attempt_so : (r : Result (Unit {0}) Forbidden) → Attempt w A none F before after r → Attempt w B none G before after r
  attempt_so (Ok x) given = given_so given
  attempt_so (Err f) shown = shown_so f.ring shown

  solved_so : (r : Result (Unit {0}) Decline) → Solved w A none F before after r → Solved w B none G before after r
  solved_so (Ok x) given = given_so given
  solved_so (Err d) shown = (shown.0, shown_so (ring_length d) shown.1)

  pub outcome_so : (t : Thresholds) (r : Result (Unit {0}) Decline) → Outcome w t A none F before after r → Outcome w t B none G before after r
  outcome_so t r = go (suffices before) (within_limits t)
    where
      go : (p q : Bool) → MatchBool p (MatchBool q (Solved w A none F before after r) (Declined 11 before after r)) (Declined 1 before after r) → MatchBool p (MatchBool q (Solved w B none G before after r) (Declined 11 before after r)) (Declined 1 before after r)
      go true true o = solved_so r o
      go true false o = o
      go false q o = o
