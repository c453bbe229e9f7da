-- The steps round a ring, counted one after another. Assumes nothing.
use Rattle.std.proofs.Common.{◌≡◌, ℕ, suc, ◌+◌, ◌%◌, ◌<◌, ◌≤◌, Bool, true, false, ◌||◌, Option, Some, None, List, length, get_or, sym, refl, ap, ap₂, ◌∙◌, below_more, add-one, arith}
use Rattle.model.specs.declared.step.Step.{Step}
use Rattle.model.specs.declared.step.Step.TheVariants.{Mark, Hop}
use Rattle.model.specs.Views.{View, step, marks, hops, is_mark, is_hop, is_step}
use Rattle.model.specs.Rings.{bit, round, marks_in, hops_in}
use Rattle.model.proofs.Sums.{sum_none, sum_more}
use Rattle.model.proofs.Rounds.{round_low}
use Rattle.reading.specs.declared.ring.Tally.{Tally}
use Rattle.reading.specs.Tests.{AllSteps, StepsCounted}

-- so far: the first n steps
pub record CountedTo (w : View) (xs : List ℕ) (n : ℕ) (t : Tally) : Type 0 where
  pub steps : (i : ℕ) → i < n → is_step w (round xs i) (round xs (suc i)) ≡ true
  pub marks : t.marks ≡ marks_in w (round xs) n
  pub hops : t.hops ≡ hops_in w (round xs) n
  pub few_marks : t.marks ≤ n
  pub few_hops : t.hops ≤ n

pub counted_none : (w : View) (xs : List ℕ) → CountedTo w xs 0 (record { marks = 0; hops = 0 })
counted_none w xs = record { steps = λ i l. absurd (omega arith); marks = sym (sum_none _); hops = sym (sum_none _); few_marks = omega arith; few_hops = omega arith }

at_most_one : (b : Bool) (x y n : ℕ) → y ≡ x + bit b → x ≤ n → y ≤ n + 1
at_most_one true x y n e l = omega arith
at_most_one false x y n e l = omega arith

-- the step at the place i, as the code finds it
found_at : (w : View) (xs : List ℕ) (i : ℕ) (s : Option Step) → i < length xs → s ≡ step w (get_or xs i 0) (get_or xs ((i + 1) % length xs) 0)
    → s ≡ step w (round xs i) (round xs (suc i))
found_at w xs i s l e = e ∙ ap₂ (step w) (sym (round_low xs i l)) (ap (λ (p : ℕ). get_or xs (p % length xs) 0) (add-one i))

-- One step more: it is a mark or a hop, and the count of its kind, and the sum of the tests for its kind, both go up by one.
pub counted_more : (w : View) (xs : List ℕ) (i : ℕ) (s : Step) (t all : Tally) → i < length xs
    → Some s ≡ step w (get_or xs i 0) (get_or xs ((i + 1) % length xs) 0)
    → all.marks ≡ t.marks + bit (marks (Some s)) → all.hops ≡ t.hops + bit (hops (Some s)) → CountedTo w xs i t → CountedTo w xs (i + 1) all
counted_more w xs i s t all l e em eh c =
    let found = found_at w xs i (Some s) l e in
    record {
      steps = below_more _ _ c.steps (ap (λ (o : Option Step). marks o || hops o) (sym found) ∙ some s);
      marks = em ∙ ap₂ (λ (a b : ℕ). a + b) c.marks (ap (λ (o : Option Step). bit (marks o)) found) ∙ sym (sum_more (λ j. bit (is_mark w (round xs j) (round xs (suc j)))) i);
      hops = eh ∙ ap₂ (λ (a b : ℕ). a + b) c.hops (ap (λ (o : Option Step). bit (hops o)) found) ∙ sym (sum_more (λ j. bit (is_hop w (round xs j) (round xs (suc j)))) i);
      few_marks = at_most_one (marks (Some s)) t.marks all.marks i em c.few_marks;
      few_hops = at_most_one (hops (Some s)) t.hops all.hops i eh c.few_hops;
    }
  where
    some : (k : Step) → (marks (Some k) || hops (Some k)) ≡ true
    some Mark = refl
    some Hop = refl

pub no_step : (w : View) (xs : List ℕ) (i : ℕ) → i < length xs → None ≡ step w (get_or xs i 0) (get_or xs ((i + 1) % length xs) 0) → AllSteps w xs → ⊥
no_step w xs i l e all =
    let found = found_at w xs i None l e in
    let is = ap (λ (o : Option Step). marks o || hops o) found ∙ all i l in
    cc

pub counted_all : (w : View) (xs : List ℕ) (t : Tally) → CountedTo w xs (length xs) t → StepsCounted w xs t
counted_all w xs t c = record { steps = c.steps; marks = sym c.marks; hops = sym c.hops }
