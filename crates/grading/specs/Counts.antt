-- Counts of the steps round a ring. Assumes nothing.
use Rattle.std.specs.Prelude.{◌≡◌, ℕ, List}
use Rattle.model.specs.Views.{View}
use Rattle.model.specs.Rings.{marks_in, hops_in, round}
use Rattle.grading.specs.declared.count.Tally.{Tally}

-- the marks, and the hops, among the first n steps round xs
pub record Counted (w : View) (xs : List ℕ) (n : ℕ) (t : Tally) : Type 0 where
  pub marks : t.marks ≡ marks_in w (round xs) n
  pub hops : t.hops ≡ hops_in w (round xs) n
