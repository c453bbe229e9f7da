use Rattle.std.proofs.Common.{◌≡◌, ℕ, ◌<◌, Bool}
use Rattle.grading.specs.Rows.{Collected}
use Rattle.grading.proofs.collect.collect.Given as goal

abbrev pub invariant-loop-u : goal.invariant-loop-u
invariant-loop-u g l = (f : ℕ → Bool) → ((u : ℕ) (b : Bool) → u < 64 → goal.F-post g l.passes u b → b ≡ f u) → Collected f l.u l.set
