use Rattle.std.proofs.Common.{◌≡◌, ℕ, ◌<◌, Bool, get_or}
use Rattle.grading.specs.Rows.{Collected}
use Rattle.grading.proofs.collect.rows.Given as goal

abbrev pub invariant-loop-u : goal.invariant-loop-u
invariant-loop-u g l = (f : ℕ → ℕ → Bool) → ((u v : ℕ) (b : Bool) → u < 64 → v < 64 → goal.F-post g l.passes u v b → b ≡ f u v)
    → (u : ℕ) → u < l.u-counter → Collected (f u) 64 (get_or l.row-items u 0)
