use Rattle.std.proofs.Common.{◌≡◌, ℕ, ◌+◌, ◌<◌, ◌≤◌, Bool}
use Rattle.model.specs.Rings.{bit}
use Rattle.release.proofs.count.count.Given as goal

abbrev pub invariant-loop-u : goal.invariant-loop-u
invariant-loop-u g l = record {
  few : l.count ≤ l.u;
  counted : (n : ℕ → ℕ) → n 0 ≡ 0 → ((u : ℕ) (b : Bool) → u < 64 → goal.F-post g l.passes u b → n (u + 1) ≡ n u + bit b) → l.count ≡ n l.u;
}
