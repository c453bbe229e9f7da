use Rattle.std.proofs.Common.{◌≡◌, ℕ, ◌<◌, get_or}
use Rattle.grading.specs.Rings.{Noted}
use Rattle.grading.proofs.descent.find_repeat.Given as goal

abbrev pub invariant-loop-high : goal.invariant-loop-high
invariant-loop-high l = ((i j : ℕ) → i < j → j < l.high → get_or l.walk i 0 ≡ get_or l.walk j 0 → ⊥) × Noted l.walk l.high l.seen
