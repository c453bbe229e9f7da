use Rattle.std.proofs.Common.{ℕ, ◌<◌}
use Rattle.reading.specs.Claims.{claimed_view, grade_of}
use Rattle.reading.specs.Tests.{MeetsFrom}
use Rattle.reading.proofs.claim.Claim.is_loose.Given as goal

abbrev pub invariant-loop-u : goal.invariant-loop-u
invariant-loop-u l = (u : ℕ) → u < l.u → MeetsFrom (claimed_view l.self) (grade_of l.self.depths) l.thresholds u
