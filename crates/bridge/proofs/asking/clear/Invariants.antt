use Rattle.std.proofs.Common.{◌≡◌, ℕ, ◌<◌, get_or}
use Rattle.bridge.proofs.asking.clear.Given as goal

abbrev pub invariant-loop-value : goal.invariant-loop-value
invariant-loop-value g l = (u : ℕ) → u < l.value-index → get_or l.values u g.V.Scale.nothing ≡ g.V.Scale.nothing
