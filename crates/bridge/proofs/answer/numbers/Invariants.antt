use Rattle.std.proofs.Common.{◌≡◌, ℕ, ◌<◌, get_or, pos, length}
use Rattle.bridge.proofs.answer.numbers.Given as goal

abbrev pub invariant-loop-u : goal.invariant-loop-u
invariant-loop-u g l = record {
  long : length l.number-items ≡ 64;
  told : (u : ℕ) → u < l.u → g.V.Told.tells (get_or l.grades u g.V.Scale.nothing) (get_or l.number-items u (pos 0));
}
