-- A turned sheet has the laws of a sheet: its marks and its counts are those below, with the two records exchanged. Assumes nothing.
use Rattle.std.specs.Prelude.{◌≡◌, ℕ, Bool}
use Rattle.std.proofs.Common.{sym, arith}
use Rattle.model.specs.Rings.{bit}
use Rattle.model.proofs.Sums.{sum_swap}
use Rattle.sheet.specs.Meanings.{Meaning, Lawful, pairs}
use Rattle.layers.specs.Turns.{turned, turned_meaning}

pairs_turn : (m : ℕ → ℕ → Bool) → pairs (turned m) ≡ pairs m
unfolding pairs
pairs_turn m = sum_swap 64 64 (λ u v. bit (m v u))

pub turned_lawful : {m : Meaning} → Lawful m → Lawful (turned_meaning m)
turned_lawful {m = m} l = record {
  beyond = l.beyond;
  ends = λ u v h. let e = l.ends v u h in (e.1, e.0, λ i. e.2 (sym i));
  counted = omega (arith, pairs_turn m.marks, l.counted);
  room = l.room;
  least = l.least;
  most = l.most;
}
