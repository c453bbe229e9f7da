-- Words and rows of words, by the tests that their bits answer. Assumes nothing.
use Rattle.std.specs.Prelude.{◌≡◌, ℕ, ◌<◌, Bool, true, false, not, ◌&&◌, List, length, ◌==◌, nat_lt, slice_index}
use Rattle.model.specs.Sets.{has}

-- the bits of the word below n are those of the test f, and no other bit is set
abbrev pub Collected : (ℕ → Bool) → ℕ → ℕ → Type 0
Collected f n word = (k : ℕ) → has word k ≡ (nat_lt k n && f k)

-- two different numbers, and both are in the set
abbrev pub both_in : ℕ → ℕ → ℕ → Bool
both_in set u v = has set u && (has set v && not (u == v))

-- no row has a bit from one of the two to the other
abbrev pub unmarked_in : List ℕ → ℕ → ℕ → Bool
unmarked_in rows u v = not (has (slice_index rows v) u) && not (has (slice_index rows u) v)

-- two different numbers of the set, and no row has a bit from one to the other
abbrev pub unmarked_from : ℕ → List ℕ → ℕ → ℕ → Bool
unmarked_from set rows u v = both_in set u v && unmarked_in rows u v

-- 64 rows, and row u collects the test at u
pub record Rows (f : ℕ → ℕ → Bool) (rows : List ℕ) : Type 0 where
  pub long : length rows ≡ 64
  pub each : (u : ℕ) → u < 64 → Collected (f u) 64 (slice_index rows u)

-- no bit is set in both of two tables of rows
abbrev pub Apart : List ℕ → List ℕ → Type 0
Apart marks hops = (u v : ℕ) → has (slice_index hops v) u ≡ true → has (slice_index marks v) u ≡ false
