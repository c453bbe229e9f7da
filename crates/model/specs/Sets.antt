-- A word of 64 bits as a set of records. Assumes nothing.
use Rattle.std.specs.Prelude.{◌≡◌, ℕ, ◌/◌, ◌%◌, ◌^◌, ◌<◌, Bool, true, false, cond, ◌&&◌, ◌==◌, nat_lt}

-- whether the word n has the bit k: none above 63
unfoldable pub has : ℕ → ℕ → Bool
has n k = nat_lt k 64 && n / 2 ^ k % 2 == 1

-- the test f, with the answer b at u
unfoldable pub put : (ℕ → Bool) → ℕ → Bool → ℕ → Bool
put f u b x = cond (x == u) b (f x)

-- u is the smallest number of the set
pub record Lowest (set u : ℕ) : Type 0 where
  pub low : u < 64
  pub here : has set u ≡ true
  pub least : (k : ℕ) → k < u → has set k ≡ false

-- u is the smallest number of the set `before`, and `after` is that set without it
pub record Taken (before after u : ℕ) : Type 0 where
  pub lowest : Lowest before u
  pub rest : has after ≡ put (has before) u false
  pub smaller : after < before
