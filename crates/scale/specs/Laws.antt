-- The laws of a scale. Assumes nothing.
use Rattle.std.specs.Prelude.{◌≡◌, ℕ, suc, ◌+◌, ◌≤◌, Bool, true, false}
use Rattle.model.specs.declared.thresholds.Thresholds.{Thresholds}
use Rattle.model.specs.Limits.{within_limits}

-- An ordered commutative sum. The laws speak of the exact sum, `plus`; the machine's sum is that one
-- wherever the extents of its two parts add up to at most 4,096 steps.
pub record Laws {V : Type 0} (nothing : V) (plus sum : V → V → V) (less : V → V → Bool) (mark hop : Thresholds → V) (extent : V → ℕ → Type 0) : Type 0 where
  pub comm : (a b : V) → plus a b ≡ plus b a
  pub assoc : (a b c : V) → plus (plus a b) c ≡ plus a (plus b c)
  pub neutral : (a : V) → plus a nothing ≡ a
  pub irrefl : (a : V) → less a a ≡ false
  pub trans : (a b c : V) → less a b ≡ true → less b c ≡ true → less a c ≡ true
  pub total : (a b : V) → less a b ≡ false → less b a ≡ false → a ≡ b
  pub mono : (a b c : V) → less a b ≡ true → less (plus a c) (plus b c) ≡ true
  pub nothing_extent : extent nothing 0
  pub mark_extent : (t : Thresholds) → within_limits t ≡ true → extent (mark t) 1
  pub hop_extent : (t : Thresholds) → within_limits t ≡ true → extent (hop t) 1
  pub more_extent : (a : V) (k : ℕ) → extent a k → extent a (suc k)
  pub sum_extent : (a b : V) (j k : ℕ) → extent a j → extent b k → j + k ≤ 4096 → extent (plus a b) (j + k)
  pub exact : (a b : V) (j k : ℕ) → extent a j → extent b k → j + k ≤ 4096 → sum a b ≡ plus a b
