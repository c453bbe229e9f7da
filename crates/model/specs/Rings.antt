-- Rings, and their marks and hops. Assumes nothing.
use Rattle.std.specs.Prelude.{◌≡◌, ℕ, zero, suc, ◌+◌, ◌%◌, ◌<◌, ◌≤◌, Bool, true, false, List, length, ◌≢◌, slice_index}
use Rattle.model.specs.Views.{View, is_mark, is_hop, is_step}

-- f 0 + .. + f (n - 1)
unfoldable pub sum_to : (ℕ → ℕ) → ℕ → ℕ
sum_to f zero = 0
sum_to f (suc n) = sum_to f n + f n

abbrev pub bit : Bool → ℕ
bit true = 1
bit false = 0

-- the marks, and the hops, among the first n steps of a walk y
abbrev pub marks_in : View → (ℕ → ℕ) → ℕ → ℕ
marks_in w y n = sum_to (λ i. bit (is_mark w (y i) (y (suc i)))) n

abbrev pub hops_in : View → (ℕ → ℕ) → ℕ → ℕ
hops_in w y n = sum_to (λ i. bit (is_hop w (y i) (y (suc i)))) n

-- xs read round and round: after the last record comes the first
abbrev pub round : List ℕ → ℕ → ℕ
round xs i = slice_index xs (i % length xs)

-- e and h of a ring: its marks, and its hops, the closing step too
abbrev pub marks_of : View → List ℕ → ℕ
marks_of w xs = marks_in w (round xs) (length xs)

abbrev pub hops_of : View → List ℕ → ℕ
hops_of w xs = hops_in w (round xs) (length xs)

-- at least two records, all different, that all stand; from each a mark or a hop leads to the next, and from the last to the first
pub record Cycle (w : View) (xs : List ℕ) : Type 0 where
  pub long : 2 ≤ length xs
  pub below : (i : ℕ) → i < length xs → slice_index xs i < 64
  pub stand : (i : ℕ) → i < length xs → w.stands (slice_index xs i) ≡ true
  pub apart : (i j : ℕ) → i < j → j < length xs → slice_index xs i ≢ slice_index xs j
  pub steps : (i : ℕ) → i < length xs → is_step w (round xs i) (round xs (suc i)) ≡ true

-- a ring is listed from its smallest number
pub record Ring (w : View) (xs : List ℕ) : Type 0 where
  pub cycle : Cycle w xs
  pub first : (i : ℕ) → i < length xs → slice_index xs 0 ≤ slice_index xs i

-- a circle is a ring of marks alone
pub record Circle (w : View) (xs : List ℕ) : Type 0 where
  pub ring : Ring w xs
  pub hopless : hops_of w xs ≡ 0

-- ys is xs, read from the place r on
pub record Turned (r : ℕ) (xs ys : List ℕ) : Type 0 where
  pub long : length ys ≡ length xs
  pub places : (i : ℕ) → i < length xs → slice_index ys i ≡ round xs (i + r)
