-- Places of a walk: records not seen before, the smallest, and the ring as it is written. Assumes nothing.
use Rattle.std.specs.Prelude.{◌≡◌, ℕ, ◌+◌, ◌-◌, ◌%◌, ◌<◌, ◌≤◌, true, List, ◌≢◌, slice_index}
use Rattle.model.specs.Sets.{has}

-- none of the first n places has the record at the place high
abbrev pub Unseen : List ℕ → ℕ → ℕ → Type 0
Unseen ys high n = (i : ℕ) → i < n → slice_index ys i ≢ slice_index ys high

-- the set has the record of each of the first n places
abbrev pub Noted : List ℕ → ℕ → ℕ → Type 0
Noted ys n set = (i : ℕ) → i < n → has set (slice_index ys i) ≡ true

-- of the places above low and up to high, r has the smallest number
pub record Smallest (ys : List ℕ) (low high r : ℕ) : Type 0 where
  pub above : low < r
  pub within : r ≤ high
  pub least : (j : ℕ) → low < j → j ≤ high → slice_index ys r ≤ slice_index ys j

-- the first n places of xs have the numbers of ys down from the place high, round and round after len of them, from the turn on
abbrev pub Placed : List ℕ → ℕ → ℕ → ℕ → ℕ → List ℕ → Type 0
Placed ys high len turn n xs = (i : ℕ) → i < n → slice_index xs i ≡ slice_index ys (high - (i + turn) % len)
