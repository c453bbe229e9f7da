-- The walk down the layers, and the ring found on it. Assumes nothing.
use Rattle.std.specs.Prelude.{◌≡◌, ℕ, suc, ◌+◌, ◌-◌, ◌%◌, ◌<◌, ◌≤◌, true, List, ◌≢◌, slice_index}
use Rattle.scale.specs.declared.scale.Scale.{Ghosts}
use Rattle.paths.specs.Steps.{Steps}
use Rattle.paths.specs.Levels.{level}
use Rattle.paths.specs.Walks.{total}

-- the layer k + 1 is below the layer k at u
abbrev pub Falls : {V : Type 0} → Ghosts V → Steps V → ℕ → ℕ → Type 0
Falls s steps k u = s.less (level s steps 64 (suc k) u) (level s steps 64 k u) ≡ true

-- the step from a to b by which the layer j + 1 at a is reached from the layer j at b, and falls
abbrev pub Down : {V : Type 0} → Ghosts V → Steps V → ℕ → ℕ → ℕ → Type 0
Down s steps j a b = (steps.has a b ≡ true)
    × (level s steps 64 (suc j) a ≡ s.plus (steps.cost a b) (level s steps 64 j b))
    × Falls s steps j a

-- `next` tells of each node at which the layer j + 1 falls a step by which it does
abbrev pub Leads : {V : Type 0} → Ghosts V → Steps V → ℕ → (ℕ → ℕ) → Type 0
Leads s steps j next = (u : ℕ) → u < 64 → Falls s steps j u → (next u < 64) × Down s steps j u (next u)

-- the places of ys from t up to top are the nodes of a walk down from the layer top to the layer t; and the layer t fell too, where one is before it
pub record Walked {V : Type 0} (s : Ghosts V) (steps : Steps V) (ys : List ℕ) (top t : ℕ) : Type 0 where
  pub under : t ≤ top
  pub nodes : (j : ℕ) → t ≤ j → j ≤ top → slice_index ys j < 64
  pub falls : (k : ℕ) → t ≡ suc k → Falls s steps k (slice_index ys t)
  pub down : (j : ℕ) → t ≤ j → j < top → Down s steps j (slice_index ys (suc j)) (slice_index ys j)

-- from the place high of ys down to the place low: one node at both ends, and no two alike below the place high
pub record Repeat (ys : List ℕ) (low high : ℕ) : Type 0 where
  pub order : low < high
  pub within : high ≤ 64
  pub closed : slice_index ys high ≡ slice_index ys low
  pub apart : (i j : ℕ) → i < j → j < high → slice_index ys i ≢ slice_index ys j

-- such a part of a walk whose steps sum up to less than nothing
pub record Loop {V : Type 0} (s : Ghosts V) (steps : Steps V) (ys : List ℕ) (low high : ℕ) : Type 0 where
  pub again : Repeat ys low high
  pub nodes : (j : ℕ) → low ≤ j → j ≤ high → slice_index ys j < 64
  pub has : (j : ℕ) → low ≤ j → j < high → steps.has (slice_index ys (suc j)) (slice_index ys j) ≡ true
  pub below : s.less (total s (λ j. steps.cost (slice_index ys (suc (low + j))) (slice_index ys (low + j))) (high - low)) s.nothing ≡ true

-- the front of xs has the nodes of ys from the place high down to the one above low, turned so that its smallest number comes first
pub record Written (ys : List ℕ) (low high : ℕ) (xs : List ℕ) : Type 0 where
  pub start : ℕ
  pub above : low < start
  pub within : start ≤ high
  pub least : (j : ℕ) → low < j → j ≤ high → slice_index ys start ≤ slice_index ys j
  pub places : (i : ℕ) → i < high - low → slice_index xs i ≡ slice_index ys (high - (i + (high - start)) % (high - low))
