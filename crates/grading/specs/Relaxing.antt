-- What one round of the relaxation makes. Assumes nothing.
use Rattle.std.specs.Prelude.{◌≡◌, ℕ, ◌<◌, Bool, true, false, List, ◌⊎◌, slice_index}
use Rattle.model.specs.Sets.{has}
use Rattle.scale.specs.declared.scale.Scale.{Ghosts}
use Rattle.paths.specs.Steps.{Steps}
use Rattle.grading.specs.Problems.{at}
use Rattle.grading.specs.Rising.{value_at}

-- no value rises, and where one changes, `by` holds of the record, what it is now reached by, and its value
pub record Lowered {V : Type 0} (s : Ghosts V) (by : ℕ → ℕ → V → Type 0) (before after : List V) (nexts nexts' : List ℕ) : Type 0 where
  pub at_most : (u : ℕ) → u < 64 → s.less (at s before u) (at s after u) ≡ false
  pub reached : (u : ℕ) → u < 64 → ((at s after u ≡ at s before u) × (slice_index nexts' u ≡ slice_index nexts u)) ⊎ by u (slice_index nexts' u) (at s after u)

-- a record of the set has the value, and is reached by v
abbrev pub by_value : {V : Type 0} → ℕ → V → ℕ → ℕ → ℕ → V → Type 0
by_value set value v u w z = (has set u ≡ true) × (w ≡ v) × (z ≡ value)

-- a step of one kind leads from u to w, and z is the sum of what it costs and the value that w had
abbrev pub by_steps : {V : Type 0} → Ghosts V → V → List ℕ → List V → ℕ → ℕ → V → Type 0
by_steps s cost rows from u w z = (w < 64) × (has (slice_index rows w) u ≡ true) × (z ≡ s.plus cost (at s from w))

-- no value is above what a step of one kind gives, to one of the first n records of the order
abbrev pub Below : {V : Type 0} → Ghosts V → V → List ℕ → List V → List ℕ → ℕ → List V → Type 0
Below s cost rows from order n to = (i u : ℕ) → i < n → u < 64 → has (slice_index rows (slice_index order i)) u ≡ true → s.less (s.plus cost (value_at s from order i)) (at s to u) ≡ false

-- p meets the steps that do not lead to a record of the set
abbrev pub Quiet : {V : Type 0} → Ghosts V → Steps V → ℕ → (ℕ → V) → Type 0
Quiet s steps set p = (u v : ℕ) → u < 64 → v < 64 → steps.has u v ≡ true → has set v ≡ false → s.less (s.plus (steps.cost u v) (p v)) (p u) ≡ false

-- all steps are relaxed: each value is at most its own before and what each step gives, and it is its own before or what the step to `next` gives
pub record Rounded {V : Type 0} (s : Ghosts V) (steps : Steps V) (prev : ℕ → V) (to : List V) (next : List ℕ) : Type 0 where
  pub at_most : (u : ℕ) → u < 64 → s.less (prev u) (at s to u) ≡ false
  pub below : (u v : ℕ) → u < 64 → v < 64 → steps.has u v ≡ true → s.less (s.plus (steps.cost u v) (prev v)) (at s to u) ≡ false
  pub reached : (u : ℕ) → u < 64 → (at s to u ≡ prev u)
      ⊎ ((slice_index next u < 64) × (steps.has u (slice_index next u) ≡ true) × (at s to u ≡ s.plus (steps.cost u (slice_index next u)) (prev (slice_index next u))))

-- whether `new` is below `old` at u
abbrev pub falls_at : {V : Type 0} → Ghosts V → List V → List V → ℕ → Bool
falls_at s old new u = s.less (at s new u) (at s old u)
