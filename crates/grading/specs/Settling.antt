-- What rounds of relaxation come to. Assumes nothing.
use Rattle.std.specs.Prelude.{◌≡◌, ℕ, ◌+◌, ◌<◌, false, List, [], slice_index, slice_index_or}
use Rattle.scale.specs.declared.scale.Scale.{Ghosts}
use Rattle.paths.specs.Steps.{Steps, Meets}
use Rattle.paths.specs.Walks.{Walk}
use Rattle.paths.specs.Descents.{Falls, Leads}

-- p meets every step, is nowhere above nothing, and is at each record the sum of a walk of at most 64 steps
pub record Settled {V : Type 0} (s : Ghosts V) (steps : Steps V) (p : ℕ → V) : Type 0 where
  pub meets : Meets s steps p
  pub low : (u : ℕ) → u < 64 → s.less s.nothing (p u) ≡ false
  pub walk : (u : ℕ) → u < 64 → Walk s steps 64 u (p u)

-- row j of ns says of each record at which the layer j + 1 falls by which step it does
abbrev pub NextRow : {V : Type 0} → Ghosts V → Steps V → List (List ℕ) → ℕ → Type 0
NextRow s steps ns j = Leads s steps j (λ u. slice_index (slice_index_or ns j []) u)

-- the layer k + 1 is below the layer k at u, and ns has the way down
pub record Fallen {V : Type 0} (s : Ghosts V) (steps : Steps V) (ns : List (List ℕ)) (k u : ℕ) : Type 0 where
  pub early : k < 64
  pub record_low : u < 64
  pub falls : Falls s steps k u
  pub nexts : (j : ℕ) → j < k + 1 → NextRow s steps ns j
