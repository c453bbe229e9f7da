-- The least sums of walks of at most k steps, layer by layer. Assumes nothing.
use Rattle.std.specs.Prelude.{ℕ, zero, suc, Bool, cond, ◌&&◌}
use Rattle.scale.specs.declared.scale.Scale.{Ghosts}
use Rattle.paths.specs.Steps.{Steps}

-- the candidate where it is one and less, else the value so far
abbrev pub pick : {V : Type 0} → Ghosts V → Bool → V → V → V
pick s ok candidate best = cond (ok && s.less candidate best) candidate best

-- the least of prev u and of each step from u to a node v below n, with prev v
unfoldable pub reach : {V : Type 0} → Ghosts V → Steps V → (ℕ → V) → ℕ → ℕ → V
reach s steps prev u zero = prev u
reach s steps prev u (suc v) = pick s (steps.has u v) (s.plus (steps.cost u v) (prev v)) (reach s steps prev u v)

-- the layer k at u, over n nodes: nothing at first, and then the least of the layer before and the steps to it
unfoldable pub level : {V : Type 0} → Ghosts V → Steps V → ℕ → ℕ → ℕ → V
level s steps n zero u = s.nothing
level s steps n (suc k) u = reach s steps (λ v. level s steps n k v) u n
