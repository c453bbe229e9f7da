-- The steps of a problem, the view that it spells, and copies at its records. Assumes nothing.
use Rattle.std.specs.Prelude.{◌≡◌, ℕ, ◌<◌, true, false, cond, ◌||◌, List, length, slice_index_or}
use Rattle.model.specs.declared.thresholds.Thresholds.{Thresholds}
use Rattle.model.specs.Limits.{within_limits}
use Rattle.model.specs.Sets.{has}
use Rattle.model.specs.Views.{View}
use Rattle.scale.specs.declared.scale.Scale.{Ghosts}
use Rattle.paths.specs.Steps.{Steps}
use Rattle.grading.specs.declared.problem.Problem.{Problem}
use Rattle.grading.specs.Graphs.{graph_marks, graph_hops, Draws}

-- the value at a place, and nothing past the end
abbrev pub at : {V : Type 0} → Ghosts V → List V → ℕ → V
at s xs u = slice_index_or xs u s.nothing

-- the steps of the graph with the problem's values
abbrev pub problem_steps : {V : Type 0} → Problem V → Steps V
problem_steps p = record {
  has = λ u v. graph_marks p.graph u v || graph_hops p.graph u v;
  cost = λ u v. cond (graph_marks p.graph u v) p.mark p.hop;
}

-- a mark's and a hop's value have extent 1
abbrev pub Costs : {V : Type 0} → Ghosts V → Problem V → Type 0
Costs s p = s.extent p.mark 1 × s.extent p.hop 1

-- a step's value has extent 1, and the values so far have extent 64, so that no sum saturates
pub record Ready {V : Type 0} (s : Ghosts V) (step : V) (from : List V) : Type 0 where
  pub long : length from ≡ 64
  pub cost : s.extent step 1
  pub extents : (u : ℕ) → u < 64 → s.extent (at s from u) 64

-- the graph draws the view, and the costs are the scale's for allowed thresholds
pub record Spells {V : Type 0} (s : Ghosts V) (w : View) (t : Thresholds) (p : Problem V) : Type 0 where
  pub draws : Draws w p.graph
  pub mark : p.mark ≡ s.mark t
  pub hop : p.hop ≡ s.hop t
  pub limits : within_limits t ≡ true

-- `after` has the values of `from` at the records below n that are in the set, and else those of `before`
pub record Copied {V : Type 0} (s : Ghosts V) (set n : ℕ) (from before after : List V) : Type 0 where
  pub inside : (u : ℕ) → u < n → has set u ≡ true → at s after u ≡ at s from u
  pub outside : (u : ℕ) → (u < n → has set u ≡ false) → at s after u ≡ at s before u
