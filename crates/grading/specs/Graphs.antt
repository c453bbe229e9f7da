-- The graph that draws what stands and its steps. Assumes nothing.
use Rattle.std.specs.Prelude.{◌≡◌, ℕ, ◌<◌, Bool, slice_index}
use Rattle.model.specs.Sets.{has}
use Rattle.model.specs.Views.{View, is_mark, is_hop}
use Rattle.grading.specs.declared.graph.Graph.{Graph}

-- a mark from u to v is bit u of row v
abbrev pub graph_marks : Graph → ℕ → ℕ → Bool
graph_marks g u v = has (slice_index g.marks v) u

abbrev pub graph_hops : Graph → ℕ → ℕ → Bool
graph_hops g u v = has (slice_index g.hops v) u

-- the graph draws the view: bit for bit what stands, its marks and its hops
pub record Draws (w : View) (g : Graph) : Type 0 where
  pub stands : (u : ℕ) → u < 64 → has g.standing u ≡ w.stands u
  pub marks : (u v : ℕ) → u < 64 → v < 64 → has (slice_index g.marks v) u ≡ is_mark w u v
  pub hops : (u v : ℕ) → u < 64 → v < 64 → has (slice_index g.hops v) u ≡ is_hop w u v
