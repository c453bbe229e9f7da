-- Gradings by whole numbers to a denominator, and what forbids them. Assumes nothing.
use Rattle.std.specs.Prelude.{◌≡◌, ℕ, ◌+◌, ◌*◌, ◌<◌, ◌≤◌, true, List, ℤ, pos, ◌+ℤ◌, ◌≤ℤ◌}
use Rattle.model.specs.declared.thresholds.Thresholds.{Thresholds}
use Rattle.model.specs.Views.{View, is_mark, is_hop}
use Rattle.model.specs.Rings.{marks_of, hops_of}

-- a mark from u to v has g v - g u at least d·t1 + more; a hop has the two differ by at most d·t2
pub record Graded (more : ℕ) (w : View) (t1 t2 d : ℕ) (g : ℕ → ℤ) : Type 0 where
  pub up : (u v : ℕ) → u < 64 → v < 64 → is_mark w u v ≡ true → (g u +ℤ pos (d * t1 + more)) ≤ℤ g v
  pub near : (u v : ℕ) → u < 64 → v < 64 → is_hop w u v ≡ true → (g u ≤ℤ (g v +ℤ pos (d * t2))) × (g v ≤ℤ (g u +ℤ pos (d * t2)))

-- a loose grading to the denominator d leads up by at least d·t1 at each mark, a strict one by more
abbrev pub Loose : View → Thresholds → ℕ → (ℕ → ℤ) → Type 0
Loose w t d g = Graded 0 w t.t1 t.t2 d g

abbrev pub Strict : View → Thresholds → ℕ → (ℕ → ℤ) → Type 0
Strict w t d g = Graded 1 w t.t1 t.t2 d g

-- of any list xs, with e marks and h hops on its way round: e·t1 > h·t2. Where xs is a ring, it forbids a loose grading (`RingForbidsLoose`)
abbrev pub ForbidsLoose : View → Thresholds → List ℕ → Type 0
ForbidsLoose w t xs = hops_of w xs * t.t2 < marks_of w xs * t.t1

-- e ≥ 1 and e·t1 ≥ h·t2. Where xs is a ring, it forbids a strict grading (`RingForbidsStrict`)
abbrev pub ForbidsStrict : View → Thresholds → List ℕ → Type 0
ForbidsStrict w t xs = (1 ≤ marks_of w xs) × (hops_of w xs * t.t2 ≤ marks_of w xs * t.t1)

-- no grading of the kind exists, to any denominator
abbrev pub NoLoose : View → Thresholds → Type 0
NoLoose w t = (d : ℕ) (g : ℕ → ℤ) → 1 ≤ d → Loose w t d g → ⊥

abbrev pub NoStrict : View → Thresholds → Type 0
NoStrict w t = (d : ℕ) (g : ℕ → ℤ) → 1 ≤ d → Strict w t d g → ⊥
