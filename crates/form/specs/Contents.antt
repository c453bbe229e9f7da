-- What a release contains, as lists. Assumes nothing.
use Rattle.std.specs.Prelude.{ℕ, Bool, false, cond, ◌&&◌, ◌||◌, List, [], ◌∷◌, ◌==◌}

-- the records, the marks as pairs from and to, a depth for each record in the records' order, and a ring
pub record Contents : Type 0 where
  pub records : List ℕ
  pub marks : List (ℕ × ℕ)
  pub depths : List ℕ
  pub ring : List ℕ

-- u is one of the records
abbrev pub listed : List ℕ → ℕ → Bool
listed [] u = false
listed (x ∷ xs) u = x == u || listed xs u

-- u, v is one of the pairs
abbrev pub paired : List (ℕ × ℕ) → ℕ → ℕ → Bool
paired [] u v = false
paired (p ∷ ps) u v = (p.0 == u && p.1 == v) || paired ps u v

-- the depth that stands beside the record u, and 0 where u is none of them, or there are too few depths
abbrev pub beside : List ℕ → List ℕ → ℕ → ℕ
beside [] ds u = 0
beside (x ∷ xs) [] u = 0
beside (x ∷ xs) (d ∷ ds) u = cond (x == u) d (beside xs ds u)
