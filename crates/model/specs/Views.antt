-- What stands and what is marked, and the steps between records. Assumes nothing.
use Rattle.std.specs.Prelude.{◌≡◌, ℕ, Bool, true, false, cond, not, ◌&&◌, ◌||◌, Option, Some, None, ◌==◌}
use Rattle.model.specs.declared.step.Step.{Step}
use Rattle.model.specs.declared.step.Step.TheVariants.{Mark, Hop}

-- which records stand, and from which record to which a mark leads: the second was judged stronger
pub record View : Type 0 where
  pub stands : ℕ → Bool
  pub marked : ℕ → ℕ → Bool

-- two different records, and both stand
unfoldable pub two : View → ℕ → ℕ → Bool
two w u v = w.stands u && (w.stands v && not (u == v))

-- a mark leads one way; a hop leads both ways, between records with no mark in either direction;
-- no step leads against a mark, from a record to itself, or from or to one that does not stand
unfoldable pub step : View → ℕ → ℕ → Option Step
step w u v = cond (two w u v) (cond (w.marked u v) (Some Mark) (cond (w.marked v u) None (Some Hop))) None

abbrev pub marks : Option Step → Bool
marks (Some Mark) = true
marks (Some Hop) = false
marks None = false

abbrev pub hops : Option Step → Bool
hops (Some Mark) = false
hops (Some Hop) = true
hops None = false

abbrev pub is_mark : View → ℕ → ℕ → Bool
is_mark w u v = marks (step w u v)

abbrev pub is_hop : View → ℕ → ℕ → Bool
is_hop w u v = hops (step w u v)

abbrev pub is_step : View → ℕ → ℕ → Bool
is_step w u v = is_mark w u v || is_hop w u v

-- what stands in a stands in b, with the same marks between what stands in a
pub record Within (a b : View) : Type 0 where
  pub stands : (u : ℕ) → a.stands u ≡ true → b.stands u ≡ true
  pub marked : (u v : ℕ) → a.stands u ≡ true → a.stands v ≡ true → a.marked u v ≡ b.marked u v
