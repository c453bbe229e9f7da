-- The pair of two scales. Assumes nothing.
use Rattle.std.specs.Prelude.{ℕ, Bool, true, false, cond}
use Rattle.model.specs.declared.thresholds.Thresholds.{Thresholds}
use Rattle.scale.specs.declared.pair.Pair.{Pair}

abbrev pub both : {X Y : Type 0} → X → Y → Pair X Y
both x y = record { first = x; second = y }

-- part by part
abbrev pub pair_plus : {X Y : Type 0} → (X → X → X) → (Y → Y → Y) → Pair X Y → Pair X Y → Pair X Y
pair_plus f g a b = both (f a.first b.first) (g a.second b.second)

-- the first part first
abbrev pub pair_less : {X Y : Type 0} → (X → X → Bool) → (Y → Y → Bool) → Pair X Y → Pair X Y → Bool
pair_less f g a b = cond (f a.first b.first) true (cond (f b.first a.first) false (g a.second b.second))

abbrev pub pair_of : {X Y : Type 0} → (Thresholds → X) → (Thresholds → Y) → Thresholds → Pair X Y
pair_of f g t = both (f t) (g t)

-- both parts have the pair's extent
abbrev pub PairExtent : {X Y : Type 0} → (X → ℕ → Type 0) → (Y → ℕ → Type 0) → Pair X Y → ℕ → Type 0
PairExtent f g a k = f a.first k × g a.second k
