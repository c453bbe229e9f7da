-- The unit scale. Assumes nothing.
use Rattle.std.specs.Prelude.{ℕ, ◌≤◌, Bool, ℤ, pos, negsuc, ◌+ℤ◌, int_lt, unsigned_abs}
use Rattle.std.specs.Int.{saturate_to_bits}
use Rattle.model.specs.declared.thresholds.Thresholds.{Thresholds}
use Rattle.scale.specs.declared.unit.Unit.{Unit as Units}

abbrev pub of_unit : ℤ → Units
of_unit z = record { value = z }

abbrev pub unit_plus : Units → Units → Units
unit_plus x y = of_unit (x.value +ℤ y.value)

abbrev pub unit_sum : Units → Units → Units
unit_sum x y = of_unit (saturate_to_bits 63 (x.value +ℤ y.value))

abbrev pub unit_less : Units → Units → Bool
unit_less x y = int_lt x.value y.value

-- minus one
abbrev pub unit_mark : Thresholds → Units
unit_mark t = of_unit (negsuc 0)

abbrev pub unit_hop : Thresholds → Units
unit_hop t = of_unit (pos 0)

-- a size of at most 1 for each step
abbrev pub UnitExtent : Units → ℕ → Type 0
UnitExtent x k = unsigned_abs x.value ≤ k
