-- The whole scale. Assumes nothing.
use Rattle.std.specs.Prelude.{ℕ, ◌*◌, ◌≤◌, Bool, ℤ, pos, ◌+ℤ◌, neg_ℤ, int_lt, unsigned_abs}
use Rattle.std.specs.Int.{saturate_to_bits}
use Rattle.model.specs.declared.thresholds.Thresholds.{Thresholds}
use Rattle.scale.specs.declared.whole.Whole.{Whole}

abbrev pub of_whole : ℤ → Whole
of_whole z = record { value = z }

abbrev pub whole_plus : Whole → Whole → Whole
whole_plus x y = of_whole (x.value +ℤ y.value)

-- what a 64-bit number cannot hold becomes the nearest that it can
abbrev pub whole_sum : Whole → Whole → Whole
whole_sum x y = of_whole (saturate_to_bits 63 (x.value +ℤ y.value))

abbrev pub whole_less : Whole → Whole → Bool
whole_less x y = int_lt x.value y.value

abbrev pub whole_mark : Thresholds → Whole
whole_mark t = of_whole (neg_ℤ (pos t.t1))

abbrev pub whole_hop : Thresholds → Whole
whole_hop t = of_whole (pos t.t2)

-- a size of at most 1,000,000 for each step
abbrev pub WholeExtent : Whole → ℕ → Type 0
WholeExtent x k = unsigned_abs x.value ≤ k * 1000000
