-- The laws of signed whole numbers, for the whole scale and the unit scale. Assumes nothing.
use Rattle.std.specs.Prelude.{◌≡◌, ℕ, ◌+◌, ◌*◌, ◌≤◌, true, false, ◌&&◌, ℤ, pos, negsuc, ◌+ℤ◌, neg_ℤ, int_lt, nat_le, unsigned_abs}
use Rattle.std.proofs.Common.{ap, sym, arith}
use Rattle.std.proofs.Math.IntN.{+ℤ_comm, +ℤ_assoc, +ℤ_idr}
use Rattle.std.proofs.lemmas.Int.{ints}
use Rattle.std.specs.Int.{saturate_to_bits}
use Rattle.std.proofs.lemmas.Bool.{and_parts, leb-true}
use Rattle.model.specs.declared.thresholds.Thresholds.{Thresholds}
use Rattle.model.specs.Limits.{within_limits}
use Rattle.scale.specs.Laws.{Laws}
use Rattle.scale.specs.Wholes.{of_whole, whole_plus, whole_sum, whole_less, whole_mark, whole_hop, WholeExtent}
use Rattle.scale.specs.Units.{of_unit, unit_plus, unit_sum, unit_less, unit_mark, unit_hop, UnitExtent}

less_irrefl : (a : ℤ) → int_lt a a ≡ false
less_irrefl a = sym (omega (arith, ints))

less_trans : (a b c : ℤ) → int_lt a b ≡ true → int_lt b c ≡ true → int_lt a c ≡ true
less_trans a b c p q = sym (omega (arith, ints))

less_total : (a b : ℤ) → int_lt a b ≡ false → int_lt b a ≡ false → a ≡ b
less_total a b p q = omega (arith, ints)

less_mono : (a b c : ℤ) → int_lt a b ≡ true → int_lt (a +ℤ c) (b +ℤ c) ≡ true
less_mono a b c p = sym (omega (arith, ints))

size_plus : (a b : ℤ) → unsigned_abs (a +ℤ b) ≤ unsigned_abs a + unsigned_abs b
size_plus a b = omega (arith, ints)

size_neg : (n : ℕ) → unsigned_abs (neg_ℤ (pos n)) ≡ n
size_neg n = omega (arith, ints)

-- a number of at most 4,096 million is held as it is
held : (z : ℤ) → unsigned_abs z ≤ 4096 * 1000000 → saturate_to_bits 63 z ≡ z
held (pos n) h = ap pos (omega arith)
held (negsuc n) h = ap negsuc (omega arith)

pub low : (t : Thresholds) → within_limits t ≡ true → t.t1 ≤ 1000000
low t e = leb-true t.t1 1000000 (and_parts (nat_le t.t1 1000000) (nat_le t.t2 1000000) (and_parts (nat_le 1 t.t1) (nat_le t.t1 1000000 && nat_le t.t2 1000000) e).1).0

pub near : (t : Thresholds) → within_limits t ≡ true → t.t2 ≤ 1000000
near t e = leb-true t.t2 1000000 (and_parts (nat_le t.t1 1000000) (nat_le t.t2 1000000) (and_parts (nat_le 1 t.t1) (nat_le t.t1 1000000 && nat_le t.t2 1000000) e).1).1

pub whole_laws : Laws (of_whole (pos 0)) whole_plus whole_sum whole_less whole_mark whole_hop WholeExtent
whole_laws = record {
  comm = λ a b. ap of_whole (+ℤ_comm a.value b.value);
  assoc = λ a b c. ap of_whole (+ℤ_assoc a.value b.value c.value);
  neutral = λ a. ap of_whole (+ℤ_idr a.value);
  irrefl = λ a. less_irrefl a.value;
  trans = λ a b c. less_trans a.value b.value c.value;
  total = λ a b p q. ap of_whole (less_total a.value b.value p q);
  mono = λ a b c. less_mono a.value b.value c.value;
  nothing_extent = omega arith;
  mark_extent = λ t e. omega (arith, size_neg t.t1, low t e);
  hop_extent = λ t e. omega (arith, near t e);
  more_extent = λ a k h. omega arith;
  sum_extent = λ a b j k p q l. omega (arith, size_plus a.value b.value);
  exact = λ a b j k p q l. ap of_whole (held (a.value +ℤ b.value) (omega (arith, size_plus a.value b.value)));
}

pub unit_laws : Laws (of_unit (pos 0)) unit_plus unit_sum unit_less unit_mark unit_hop UnitExtent
unit_laws = record {
  comm = λ a b. ap of_unit (+ℤ_comm a.value b.value);
  assoc = λ a b c. ap of_unit (+ℤ_assoc a.value b.value c.value);
  neutral = λ a. ap of_unit (+ℤ_idr a.value);
  irrefl = λ a. less_irrefl a.value;
  trans = λ a b c. less_trans a.value b.value c.value;
  total = λ a b p q. ap of_unit (less_total a.value b.value p q);
  mono = λ a b c. less_mono a.value b.value c.value;
  nothing_extent = omega arith;
  mark_extent = λ t e. omega arith;
  hop_extent = λ t e. omega arith;
  more_extent = λ a k h. omega arith;
  sum_extent = λ a b j k p q l. omega (arith, size_plus a.value b.value);
  exact = λ a b j k p q l. ap of_unit (held (a.value +ℤ b.value) (omega (arith, size_plus a.value b.value)));
}
