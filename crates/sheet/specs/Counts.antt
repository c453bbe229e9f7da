-- How many ordered pairs of different records there are room for. Assumes nothing.
use Rattle.std.specs.Prelude.{◌≡◌, ℕ, ◌<◌, ◌≤◌, Bool, true, false}
use Rattle.std.proofs.Math.Path.{refl}
use Rattle.std.proofs.Common.{ap, zero-le, le_refl, arith}
use Rattle.std.proofs.lemmas.Bool.{eq-eqb, ne_eqb}
use Rattle.model.specs.Rings.{bit, sum_to}
use Rattle.model.specs.Sets.{put}
use Rattle.model.proofs.Sums.{sum_bound, sum_change}
use Rattle.sheet.specs.Meanings.{pairs}

bit_le : (b : Bool) → bit b ≤ 1
bit_le true = le_refl 1
bit_le false = zero-le

-- A row of 64 answers with a no at u has at most 63 yeses.
-- With a yes at u it would have one more, and there are at most 64.
row_room : (f : ℕ → Bool) (u : ℕ) → u < 64 → f u ≡ false → sum_to (λ v. bit (f v)) 64 ≤ 63
unfolding put
row_room f u h e =
    let full = λ (v : ℕ). bit (put f u true v) in
    let more = sum_change full (λ v. bit (f v)) 64 u h (λ k ne. simp (ne_eqb k u ne)) in
    let most = sum_bound full 64 1 (λ k l. bit_le (put f u true k)) in
    let one : bit (put f u true u) ≡ 1 = simp (eq-eqb u u refl) in
    let none : bit (f u) ≡ 0 = ap bit e in
    omega arith

-- no more than 64 · 63 pairs of different records
pub pairs_room : (m : ℕ → ℕ → Bool) → ((u : ℕ) → m u u ≡ false) → pairs m ≤ 4032
unfolding pairs
pairs_room m h = sum_bound (λ u. sum_to (λ v. bit (m u v)) 64) 64 63 (λ u l. row_room (m u) u l (h u))
