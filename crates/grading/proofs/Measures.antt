-- A ratio of numbers up to 64 that rises must end: it rises by a 4,096th at least. Assumes nothing.
use Rattle.std.proofs.Common.{◌≡◌, ℕ, zero, suc, ◌+◌, ◌-◌, ◌*◌, ◌/◌, ◌<◌, ◌≤◌, ap, ◌∙◌, ⊎_elim, suc-mul, mul_comm, mul-le-mul_left, le-div_iff_mul-le, mul-suc, mul-add, div-le_self, div-mul-le_self, mul_left_comm, arith}
use Rattle.std.proofs.lemmas.Bool.{cases_lt}

-- how far e to h is below 64 to 1, in 4,096ths, and one more; nothing is left above a ratio without hops
abbrev pub room_above : ℕ → ℕ → ℕ
room_above e zero = 0
room_above e (suc h) = suc (262144 - 4096 * e / suc h)

-- Let q·h ≤ 4096·e and f/k > e/h, that is k·e + 1 ≤ f·h. Suppose 4096·f < (q + 1)·k. Times h that is
-- 4096·f·h + h ≤ q·h·k + h·k ≤ 4096·e·k + h·k, while 4096·f·h ≥ 4096·e·k + 4096. So 4096 + h ≤ h·k ≤ 64·h, which fails for h ≤ 64.
rises : (q e h f k : ℕ) → h ≤ 64 → k ≤ 64 → 1 ≤ h → q * h ≤ 4096 * e → k * e < f * h → suc q * k ≤ 4096 * f
rises q e h f k h64 k64 h1 qh lt = ⊎_elim
    (λ (no : 4096 * f < suc q * k).
    let a : h * suc (4096 * f) ≤ h * (suc q * k) = mul-le-mul_left h no in
    let b : k * (q * h) ≤ k * (4096 * e) = mul-le-mul_left k qh in
    let r : h * k ≤ h * 64 = mul-le-mul_left h k64 in
    let a1 : h * suc (4096 * f) ≡ 4096 * (f * h) + h = mul-suc h (4096 * f) ∙ ap (λ (x : ℕ). x + h) (mul_left_comm h 4096 f ∙ ap (λ (x : ℕ). 4096 * x) (mul_comm h f)) in
    let a2 : h * (suc q * k) ≡ q * (h * k) + h * k = ap (λ (x : ℕ). h * x) (suc-mul q k) ∙ mul-add h (q * k) k ∙ ap (λ (x : ℕ). x + h * k) (mul_left_comm h q k) in
    let b1 : k * (q * h) ≡ q * (h * k) = mul_left_comm k q h ∙ ap (λ (x : ℕ). q * x) (mul_comm k h) in
    let b2 : k * (4096 * e) ≡ 4096 * (k * e) = mul_left_comm k 4096 e in
    absurd (omega arith))
    (λ (yes : suc q * k ≤ 4096 * f). yes)
    (cases_lt (4096 * f) (suc q * k))

-- so the whole part of 4096·e/h rises too, and it stays at or below 4096·64
pub room_falls : (e h f k : ℕ) → 1 ≤ h → h ≤ 64 → f ≤ 64 → k ≤ 64 → k * e < f * h → room_above f k < room_above e h
room_falls e zero f k h1 h64 f64 k64 lt = absurd (omega arith)
room_falls e (suc h) f zero h1 h64 f64 k64 lt = omega arith
room_falls e (suc h) f (suc k) h1 h64 f64 k64 lt =
    let up : suc (4096 * e / suc h) ≤ 4096 * f / suc k = (le-div_iff_mul-le {k = suc k} {x = suc (4096 * e / suc h)} {y = 4096 * f} (omega arith)).1
    (rises (4096 * e / suc h) e (suc h) f (suc k) h64 k64 h1 (div-mul-le_self (4096 * e) (suc h)) lt) in
    let top : 4096 * f / suc k ≤ 4096 * f = div-le_self (4096 * f) (suc k) in
    omega arith
