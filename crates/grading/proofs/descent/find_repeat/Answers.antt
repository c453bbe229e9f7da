use Rattle.std.proofs.Common.{◌≡◌, ◌+◌, ◌<◌, ◌≤◌, ℕ, true, ◌≢◌, get_or, ap, ◌∙◌, ⊎_elim, arith, below_more}
use Rattle.std.proofs.lemmas.Bool.{cases_lt}
use Rattle.model.specs.Sets.{has}
use Rattle.model.proofs.Digits.{put_here, put_more}
use Rattle.paths.proofs.Pigeons.{pigeons}
use Rattle.grading.proofs.descent.find_repeat.Goals as goal

-- numbers that all differ, and one more that none of them is
apart_more : (f : ℕ → ℕ) (n : ℕ) → ((i j : ℕ) → i < j → j < n → f i ≢ f j) → ((i : ℕ) → i < n → f i ≢ f n) → (i j : ℕ) → i < j → j < n + 1 → f i ≢ f j
apart_more f n apart new i j m l = below_more (λ j. (i : ℕ) → i < j → f i ≢ f j) n (λ j l i m. apart i j m l) new j l i m

pub loop-high-preserved : goal.loop-high-preserved
loop-high-preserved c =
    let record_at : ℕ → ℕ = λ i. get_or c.args.walk.now i 0 in
    let high = c.loop-high.high in
    let more = c.with_bit-seen.ensures.below (c.requires.1 high c.loop-high-test.true) in (
      apart_more record_at high c.loop-high.invariant.0 c.in_default.ensures,
      below_more (λ i. has c.with_bit-seen.result (record_at i) ≡ true) high
          (λ i l. ap (λ f. f (record_at i)) more ∙ put_more (has c.loop-high.seen) (record_at high) (record_at i) (c.loop-high.invariant.1 i l))
          (ap (λ f. f (record_at high)) more ∙ put_here (has c.loop-high.seen) (record_at high) true),
    )

-- 65 records below 64 cannot all differ
pub returns-in_default : goal.returns-in_default
returns-in_default c =
    let record_at : ℕ → ℕ = λ i. get_or c.args.walk.now i 0 in
    ⊎_elim
    (λ (l : c.args.top < 64). l)
    (λ (l : 64 ≤ c.args.top).
    absurd (pigeons 64 record_at (λ i m. c.requires.1 i (omega arith))
    (λ i j m n. apart_more record_at c.loop-high.high c.loop-high.invariant.0 c.in_default.ensures i j m (omega arith))))
    (cases_lt c.args.top 64)
