-- What a ring forbids. Assumes nothing.
use Rattle.std.proofs.Common.{◌≡◌, ℕ, zero, suc, ◌+◌, ◌*◌, ◌≤◌, true, false, ◌||◌, Option, Some, None, List, length, ℤ, pos, ◌+ℤ◌, ◌≤ℤ◌, refl, ap, add-mul, mul-le-mul_left, zero-mul, mul-add, mul_left_comm, arith}
use borrow.Author.Differences.{ints}
use Rattle.model.specs.declared.step.Step.{Step}
use Rattle.model.specs.declared.step.Step.TheVariants.{Mark, Hop}
use Rattle.model.specs.Views.{View, step, marks, hops}
use Rattle.model.specs.Rings.{sum_to, bit, marks_in, hops_in, round, marks_of, hops_of, Cycle}
use Rattle.model.specs.Gradings.{Graded}
use Rattle.model.specs.Statements.{RingForbidsLoose, RingForbidsStrict}
use Rattle.model.proofs.Steps.{clash}
use Rattle.model.proofs.Rounds.{round_below, round_steps, round_end}

-- one more step, by a mark or by a hop: what the sums so far bound, they bound again
one_more : (s : Option Step) (a b c : ℤ) (E H X Y : ℕ) → (marks s || hops s) ≡ true
    → (marks s ≡ true → (b +ℤ pos X) ≤ℤ c) → (hops s ≡ true → b ≤ℤ (c +ℤ pos Y))
    → (a +ℤ pos (E * X)) ≤ℤ (b +ℤ pos (H * Y))
    → (a +ℤ pos ((E + bit (marks s)) * X)) ≤ℤ (c +ℤ pos ((H + bit (hops s)) * Y))
one_more (Some Mark) a b c E H X Y e up near ih = rw (add-mul E 1 X, add-mul H 0 Y) (let u = up refl in omega (arith, ints))
one_more (Some Hop) a b c E H X Y e up near ih = rw (add-mul E 0 X, add-mul H 1 Y) (let u = near refl in omega (arith, ints))
one_more None a b c E H X Y e up near ih = absurd (clash false e refl)

module _ (more : ℕ) (w : View) (xs : List ℕ) (t1 t2 d : ℕ) (g : ℕ → ℤ) (c : Cycle w xs) (graded : Graded more w t1 t2 d g) where
  bounded : (n : ℕ) → (g (round xs 0) +ℤ pos (marks_in w (round xs) n * (d * t1 + more))) ≤ℤ (g (round xs n) +ℤ pos (hops_in w (round xs) n * (d * t2)))
  unfolding sum_to
  bounded zero = rw (zero-mul (d * t1 + more), zero-mul (d * t2)) (omega (arith, ints))
  bounded (suc n) =
      one_more (step w (round xs n) (round xs (suc n))) (g (round xs 0)) (g (round xs n)) (g (round xs (suc n)))
      (marks_in w (round xs) n) (hops_in w (round xs) n) (d * t1 + more) (d * t2) (round_steps w xs c n)
      (graded.up (round xs n) (round xs (suc n)) (round_below w xs c n) (round_below w xs c (suc n)))
      (λ e. (graded.near (round xs n) (round xs (suc n)) (round_below w xs c n) (round_below w xs c (suc n)) e).0)
      (bounded n)

  -- round the ring: what the marks lead up, the hops can lead down
  pub round_bounded : marks_of w xs * (d * t1 + more) ≤ hops_of w xs * (d * t2)
  round_bounded =
      let b = bounded (length xs) in
      let e : g (round xs (length xs)) ≡ g (round xs 0) = ap g (round_end xs) in
      omega (arith, ints)

regroup : (e d t : ℕ) → e * (d * t) ≡ d * (e * t)
regroup e d t = mul_left_comm e d t

-- d (h t2 + 1) ≤ d e t1, while round the ring e d t1 ≤ h d t2
pub ring_forbids_loose : RingForbidsLoose
ring_forbids_loose w t xs c low d g one loose =
    let b = round_bounded 0 w xs t.t1 t.t2 d g c loose in
    let le : d * suc (hops_of w xs * t.t2) ≤ d * (marks_of w xs * t.t1) = mul-le-mul_left d low in
    omega (arith, b, le, mul-add (marks_of w xs) (d * t.t1) 0, regroup (marks_of w xs) d t.t1, regroup (hops_of w xs) d t.t2, mul-add d (hops_of w xs * t.t2) 1)

-- d h t2 ≤ d e t1, while round the ring e (d t1 + 1) ≤ h d t2
pub ring_forbids_strict : RingForbidsStrict
ring_forbids_strict w t xs c low d g one strict =
    let b = round_bounded 1 w xs t.t1 t.t2 d g c strict in
    let some : 1 ≤ marks_of w xs = low.0 in
    let le : d * (hops_of w xs * t.t2) ≤ d * (marks_of w xs * t.t1) = mul-le-mul_left d low.1 in
    omega (arith, b, le, mul-add (marks_of w xs) (d * t.t1) 1, regroup (marks_of w xs) d t.t1, regroup (hops_of w xs) d t.t2)
