-- No release is longer than 8,453 bytes. Assumes nothing.
use Rattle.std.proofs.Common.{◌≡◌, ℕ, zero, suc, ◌*◌, ◌≤◌, Bool, true, false, List, [], ◌∷◌, ◌++◌, length, ℤ, nat_abs, refl, mul-suc, arith, length-append}
use Rattle.std.specs.List.{flat_map}
use Rattle.model.specs.Views.{View}
use Rattle.form.specs.Laid.{alone, of_pair, of_two, laid_out}
use Rattle.form.specs.Sections.{one_if, records_below, marks_from, marks_below, depths_below, finding}

one_few : {X : Type 0} (b : Bool) (x : X) → length (one_if b x) ≤ 1
one_few true x = omega arith
one_few false x = omega arith

module _ (w : View) where
  records_few : (n : ℕ) → length (records_below w n) ≤ n
  unfolding records_below
  records_few zero = omega arith
  records_few (suc n) = omega (arith, length-append (records_below w n) (one_if (w.stands n) n), one_few (w.stands n) n, records_few n)

  from_few : (u n : ℕ) → length (marks_from w u n) ≤ n
  unfolding marks_from
  from_few u zero = omega arith
  from_few u (suc n) = omega (arith, length-append (marks_from w u n) (one_if (w.marked u n) (u, n)), one_few {X = ℕ × ℕ} (w.marked u n) (u, n), from_few u n)

  pub marks_few : (n : ℕ) → length (marks_below w n) ≤ n * 64
  unfolding marks_below
  marks_few zero = omega arith
  marks_few (suc n) = omega (arith, length-append (marks_below w n) (marks_from w n 64), from_few n 64, marks_few n)

  depths_few : (g : ℕ → ℤ) (n : ℕ) → length (depths_below w g n) ≤ n
  unfolding depths_below
  depths_few g zero = omega arith
  depths_few g (suc n) = omega (arith, length-append (depths_below w g n) (one_if (w.stands n) (nat_abs (g n))), one_few (w.stands n) (nat_abs (g n)), depths_few g n)

-- items of k bytes each
flat_long : {X : Type 0} (f : X → List ℕ) (k : ℕ) (xs : List X) → ((x : X) → length (f x) ≡ k) → length (flat_map f xs) ≡ k * length xs
flat_long f k [] each = omega arith
flat_long f k (x ∷ xs) each = omega (arith, length-append (f x) (flat_map f xs), each x, flat_long f k xs each, mul-suc k (length xs))

pub release_long : (w : View) (g : ℕ → ℤ) (xs : List ℕ) → length xs ≤ 64 → length (laid_out (finding w g xs)) ≤ 8453
release_long w g xs few =
    let rs = records_below w 64 in
    let ms = marks_below w 64 in
    let ds = depths_below w g 64 in
    let ring = flat_map alone xs ++ [] in
    let r4 = length ds ∷ (flat_map of_two ds ++ (length xs ∷ ring)) in
    let r2 = of_two (length ms) ++ (flat_map of_pair ms ++ r4) in
    omega (
      arith,
      records_few w 64,
      marks_few w 64,
      depths_few w g 64,
      few,
      flat_long alone 1 rs (λ x. refl),
      flat_long of_pair 2 ms (λ x. refl),
      flat_long of_two 2 ds (λ x. refl),
      flat_long alone 1 xs (λ x. refl),
      length-append (flat_map alone rs) r2,
      length-append (flat_map of_pair ms) r4,
      length-append (flat_map of_two ds) (length xs ∷ ring),
      length-append (flat_map alone xs) [],
    )
