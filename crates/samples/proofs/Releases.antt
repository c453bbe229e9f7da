-- The bytes of a release that follow whichever ring and grades the least ratio leaves. Assumes nothing.
use Rattle.std.proofs.Common.{◌≡◌, ℕ, List, ◌++◌, [], ◌∷◌, ℤ, pos, neg_ℤ, nat_abs, sym, refl, subst, arith}
use Rattle.sheet.specs.Calls.{put_state, put_mark}
use Rattle.form.specs.Laid.{laid_out, of_two}
use Rattle.form.specs.Sections.{records_below, marks_from, marks_below, depths_below, finding}
use Rattle.samples.specs.Results.{RatioIs, ReleaseIs}
use Rattle.samples.specs.Statements.{nothing, outer_mark, outer_mark_bytes}

-- nothing is listed, so that grades do not come into it
nothing_laid : (g : ℕ → ℤ) → laid_out (finding nothing g []) ≡ 0 ∷ 0 ∷ 0 ∷ 0 ∷ 0 ∷ []
unfolding records_below marks_from marks_below depths_below put_state put_mark
nothing_laid g = refl

pub nothing_released : RatioIs nothing 0 1 [] [] → ReleaseIs nothing 0 1 (0 ∷ 0 ∷ 0 ∷ 0 ∷ 0 ∷ [])
nothing_released known xs g least best =
    subst (λ (ys : List ℕ). laid_out (finding nothing g ys) ≡ 0 ∷ 0 ∷ 0 ∷ 0 ∷ 0 ∷ []) (sym (known.only 0 1 xs least).2) (nothing_laid g)

-- with depths in place of grades
outer_laid : (g : ℕ → ℤ) → g 0 ≡ neg_ℤ (pos 2) → g 1 ≡ neg_ℤ (pos 1) → g 2 ≡ neg_ℤ (pos 0)
    → laid_out (finding outer_mark g (0 ∷ 2 ∷ 1 ∷ [])) ≡ outer_mark_bytes
unfolding records_below marks_from marks_below depths_below put_state put_mark
outer_laid g a b c = depths (g 0) (g 1) (g 2) a b c
  where
    depths : (x y z : ℤ) → x ≡ neg_ℤ (pos 2) → y ≡ neg_ℤ (pos 1) → z ≡ neg_ℤ (pos 0)
        → 3 ∷ 0 ∷ 1 ∷ 2 ∷ 1 ∷ 0 ∷ 0 ∷ 2 ∷ 3 ∷ (of_two (nat_abs x) ++ (of_two (nat_abs y) ++ (of_two (nat_abs z) ++ 3 ∷ 0 ∷ 2 ∷ 1 ∷ []))) ≡ outer_mark_bytes
    depths x y z p q r = rw (p, q, r) refl

-- the ring and the grades are known
pub outer_mark_released : RatioIs outer_mark 1 2 (0 ∷ 2 ∷ 1 ∷ []) (2 ∷ 1 ∷ 0 ∷ []) → ReleaseIs outer_mark 1 2 outer_mark_bytes
unfolding put_state
outer_mark_released known xs g least best =
    let grade = known.grades.only g best in
    subst (λ (ys : List ℕ). laid_out (finding outer_mark g ys) ≡ outer_mark_bytes) (sym (known.only 1 2 xs least).2)
    (outer_laid g (grade 0 (omega arith) refl) (grade 1 (omega arith) refl) (grade 2 (omega arith) refl))
