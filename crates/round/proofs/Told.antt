-- What the contents of a finding tell is what was found. Assumes nothing.
use Rattle.std.proofs.Common.{◌≡◌, ℕ, zero, suc, ◌<◌, Bool, true, false, cond, ◌&&◌, List, ltb, ℤ, pos, negsuc, neg_ℤ, nat_abs, ◌≤ℤ◌, refl, ap, ◌∙◌, arith}
use borrow.Author.Differences.{ints}
use mathlib.Core.Path.{fun_ext}
use Rattle.std.proofs.lemmas.Bool.{lt-ltb, and_from}
use Rattle.model.specs.Views.{View}
use Rattle.form.specs.Contents.{listed, paired}
use Rattle.form.specs.Sections.{records_below, marks_below, finding}
use Rattle.form.proofs.Lookups.{listed_below, paired_below, beside_below}
use Rattle.reading.specs.Told.{Drawn, told_by}

-- a test that holds only below n is the same with the bound in front
below_only : (n u : ℕ) (b : Bool) → (b ≡ true → u < n) → (ltb u n && b) ≡ b
below_only n u b below = go b below
  where
    never : (t : Bool) → (t && false) ≡ false
    never true = refl
    never false = refl

    go : (t : Bool) → (t ≡ true → u < n) → (ltb u n && t) ≡ t
    go true low = rw (lt-ltb u n (low refl)) refl
    go false low = never (ltb u n)

-- minus the size of a number that is not above 0
minus_size : (z : ℤ) → z ≤ℤ pos 0 → neg_ℤ (pos (nat_abs z)) ≡ z
minus_size (pos zero) low = refl
minus_size (pos (suc n)) low = absurd (omega (arith, ints))
minus_size (negsuc n) low = refl

module _ (w : View) (drawn : Drawn w) where
  stands_told : listed (records_below w 64) ≡ w.stands
  stands_told = fun_ext (λ u. listed_below w 64 u ∙ below_only 64 u (w.stands u) (drawn.below u))

  marked_told : paired (marks_below w 64) ≡ w.marked
  marked_told = fun_ext (λ u. fun_ext (λ v.
      paired_below w 64 u v
      ∙ ap (λ b. ltb u 64 && b) (below_only 64 v (w.marked u v) (λ m. drawn.below v (drawn.to u v m)))
      ∙ below_only 64 u (w.marked u v) (λ m. drawn.below u (drawn.from u v m))))

  module _ (g : ℕ → ℤ) (xs : List ℕ) where
    pub view_told : (e h : ℕ) → (told_by (finding w g xs) e h).view ≡ w
    view_told e h i = record { stands = stands_told i; marked = marked_told i }

    pub grade_told : (e h u : ℕ) → w.stands u ≡ true → g u ≤ℤ pos 0 → (told_by (finding w g xs) e h).grade u ≡ g u
    grade_told e h u s low =
        ap (λ n. neg_ℤ (pos n)) (beside_below w g 64 u ∙ ap (λ b. cond b (nat_abs (g u)) 0) (and_from (ltb u 64) (w.stands u) (lt-ltb u 64 (drawn.below u s)) s))
        ∙ minus_size (g u) low
