-- One number more of a section. Assumes nothing.
use Rattle.std.proofs.Common.{◌≡◌, ℕ, zero, suc, ◌+◌, Bool, true, false, List, ◌++◌, length, ℤ, nat_abs, sym, refl, ap, ap₂, ◌∙◌, add-one, length-append}
use Rattle.std.specs.List.{flat_map}
use Rattle.model.specs.Rings.{bit}
use Rattle.model.specs.Views.{View}
use Rattle.form.specs.Laid.{of_pair, of_two}
use Rattle.form.specs.Sections.{one_if, records_below, marks_from, marks_below, depths_below}
use Rattle.form.proofs.Joining.{joined_append}

pub records_more : (w : View) (n : ℕ) → records_below w (n + 1) ≡ records_below w n ++ one_if (w.stands n) n
unfolding records_below
records_more w n = rw (add-one n) refl

marks_from_next : (w : View) (u n : ℕ) → marks_from w u (n + 1) ≡ marks_from w u n ++ one_if (w.marked u n) (u, n)
unfolding marks_from
marks_from_next w u n = rw (add-one n) refl

pub marks_from_more : (w : View) (u n : ℕ)
    → flat_map of_pair (marks_from w u (n + 1)) ≡ flat_map of_pair (marks_from w u n) ++ flat_map of_pair (one_if (w.marked u n) (u, n))
marks_from_more w u n = ap (flat_map of_pair) (marks_from_next w u n) ∙ joined_append of_pair (marks_from w u n) (one_if (w.marked u n) (u, n))

marks_next : (w : View) (n : ℕ) → marks_below w (n + 1) ≡ marks_below w n ++ marks_from w n 64
unfolding marks_below
marks_next w n = rw (add-one n) refl

pub marks_more : (w : View) (n : ℕ) → flat_map of_pair (marks_below w (n + 1)) ≡ flat_map of_pair (marks_below w n) ++ flat_map of_pair (marks_from w n 64)
marks_more w n = ap (flat_map of_pair) (marks_next w n) ∙ joined_append of_pair (marks_below w n) (marks_from w n 64)

pub depths_next : (w : View) (g : ℕ → ℤ) (n : ℕ) → depths_below w g (n + 1) ≡ depths_below w g n ++ one_if (w.stands n) (nat_abs (g n))
unfolding depths_below
depths_next w g n = rw (add-one n) refl

pub depths_more : (w : View) (g : ℕ → ℤ) (n : ℕ)
    → flat_map of_two (depths_below w g (n + 1)) ≡ flat_map of_two (depths_below w g n) ++ flat_map of_two (one_if (w.stands n) (nat_abs (g n)))
depths_more w g n = ap (flat_map of_two) (depths_next w g n) ∙ joined_append of_two (depths_below w g n) (one_if (w.stands n) (nat_abs (g n)))

-- counts go up by one where there is an item
one_long : {X : Type 0} (b : Bool) (x : X) → length (one_if b x) ≡ bit b
one_long true x = refl
one_long false x = refl

more_long : {X : Type 0} (xs ys : List X) (b : Bool) (x : X) → ys ≡ xs ++ one_if b x → length ys ≡ length xs + bit b
more_long xs ys b x e = ap length e ∙ length-append xs (one_if b x) ∙ ap (λ (n : ℕ). length xs + n) (one_long b x)

pub records_count : (w : View) (n : ℕ) → length (records_below w (n + 1)) ≡ length (records_below w n) + bit (w.stands n)
records_count w n = more_long (records_below w n) _ (w.stands n) n (records_more w n)

pub marks_from_count : (w : View) (u n : ℕ) → length (marks_from w u (n + 1)) ≡ length (marks_from w u n) + bit (w.marked u n)
marks_from_count w u n = more_long (marks_from w u n) _ (w.marked u n) (u, n) (marks_from_next w u n)

pub marks_count : (w : View) (n : ℕ) → length (marks_below w (n + 1)) ≡ length (marks_below w n) + length (marks_from w n 64)
marks_count w n = ap length (marks_next w n) ∙ length-append (marks_below w n) (marks_from w n 64)

-- as many depths as records
pub depths_long : (w : View) (g : ℕ → ℤ) (n : ℕ) → length (depths_below w g n) ≡ length (records_below w n)
unfolding depths_below records_below
depths_long w g zero = refl
depths_long w g (suc n) =
    length-append (depths_below w g n) (one_if (w.stands n) (nat_abs (g n)))
    ∙ ap₂ (λ (a b : ℕ). a + b) (depths_long w g n) (same (w.stands n))
    ∙ sym (length-append (records_below w n) (one_if (w.stands n) n))
  where
    same : (b : Bool) → length (one_if b (nat_abs (g n))) ≡ length (one_if b n)
    same true = refl
    same false = refl
