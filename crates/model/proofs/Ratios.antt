-- The least ratio, by a ring that has it and a grading at it; and with fewer records. Assumes nothing.
use Rattle.std.proofs.Common.{◌≡◌, ℕ, zero, suc, ◌+◌, ◌*◌, ◌<◌, ◌≤◌, List, length, ℤ, pos, ◌+ℤ◌, ◌*ℤ◌, ◌≤ℤ◌, sym, ap, ◌∙◌, subst, subst₂, inl, inr, ⊎_elim, add-zero, mul_assoc, suc-mul, mul_comm, mul-le-mul_left, zero-mul, mul_left_comm, arith}
use borrow.Author.Differences.{ints}
use lib.IntN.{zero-*ℤ, suc_ℤ-*ℤ}
use Rattle.std.proofs.lemmas.Bool.{cases_lt}
use Rattle.model.specs.declared.thresholds.Thresholds.{Thresholds}
use Rattle.model.specs.Views.{View}
use Rattle.model.specs.Rings.{marks_of, hops_of}
use Rattle.model.specs.Gradings.{Loose, NoLoose}
use Rattle.model.specs.Ratios.{thresholds_at, Shows, Bounds, NoCircle}
use Rattle.model.specs.Statements.{FewerCircles, GradingShowsLeast, GradingAbove, NoGreaterRatio}
use Rattle.model.proofs.Rounds.{e_and_h, fewer}
use Rattle.model.proofs.Forbids.{ring_forbids_loose}

-- Let a ring have e' marks and h' hops. At t1 = h and t2 = e it forbids every loose grading where e'·h > h'·e.
-- There is such a grading, so e'·h ≤ h'·e for each ring: none has a greater ratio.
bounded : (w : View) (e h d : ℕ) (g : ℕ → ℤ) → 1 ≤ d → Loose w (thresholds_at e h) d g → Bounds w e h
bounded w e h d g one loose xs ring = ⊎_elim
    (λ (lt : hops_of w xs * e < marks_of w xs * h). absurd (ring_forbids_loose w (thresholds_at e h) xs ring.cycle lt d g one loose))
    (λ (le : marks_of w xs * h ≤ hops_of w xs * e). omega (arith, mul_comm (hops_of w xs) e))
    (cases_lt (hops_of w xs * e) (marks_of w xs * h))

-- All k steps of a circle are marks: e' = k, h' = 0. The bound then says k·h ≤ e·0 = 0.
-- But k is at least 2 and h at least 1.
no_circle : (w : View) (e h : ℕ) → 1 ≤ h → Bounds w e h → NoCircle w
no_circle w e h one bounds xs c =
    let none : marks_of w xs * h ≤ e * 0 = subst (λ (n : ℕ). marks_of w xs * h ≤ e * n) c.hopless (bounds xs c.ring) in
    let all : marks_of w xs + 0 ≡ length xs = subst (λ (n : ℕ). marks_of w xs + n ≡ length xs) c.hopless (e_and_h w xs c.ring.cycle) in
    let long : 2 ≤ length xs = c.ring.cycle.long in
    let up : marks_of w xs * 1 ≤ marks_of w xs * h = mul-le-mul_left (marks_of w xs) one in
    omega arith

-- t2/t1 is below e/h where t2·h < e·t1. That is e·t1 > h·t2, and the ring that shows e to h forbids every loose grading.
-- Where no ring is shown e is 0, and no thresholds are below.
none_below : (w : View) (e h : ℕ) (xs : List ℕ) → Shows w e h xs → (t : Thresholds) → t.t2 * h < e * t.t1 → NoLoose w t
none_below w e h xs (inl none) t lt = absurd (
    let l : t.t2 * h < 0 * t.t1 = subst (λ (n : ℕ). t.t2 * h < n * t.t1) none.marks lt in omega (arith, zero-mul t.t1))
none_below w e h xs (inr shown) t lt = ring_forbids_loose w t xs shown.ring.cycle
    (subst₂ (λ (m n : ℕ). n * t.t2 < m * t.t1) (sym shown.marks) (sym shown.hops) (omega (arith, mul_comm t.t2 h)))

-- The ring shows that the ratio is not too great: nothing is graded below it.
-- The grading shows that it is great enough: no ring has more, and so none is a circle.
pub grading_shows_least : GradingShowsLeast
grading_shows_least w e h d xs g hopped shown one loose =
    let bounds = bounded w e h d g one loose in
    record {
      hopped = hopped;
      shown = shown;
      bounds = bounds;
      circleless = no_circle w e h hopped bounds;
      below = none_below w e h xs shown;
    }

-- what is at least n apart is t·n apart, t times over
apart : (t n : ℕ) (x y : ℤ) → (x +ℤ pos n) ≤ℤ y → ((pos t *ℤ x) +ℤ pos (t * n)) ≤ℤ (pos t *ℤ y)
apart zero n x y l = rw (zero-*ℤ x, zero-*ℤ y, zero-mul n) (omega (arith, ints))
apart (suc t) n x y l = rw (suc_ℤ-*ℤ (pos t) x, suc_ℤ-*ℤ (pos t) y, suc-mul t n) (one (pos t *ℤ x) (pos t *ℤ y) (apart t n x y l))
  where
    one : (a b : ℤ) → (a +ℤ pos (t * n)) ≤ℤ b → ((a +ℤ x) +ℤ pos (t * n + n)) ≤ℤ (b +ℤ y)
    one a b h = omega (arith, ints)

-- what is at most n apart is at most t·n apart, t times over
close : (t n : ℕ) (x y : ℤ) → x ≤ℤ (y +ℤ pos n) → (pos t *ℤ x) ≤ℤ ((pos t *ℤ y) +ℤ pos (t * n))
close zero n x y l = rw (zero-*ℤ x, zero-*ℤ y, zero-mul n) (omega (arith, ints))
close (suc t) n x y l = rw (suc_ℤ-*ℤ (pos t) x, suc_ℤ-*ℤ (pos t) y, suc-mul t n) (one (pos t *ℤ x) (pos t *ℤ y) (close t n x y l))
  where
    one : (a b : ℤ) → a ≤ℤ (b +ℤ pos (t * n)) → (a +ℤ x) ≤ℤ ((b +ℤ y) +ℤ pos (t * n + n))
    one a b h = omega (arith, ints)

-- Take t1 times the grades. A mark led up by d·h at least, so now by (d·h)·t1: enough for t1 and the denominator d·h.
-- A hop spanned d·e at most, so now t1·(d·e) = d·(e·t1) ≤ d·(t2·h) = (d·h)·t2: no more than t2 allows.
pub grading_above : GradingAbove
grading_above w e h d g t loose above = record {
  up = λ u v a b is. wider (g u) (g v) (apart t.t1 (d * h + 0) (g u) (g v) (loose.up u v a b is));
  near = λ u v a b is.
      let two = loose.near u v a b is in
      (nearer (g u) (g v) (close t.t1 (d * e) (g u) (g v) two.0), nearer (g v) (g u) (close t.t1 (d * e) (g v) (g u) two.1));
}
  where
    wider : (x y : ℤ) → ((pos t.t1 *ℤ x) +ℤ pos (t.t1 * (d * h + 0))) ≤ℤ (pos t.t1 *ℤ y) → ((pos t.t1 *ℤ x) +ℤ pos (d * h * t.t1 + 0)) ≤ℤ (pos t.t1 *ℤ y)
    wider x y l =
        let same : t.t1 * (d * h + 0) ≡ d * h * t.t1 + 0 = mul_comm t.t1 (d * h + 0) ∙ ap (λ (n : ℕ). n * t.t1) (add-zero (d * h)) ∙ sym (add-zero (d * h * t.t1)) in
        subst (λ (n : ℕ). ((pos t.t1 *ℤ x) +ℤ pos n) ≤ℤ (pos t.t1 *ℤ y)) same l

    spans : t.t1 * (d * e) ≤ d * h * t.t2
    spans =
        let most : d * (e * t.t1) ≤ d * (t.t2 * h) = mul-le-mul_left d above in
        omega (arith, mul_left_comm t.t1 d e, ap (λ (n : ℕ). d * n) (mul_comm t.t1 e), ap (λ (n : ℕ). d * n) (mul_comm t.t2 h), mul_assoc d h t.t2)

    up_to : (a b : ℤ) (m n : ℕ) → a ≤ℤ (b +ℤ pos m) → m ≤ n → a ≤ℤ (b +ℤ pos n)
    up_to a b m n l k = omega (arith, ints)

    nearer : (x y : ℤ) → (pos t.t1 *ℤ x) ≤ℤ ((pos t.t1 *ℤ y) +ℤ pos (t.t1 * (d * e))) → (pos t.t1 *ℤ x) ≤ℤ ((pos t.t1 *ℤ y) +ℤ pos (d * h * t.t2))
    nearer x y l = up_to (pos t.t1 *ℤ x) (pos t.t1 *ℤ y) (t.t1 * (d * e)) (d * h * t.t2) l spans

pub fewer_circles : FewerCircles
fewer_circles a b xs within c =
    let same = fewer a b xs within c.ring in
    record { ring = same.ring; hopless = same.hops ∙ c.hopless }

-- The ring that shows e to h among the fewer records is a ring of all of them, with the same marks and hops.
-- So f to k bounds it: e·k ≤ f·h. Where no ring is shown e is 0.
pub no_greater_ratio : NoGreaterRatio
no_greater_ratio a b e h f k xs ys within ra rb = go ra.shown
  where
    go : Shows a e h xs → e * k ≤ f * h
    go (inl none) = subst (λ (n : ℕ). n * k ≤ f * h) (sym none.marks) (omega (arith, zero-mul k))
    go (inr shown) =
        let same = fewer a b xs within shown.ring in
        subst₂ (λ (m n : ℕ). m * k ≤ f * n) (same.marks ∙ shown.marks) (same.hops ∙ shown.hops) (rb.bounds xs same.ring)
