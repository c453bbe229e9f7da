-- A list that has no pair twice has one place for each marked pair. Assumes nothing.
use Rattle.std.specs.Prelude.{◌≡◌, ℕ, ◌+◌, ◌<◌, Bool, true, false, cond, ◌||◌, ltb, List, [], ◌∷◌, length, nat_lt, count_by, refl}
use Rattle.std.proofs.Common.{sym, ◌∙◌, zero-add, arith}
use Rattle.std.proofs.Math.Path.{ap, fun_ext}
use Rattle.std.specs.List.{fold}
use Rattle.std.proofs.lemmas.Bool.{lt-ltb, ltb-true, eq-eqb}
use Rattle.std.proofs.lemmas.List.Sums.{sum_by-cons}
use Rattle.model.specs.Rings.{bit}
use Rattle.model.proofs.Digits.{has_bound}
use Rattle.sheet.specs.Meanings.{pairs}
use Rattle.sheet.specs.Calls.{put_mark}
use Rattle.sheet.specs.Kept.{PresentFrom, PresentTo}
use Rattle.sheet.proofs.Changes.{pairs_put, pairs_none}
use Rattle.listsheet.specs.declared.marks.Mark.{Mark}
use Rattle.listsheet.specs.Places.{is_pair, times, list_marks, Once}

-- what is_pair tells
is_pair_self : (k : Mark) → is_pair k k.from k.to ≡ true
is_pair_self k = simp (eq-eqb k.from k.from refl, eq-eqb k.to k.to refl)

-- how often a pair is in a list of one mark more
pub times_cons : (k : Mark) (items : List Mark) (u v : ℕ) → times (k ∷ items) u v ≡ cond (is_pair k u v) 1 0 + times items u v
times_cons k items u v = sum_by-cons (λ (m : Mark). cond (is_pair m u v) 1 0) k items

-- one mark more in the list is one mark more on the sheet
pub more_marks : (t : Bool) (n : ℕ) → nat_lt 0 (cond t 1 0 + n) ≡ cond t true (nat_lt 0 n)
more_marks true n = lt-ltb 0 (1 + n) (omega arith)
more_marks false n = ap (ltb 0) (zero-add n)

-- a pair is in the list if it is there some times
any_from : (p : Mark → Bool) (b : Bool) (items : List Mark) → fold (λ (found : Bool) (k : Mark). found || p k) b items ≡ (b || nat_lt 0 (count_by p items))
any_from p true [] = refl
any_from p false [] = refl
any_from p b (k ∷ items) =
    any_from p (b || p k) items ∙ join b (p k) (count_by p items)
    ∙ ap (λ (n : ℕ). b || nat_lt 0 n) (sym (sum_by-cons (λ (m : Mark). cond (p m) 1 0) k items))
  where
    join : (a t : Bool) (n : ℕ) → (a || t || nat_lt 0 n) ≡ (a || nat_lt 0 (cond t 1 0 + n))
    join true t n = refl
    join false true n = sym (more_marks true n)
    join false false n = sym (more_marks false n)

pub listed : (items : List Mark) (u v : ℕ) → list_marks items u v ≡ nat_lt 0 (times items u v)
listed items u v = any_from (λ k. is_pair k u v) false items

pub listed_true : (items : List Mark) (u v : ℕ) → 0 < times items u v → list_marks items u v ≡ true
listed_true items u v h = listed items u v ∙ lt-ltb 0 (times items u v) h

pub listed_false : (items : List Mark) (u v : ℕ) → times items u v ≡ 0 → list_marks items u v ≡ false
listed_false items u v e = listed items u v ∙ ap (ltb 0) e

marks_cons : (k : Mark) (items : List Mark) → list_marks (k ∷ items) ≡ put_mark (list_marks items) k.from k.to true
unfolding put_mark
marks_cons k items = fun_ext (λ u. fun_ext (λ v. listed (k ∷ items) u v ∙ ap (ltb 0) (times_cons k items u v) ∙ more_marks (is_pair k u v) (times items u v) ∙ ap (cond (is_pair k u v) true) (sym (listed items u v))))

-- The list has one place for each marked pair: a mark before others marks a pair that none of them does, since no pair is there
-- twice, and it is a pair of records that are present and so below 64.
pub pairs_listed : (present : ℕ) (items : List Mark) → Once items → PresentFrom present (list_marks items) → PresentTo present (list_marks items)
    → pairs (list_marks items) ≡ length items
pairs_listed present [] once from to = pairs_none
pairs_listed present (k ∷ items) once from to =
    let u = k.from in
    let v = k.to in
    let here : times (k ∷ items) u v ≡ 1 + times items u v = times_cons k items u v ∙ ap (λ (t : Bool). cond t 1 0 + times items u v) (is_pair_self k) in
    let first : times items u v ≡ 0 = omega (arith, once u v) in
    let marked : list_marks (k ∷ items) u v ≡ true = listed_true (k ∷ items) u v (omega arith) in
    let more : (x y : ℕ) → list_marks items x y ≡ true → list_marks (k ∷ items) x y ≡ true
    = λ x y h. listed_true (k ∷ items) x y (omega (arith, times_cons k items x y, ltb-true 0 (times items x y) (sym (listed items x y) ∙ h))) in
    let rest = pairs_listed present items (λ x y. omega (arith, once x y, times_cons k items x y)) (λ x y h. from x y (more x y h)) (λ x y h. to x y (more x y h)) in
    omega (
      arith,
      rest,
      ap pairs (marks_cons k items),
      pairs_put (list_marks items) u v true (has_bound present u (from u v marked)) (has_bound present v (to u v marked)),
      ap bit (listed_false items u v first),
    )
