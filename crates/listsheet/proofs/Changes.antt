-- A mark found in the list, added after the others or taken away. Assumes nothing.
use Rattle.std.specs.Prelude.{◌≡◌, ℕ, ◌+◌, ◌<◌, ◌≤◌, Bool, true, false, cond, not, ◌&&◌, ltb, List, [], ◌∷◌, ◌++◌, length, ◌==◌, nat_lt, count_by, Some, None, refl}
use Rattle.std.proofs.Common.{sym, ap₂, ◌∙◌, arith}
use Rattle.std.proofs.Math.Path.{ap, fun_ext}
use Rattle.std.specs.List.{position, position_or_len, swap_remove}
use Rattle.std.proofs.lemmas.Bool.{and_parts, ltb-false, eqb-true}
use Rattle.std.proofs.lemmas.List.{get_or_default}
use Rattle.std.proofs.lemmas.List.Sums.{sum_by-cons, sum_by_push, get_or-le-sum_by, sum_by-swap_remove}
use Rattle.std.proofs.lemmas.List.Quantifiers.{position-Some}
use Rattle.sheet.specs.Meanings.{empty}
use Rattle.sheet.specs.Calls.{put_mark}
use Rattle.sheet.proofs.Keeping.{bare_empty}
use Rattle.listsheet.specs.Listed.{more_marks, listed, listed_true, listed_false}
use Rattle.listsheet.specs.declared.marks.Mark.{Mark}
use Rattle.listsheet.specs.Places.{mark_of, place, is_pair, times, list_marks, Once, list_meaning}

pub none_empty : {present : ℕ} {items : List Mark} → present ≡ 0 → items ≡ [] → list_meaning present items ≡ empty 512
none_empty none e = bare_empty 512 none (ap list_marks e) (ap (length {A = Mark}) e)

is_pair_same : (k : Mark) (u v : ℕ) → is_pair k u v ≡ true → (x y : ℕ) → is_pair k x y ≡ (x == u && y == v)
is_pair_same k u v e x y =
    let p = and_parts (u == k.from) (v == k.to) e in
    ap₂ (λ (a b : ℕ). (x == a) && y == b) (sym (eqb-true u k.from p.0)) (sym (eqb-true v k.to p.1))

times_push : (items : List Mark) (k : Mark) (u v : ℕ) → times (items ++ k ∷ []) u v ≡ times items u v + cond (is_pair k u v) 1 0
times_push items k u v = sum_by_push (λ (m : Mark). cond (is_pair m u v) 1 0) items k

pub marks_pushed : (items : List Mark) (u v : ℕ) → list_marks (items ++ mark_of u v ∷ []) ≡ put_mark (list_marks items) u v true
unfolding put_mark
marks_pushed items u v = fun_ext (λ x. fun_ext (λ y.
    listed (items ++ mark_of u v ∷ []) x y ∙ ap (ltb 0) (times_push items (mark_of u v) x y ∙ omega arith)
    ∙ more_marks (is_pair (mark_of u v) x y) (times items x y) ∙ ap (cond (is_pair (mark_of u v) x y) true) (sym (listed items x y))))

-- what was not in the list is in it once then
pub once_pushed : (items : List Mark) (u v : ℕ) → list_marks items u v ≡ false → Once items → Once (items ++ mark_of u v ∷ [])
once_pushed items u v bare once x y = go (x == u && y == v) refl
  where
    go : (t : Bool) → (x == u && y == v) ≡ t → times (items ++ mark_of u v ∷ []) x y ≤ 1
    go true e =
        let p = and_parts (x == u) (y == v) e in
        let none : times items x y ≡ 0 = ap₂ (times items) (eqb-true x u p.0) (eqb-true y v p.1) ∙ omega (arith, ltb-false 0 (times items u v) (sym (listed items u v) ∙ bare)) in
        omega (arith, times_push items (mark_of u v) x y, ap (λ (t : Bool). cond {A = ℕ} t 1 0) e)
    go false e = omega (arith, times_push items (mark_of u v) x y, ap (λ (t : Bool). cond {A = ℕ} t 1 0) e, once x y)

-- the pair at a place taken away
module _ (items : List Mark) (k : ℕ) (there : k < length items) where
  times_removed : (x y : ℕ) → times (swap_remove items k (place items k)) x y + cond (is_pair (place items k) x y) 1 0 ≡ times items x y
  times_removed x y =
      let f = λ (m : Mark). cond {A = ℕ} (is_pair m x y) 1 0 in
      ap (λ (m : Mark). times (swap_remove items k (place items k)) x y + f m) (sym (get_or_default items k (place items k) (mark_of 0 0) there))
      ∙ sum_by-swap_remove f items k (place items k) there

  pub once_removed : Once items → Once (swap_remove items k (place items k))
  once_removed once x y = omega (arith, times_removed x y, once x y)

  -- the pair was in no other place, so it is marked no longer
  pub marks_removed : (u v : ℕ) → is_pair (place items k) u v ≡ true → Once items
      → list_marks (swap_remove items k (place items k)) ≡ put_mark (list_marks items) u v false
  unfolding put_mark
  marks_removed u v e once = fun_ext (λ x. fun_ext (λ y. go x y (x == u && y == v) (is_pair_same (place items k) u v e x y)))
    where
      go : (x y : ℕ) (t : Bool) → is_pair (place items k) x y ≡ t
          → list_marks (swap_remove items k (place items k)) x y ≡ cond t false (list_marks items x y)
      go x y true i =
          let none : times (swap_remove items k (place items k)) x y ≡ 0
          = omega (arith, times_removed x y, ap (λ (t : Bool). cond {A = ℕ} t 1 0) i, once x y) in
          listed_false (swap_remove items k (place items k)) x y none
      go x y false i =
          let same : times (swap_remove items k (place items k)) x y ≡ times items x y
          = omega (arith, times_removed x y, ap (λ (t : Bool). cond {A = ℕ} t 1 0) i) in
          listed (swap_remove items k (place items k)) x y ∙ ap (ltb 0) same ∙ sym (listed items x y)

-- what a search from the front finds
none_before : (p : Mark → Bool) (items : List Mark) → length items ≤ position_or_len p items → count_by p items ≡ 0
none_before p [] h = refl
none_before p (k ∷ items) h = sum_by-cons (λ (m : Mark). cond (p m) 1 0) k items ∙ go (p k) h (none_before p items)
  where
    go : (t : Bool) → length (k ∷ items) ≤ cond (not t) (1 + position_or_len p items) 0 → (length items ≤ position_or_len p items → count_by p items ≡ 0)
        → cond t 1 0 + count_by p items ≡ 0
    go true l rest = absurd (omega arith)
    go false l rest = omega (arith, rest (omega arith))

-- a pair in some place is marked
pub listed_at : (items : List Mark) (k u v : ℕ) → k < length items → is_pair (place items k) u v ≡ true → list_marks items u v ≡ true
listed_at items k u v h e =
    let some = get_or-le-sum_by (λ (m : Mark). cond {A = ℕ} (is_pair m u v) 1 0) items k (mark_of 0 0) h in
    listed_true items u v (omega (arith, some, ap (λ (t : Bool). cond {A = ℕ} t 1 0) e))

-- a place that is found has the pair
pub found_there : (items : List Mark) (u v k : ℕ) → position (λ m. is_pair m u v) items ≡ Some k
    → (k < length items) × (is_pair (place items k) u v ≡ true) × (list_marks items u v ≡ true)
found_there items u v k e =
    let p = position-Some (λ m. is_pair m u v) items k (mark_of 0 0) e in
    (p.0, p.1, listed_at items k u v p.0 p.1)

pub found_nowhere : (items : List Mark) (u v : ℕ) → position (λ m. is_pair m u v) items ≡ None → list_marks items u v ≡ false
found_nowhere items u v = go (nat_lt (position_or_len p items) (length items)) refl
  where
    p : Mark → Bool
    p m = is_pair m u v

    go : (t : Bool) → nat_lt (position_or_len p items) (length items) ≡ t → cond t (Some (position_or_len p items)) None ≡ None → list_marks items u v ≡ false
    go true e h = cc
    go false e h = listed_false items u v (none_before p items (ltb-false (position_or_len p items) (length items) e))
