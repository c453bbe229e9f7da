-- Pairs put into rows of bits one after another. Assumes nothing.
use Rattle.std.proofs.Common.{◌≡◌, ℕ, zero, ◌<◌, ◌≤◌, ◌≢◌, Bool, true, false, not, ◌&&◌, ◌||◌, List, [], ◌∷◌, ◌++◌, length, eqb, get_or, replicate, slice_set, ◌⊎◌, ⊎_elim, inl, inr, refl, sym, ap, ◌∙◌, subst, arith, get_or-set_same, get_or-set_other}
use mathlib.Core.Path.{fun_ext}
use Rattle.std.proofs.lemmas.List.{get_or-replicate, get_or_past, length-replicate}
use Rattle.std.proofs.lemmas.Bool.{cases_eq, cases_lt, or_cases, eqb-true, eq-eqb, ne_eqb, and_parts, eqb-false, not-true}
use Rattle.model.specs.Sets.{has, put}
use Rattle.model.proofs.Digits.{has_zero, has_bound}
use Rattle.form.specs.Reading.{fits, not_before}
use Rattle.form.proofs.Lookups.{paired_append}
use Rattle.reading.specs.Claims.{row_marks, AreRows}

-- what a fitting pair is
pub record Fitting (set u v : ℕ) : Type 0 where
  pub from : has set u ≡ true
  pub to : has set v ≡ true
  pub apart : u ≡ v → ⊥

pub fitting : (set a b u v : ℕ) → fits (has set) a b u v ≡ true → Fitting set u v
fitting set a b u v e =
    let p = and_parts (has set u && (has set v && not (eqb u v))) (not_before a b u v) e in
    let q = and_parts (has set u) (has set v && not (eqb u v)) p.0 in
    let r = and_parts (has set v) (not (eqb u v)) q.1 in
    record { from = q.0; to = r.0; apart = eqb-false u v (not-true (eqb u v) r.1) }

or_true : (a : Bool) → (a || true) ≡ true
or_true true = refl
or_true false = refl

or_none : (a : Bool) → (a || false) ≡ a
or_none true = refl
or_none false = refl

-- one bit more of one row
rows_more : (rows : List ℕ) (u v row : ℕ) → u < length rows → has row ≡ put (has (get_or rows u 0)) v true
    → (x y : ℕ) → row_marks (slice_set rows u row) x y ≡ (row_marks rows x y || (eqb u x && eqb v y))
unfolding put
rows_more rows u v row l e x y = go (cases_eq u x) (cases_eq v y)
  where
    same : u ≡ x → row_marks (slice_set rows u row) x y ≡ has row y
    same i = ap (λ k. has (get_or (slice_set rows u row) k 0) y) (sym i) ∙ ap (λ r. has r y) (get_or-set_same rows u row 0 l)

    go : (u ≡ x) ⊎ (u ≡ x → ⊥) → (v ≡ y) ⊎ (v ≡ y → ⊥) → row_marks (slice_set rows u row) x y ≡ (row_marks rows x y || (eqb u x && eqb v y))
    go (inl i) (inl j) =
        same i ∙ ap (λ (h : ℕ → Bool). h y) e ∙ rw (eq-eqb y v (sym j), eq-eqb u x i, eq-eqb v y j) (sym (or_true (row_marks rows x y)))
    go (inl i) (inr n) =
        same i ∙ ap (λ (h : ℕ → Bool). h y) e ∙ rw (ne_eqb y v (λ j. n (sym j)), ne_eqb v y n, eq-eqb u x i) (ap (λ k. has (get_or rows k 0) y) i ∙ sym (or_none (row_marks rows x y)))
    go (inr n) k = let ne : x ≢ u = λ i. n (sym i) in ap (λ r. has r y) (get_or-set_other rows u x row 0 ne) ∙ rw (ne_eqb u x n) (sym (or_none (row_marks rows x y)))

pub zeros : (x : ℕ) → ◌≡◌ {A = ℕ} (get_or (replicate 64 0) x 0) 0
zeros x = go (cases_lt x 64)
  where
    go : (x < 64) ⊎ (64 ≤ x) → ◌≡◌ {A = ℕ} (get_or (replicate 64 0) x 0) 0
    go (inl l) = get_or-replicate 64 x 0 0 l
    go (inr l) = get_or_past (replicate 64 0) x 0 (omega (arith, length-replicate 64 (zero)))

pub row_past : (rows : List ℕ) (u v : ℕ) → length rows ≤ u → row_marks rows u v ≡ false
row_past rows u v l = ap (λ r. has r v) (get_or_past rows u 0 l) ∙ has_zero v

clash : {b : Bool} → b ≡ false → b ≡ true → ⊥
clash p q = cc

pub rows_none : (set : ℕ) → AreRows set [] (replicate 64 0)
rows_none set = record {
  paired = fun_ext (λ x. fun_ext (λ y. sym (none x y)));
  drawn = record { below = has_bound set; from = λ x y e. absurd (clash (none x y) e); to = λ x y e. absurd (clash (none x y) e); apart = λ x y e. absurd (clash (none x y) e) };
}
  where
    none : (x y : ℕ) → row_marks (replicate 64 0) x y ≡ false
    none x y = ap (λ r. has r y) (zeros x) ∙ has_zero y

-- The pair u, v after those before it: it is marked, and what is marked is drawn still, since u and v are two records.
pub rows_with : (set u v row : ℕ) (ys : List (ℕ × ℕ)) (rows : List ℕ) → Fitting set u v → u < length rows → has row ≡ put (has (get_or rows u 0)) v true
    → AreRows set ys rows → AreRows set (ys ++ (u, v) ∷ []) (slice_set rows u row)
rows_with set u v row ys rows f l e r = record {
  paired = fun_ext (λ x. fun_ext (λ y.
      paired_append ys ((u, v) ∷ []) x y
      ∙ ap (λ (p : ℕ → ℕ → Bool). p x y || ((eqb u x && eqb v y) || false)) r.paired
      ∙ ap (λ b. row_marks rows x y || b) (or_none (eqb u x && eqb v y))
      ∙ sym (rows_more rows u v row l e x y)));
  drawn = record {
    below = has_bound set;
    from = λ x y m. told x y m (λ (a b : ℕ). has set a ≡ true) f.from (r.drawn.from x y);
    to = λ x y m. told x y m (λ (a b : ℕ). has set b ≡ true) f.to (r.drawn.to x y);
    apart = λ x y m. told x y m (λ (a b : ℕ). a ≡ b → ⊥) f.apart (r.drawn.apart x y);
  };
}
  where
    told : (x y : ℕ) → row_marks (slice_set rows u row) x y ≡ true → (P : ℕ → ℕ → Type 0) → P u v → (row_marks rows x y ≡ true → P x y) → P x y
    told x y m P new old = ⊎_elim old
        (λ (t : (eqb u x && eqb v y) ≡ true).
        let p = and_parts (eqb u x) (eqb v y) t in
        subst (λ (k : ℕ). P k y) (eqb-true u x p.0) (subst (λ (k : ℕ). P u k) (eqb-true v y p.1) new))
        (or_cases (row_marks rows x y) (eqb u x && eqb v y) (sym (rows_more rows u v row l e x y) ∙ m))
