-- What stands, what is marked and how deep a record is, looked up in the lists of a finding. Assumes nothing.
use Rattle.std.proofs.Common.{◌≡◌, ℕ, zero, suc, ◌<◌, ◌≤◌, Bool, true, false, cond, ◌&&◌, ◌||◌, List, [], ◌∷◌, ◌++◌, length, eqb, ltb, ℤ, nat_abs, ◌⊎◌, inl, inr, sym, refl, ap, ap₂, ◌∙◌, arith}
use Rattle.std.proofs.lemmas.List.{append-nil}
use Rattle.std.proofs.lemmas.Bool.{cases_eq, cases_lt, lt-ltb, le-ltb, eq-eqb, ne_eqb}
use Rattle.model.specs.Views.{View}
use Rattle.form.specs.Contents.{listed, paired, beside}
use Rattle.form.specs.Sections.{one_if, records_below, marks_from, marks_below, depths_below}
use Rattle.form.proofs.Listing.{depths_long}

or_assoc : (a b c : Bool) → (a || (b || c)) ≡ ((a || b) || c)
or_assoc true b c = refl
or_assoc false b c = refl

or_none : (a : Bool) → (a || false) ≡ a
or_none true = refl
or_none false = refl

and_true : (a : Bool) → (a && true) ≡ a
and_true true = refl
and_true false = refl

and_false : (a : Bool) → (a && false) ≡ false
and_false true = refl
and_false false = refl

-- behind others
pub listed_append : (xs ys : List ℕ) (u : ℕ) → listed (xs ++ ys) u ≡ (listed xs u || listed ys u)
listed_append [] ys u = refl
listed_append (x ∷ xs) ys u = ap (λ b. eqb x u || b) (listed_append xs ys u) ∙ or_assoc (eqb x u) (listed xs u) (listed ys u)

pub paired_append : (ps qs : List (ℕ × ℕ)) (u v : ℕ) → paired (ps ++ qs) u v ≡ (paired ps u v || paired qs u v)
paired_append [] qs u v = refl
paired_append (p ∷ ps) qs u v = ap (λ b. (eqb p.0 u && eqb p.1 v) || b) (paired_append ps qs u v) ∙ or_assoc (eqb p.0 u && eqb p.1 v) (paired ps u v) (paired qs u v)

-- A list of the numbers below n that pass, looked up at u: below n + 1 it is n itself, or one below n.
below_more : (n u : ℕ) (f : ℕ → Bool) → ((ltb u n && f u) || (f n && eqb n u)) ≡ (ltb u (suc n) && f u)
below_more n u f = go (cases_eq u n) (cases_lt u n)
  where
    go : (u ≡ n) ⊎ (u ≡ n → ⊥) → (u < n) ⊎ (n ≤ u) → ((ltb u n && f u) || (f n && eqb n u)) ≡ (ltb u (suc n) && f u)
    go (inl e) l = let a : n ≤ u = omega arith in let b : u < suc n = omega arith in rw (le-ltb u n a, eq-eqb n u (sym e), lt-ltb u (suc n) b) (and_true (f n) ∙ ap f (sym e))
    go (inr ne) (inl l) = let b : u < suc n = omega arith in rw (lt-ltb u n l, lt-ltb u (suc n) b, ne_eqb n u (λ e. ne (sym e)), and_false (f n)) (or_none (f u))
    go (inr ne) (inr l) = let b : suc n ≤ u = omega arith in rw (le-ltb u n l, le-ltb u (suc n) b, ne_eqb n u (λ e. ne (sym e)), and_false (f n)) refl

listed_one : (b : Bool) (n u : ℕ) → listed (one_if b n) u ≡ (b && eqb n u)
listed_one true n u = or_none (eqb n u)
listed_one false n u = refl

pub listed_below : (w : View) (n u : ℕ) → listed (records_below w n) u ≡ (ltb u n && w.stands u)
unfolding records_below
listed_below w zero u = let l : 0 ≤ u = omega arith in rw (le-ltb u 0 l) refl
listed_below w (suc n) u =
    listed_append (records_below w n) (one_if (w.stands n) n) u
    ∙ ap₂ (λ (a b : Bool). a || b) (listed_below w n u) (listed_one (w.stands n) n u)
    ∙ below_more n u w.stands

paired_one : (b : Bool) (a n u v : ℕ) → paired (one_if b (a, n)) u v ≡ (eqb a u && (b && eqb n v))
paired_one true a n u v = or_none (eqb a u && eqb n v)
paired_one false a n u v = sym (and_false (eqb a u))

paired_from : (w : View) (a n u v : ℕ) → paired (marks_from w a n) u v ≡ (eqb a u && (ltb v n && w.marked a v))
unfolding marks_from
paired_from w a zero u v = let l : 0 ≤ v = omega arith in rw (le-ltb v 0 l) (sym (and_false (eqb a u)))
paired_from w a (suc n) u v =
    paired_append (marks_from w a n) (one_if (w.marked a n) (a, n)) u v
    ∙ ap₂ (λ (x y : Bool). x || y) (paired_from w a n u v) (paired_one (w.marked a n) a n u v)
    ∙ go (eqb a u) (ltb v n && w.marked a v) (w.marked a n && eqb n v)
    ∙ ap (λ b. eqb a u && b) (below_more n v (w.marked a))
  where
    go : (a b c : Bool) → ((a && b) || (a && c)) ≡ (a && (b || c))
    go true b c = refl
    go false b c = refl

-- The marks from numbers below n, row by row: a pair u, v is there just where u is below n and the row of u has it.
pub paired_below : (w : View) (n u v : ℕ) → paired (marks_below w n) u v ≡ (ltb u n && (ltb v 64 && w.marked u v))
unfolding marks_below
paired_below w zero u v = let l : 0 ≤ u = omega arith in rw (le-ltb u 0 l) refl
paired_below w (suc n) u v =
    paired_append (marks_below w n) (marks_from w n 64) u v
    ∙ ap₂ (λ (x y : Bool). x || y) (paired_below w n u v) (paired_from w n 64 u v ∙ turn (eqb n u) (ltb v 64 && w.marked n v))
    ∙ below_more n u (λ x. ltb v 64 && w.marked x v)
  where
    turn : (a b : Bool) → (a && b) ≡ (b && a)
    turn true true = refl
    turn true false = refl
    turn false true = refl
    turn false false = refl

-- a depth behind as many as there are records before it
beside_append : (xs ds : List ℕ) (x d u : ℕ) → length xs ≡ length ds
    → beside (xs ++ x ∷ []) (ds ++ d ∷ []) u ≡ cond (listed xs u) (beside xs ds u) (cond (eqb x u) d 0)
beside_append [] [] x d u e = refl
beside_append [] (b ∷ ds) x d u e = absurd (omega arith)
beside_append (a ∷ xs) [] x d u e = absurd (omega arith)
beside_append (a ∷ xs) (b ∷ ds) x d u e = go (eqb a u) (beside_append xs ds x d u (omega arith))
  where
    go : (t : Bool) → beside (xs ++ x ∷ []) (ds ++ d ∷ []) u ≡ cond (listed xs u) (beside xs ds u) (cond (eqb x u) d 0)
        → cond t b (beside (xs ++ x ∷ []) (ds ++ d ∷ []) u) ≡ cond (t || listed xs u) (cond t b (beside xs ds u)) (cond (eqb x u) d 0)
    go true more = refl
    go false more = more

-- nothing stands beside a number that is not listed
beside_none : (xs ds : List ℕ) (u : ℕ) → listed xs u ≡ false → beside xs ds u ≡ 0
beside_none [] ds u e = refl
beside_none (x ∷ xs) [] u e = refl
beside_none (x ∷ xs) (d ∷ ds) u e = go (eqb x u) e (beside_none xs ds u)
  where
    go : (t : Bool) → (t || listed xs u) ≡ false → (listed xs u ≡ false → beside xs ds u ≡ 0) → cond t d (beside xs ds u) ≡ 0
    go true a rest = cc
    go false a rest = rest a

beside_one : (b : Bool) (xs ds : List ℕ) (n d u : ℕ) → length xs ≡ length ds
    → beside (xs ++ one_if b n) (ds ++ one_if b d) u ≡ cond (listed xs u) (beside xs ds u) (cond (b && eqb n u) d 0)
beside_one true xs ds n d u e = beside_append xs ds n d u e
beside_one false xs ds n d u e = ap₂ (λ (ys es : List ℕ). beside ys es u) (append-nil xs) (append-nil ds) ∙ go (listed xs u) (beside_none xs ds u)
  where
    go : (t : Bool) → (t ≡ false → beside xs ds u ≡ 0) → beside xs ds u ≡ cond t (beside xs ds u) 0
    go true none = refl
    go false none = none refl

-- below n + 1 a record is n itself, or one below n
deep_more : (f : ℕ → Bool) (d : ℕ → ℕ) (n u : ℕ)
    → cond (ltb u n && f u) (cond (ltb u n && f u) (d u) 0) (cond (f n && eqb n u) (d n) 0) ≡ cond (ltb u (suc n) && f u) (d u) 0
deep_more f d n u = go (cases_eq u n) (cases_lt u n)
  where
    once : (t : Bool) (x : ℕ) → cond t (cond t x 0) 0 ≡ cond t x 0
    once true x = refl
    once false x = refl

    go : (u ≡ n) ⊎ (u ≡ n → ⊥) → (u < n) ⊎ (n ≤ u)
        → cond (ltb u n && f u) (cond (ltb u n && f u) (d u) 0) (cond (f n && eqb n u) (d n) 0) ≡ cond (ltb u (suc n) && f u) (d u) 0
    go (inl e) l = let a : n ≤ u = omega arith in let b : u < suc n = omega arith in rw (le-ltb u n a, eq-eqb n u (sym e), lt-ltb u (suc n) b, and_true (f n)) (ap (λ k. cond (f k) (d k) 0) (sym e))
    go (inr ne) (inl l) = let b : u < suc n = omega arith in rw (lt-ltb u n l, lt-ltb u (suc n) b, ne_eqb n u (λ e. ne (sym e)), and_false (f n)) (once (f u) (d u))
    go (inr ne) (inr l) = let b : suc n ≤ u = omega arith in rw (le-ltb u n l, le-ltb u (suc n) b, ne_eqb n u (λ e. ne (sym e)), and_false (f n)) refl

-- The depth beside u among those of the records below n is that of u's grade.
pub beside_below : (w : View) (g : ℕ → ℤ) (n u : ℕ) → beside (records_below w n) (depths_below w g n) u ≡ cond (ltb u n && w.stands u) (nat_abs (g u)) 0
unfolding records_below depths_below
beside_below w g zero u = let l : 0 ≤ u = omega arith in rw (le-ltb u 0 l) refl
beside_below w g (suc n) u =
    beside_one (w.stands n) (records_below w n) (depths_below w g n) n (nat_abs (g n)) u (sym (depths_long w g n))
    ∙ ap₂ (λ (t : Bool) (b : ℕ). cond t b (cond (w.stands n && eqb n u) (nat_abs (g n)) 0)) (listed_below w n u) (beside_below w g n u)
    ∙ deep_more w.stands (λ k. nat_abs (g k)) n u
