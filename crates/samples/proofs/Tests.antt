-- Tests of the numbers below a bound, and of lists of them, which compute where the bound is written out. Assumes nothing.
use Rattle.std.proofs.Common.{◌≡◌, ℕ, zero, suc, ◌<◌, ◌≤◌, Bool, true, false, not, ◌&&◌, ◌||◌, List, [], ◌∷◌, length, get_or, eqb, ⊎_elim, refl, subst, ap₂, arith}
use Rattle.std.proofs.lemmas.Bool.{and_parts, and_from, cases_lt, eqb-true}
use Rattle.model.proofs.Steps.{clash}

-- the test holds of each number below n
abbrev pub below : ℕ → (ℕ → Bool) → Bool
below zero p = true
below (suc n) p = p n && below n p

pub below_at : (n : ℕ) (p : ℕ → Bool) (i : ℕ) → below n p ≡ true → i < n → p i ≡ true
below_at zero p i e l = absurd (omega arith)
below_at (suc n) p i e l = ⊎_elim
    (λ (under : i < n). below_at n p i (and_parts (p n) (below n p) e).1 under)
    (λ (over : n ≤ i). let same : n ≡ i = omega arith in subst (λ (k : ℕ). p k ≡ true) same (and_parts (p n) (below n p) e).0)
    (cases_lt i n)

-- of each two numbers below n
abbrev pub below_two : ℕ → (ℕ → ℕ → Bool) → Bool
below_two n p = below n (λ u. below n (p u))

pub below_two_at : (n : ℕ) (p : ℕ → ℕ → Bool) (u v : ℕ) → below_two n p ≡ true → u < n → v < n → p u v ≡ true
below_two_at n p u v e l m = below_at n (p u) v (below_at n (λ u. below n (p u)) u e l) m

-- if the first test holds, then the second
abbrev pub implies : Bool → Bool → Bool
implies a b = not a || b

pub implied : (a b : Bool) → implies a b ≡ true → a ≡ true → b ≡ true
implied true b e f = e
implied false b e f = absurd (clash false f refl)

pub not_true : (b : Bool) → not b ≡ true → b ≡ false
not_true true e = absurd (clash false e refl)
not_true false e = refl

pub below_from : (n : ℕ) (p : ℕ → Bool) → ((i : ℕ) → i < n → p i ≡ true) → below n p ≡ true
below_from zero p h = refl
below_from (suc n) p h = and_from (p n) (below n p) (h n (omega arith)) (below_from n p (λ i l. h i (omega arith)))

-- of each list of k numbers below n
abbrev pub every : ℕ → ℕ → (List ℕ → Bool) → Bool
every n zero p = p []
every n (suc k) p = below n (λ x. every n k (λ xs. p (x ∷ xs)))

pub every_at : (n k : ℕ) (p : List ℕ → Bool) (xs : List ℕ) → every n k p ≡ true → length xs ≡ k
    → ((i : ℕ) → i < length xs → get_or xs i 0 < n) → p xs ≡ true
every_at n zero p [] e l low = e
every_at n zero p (x ∷ xs) e l low = absurd (omega arith)
every_at n (suc k) p [] e l low = absurd (omega arith)
every_at n (suc k) p (x ∷ xs) e l low =
    let first = below_at n (λ x. every n k (λ ys. p (x ∷ ys))) x e (low 0 (omega arith)) in
    every_at n k (λ ys. p (x ∷ ys)) xs first (omega arith) (λ i m. low (suc i) (omega arith))

-- two lists have the same numbers
abbrev pub same_list : List ℕ → List ℕ → Bool
same_list [] [] = true
same_list [] (y ∷ ys) = false
same_list (x ∷ xs) [] = false
same_list (x ∷ xs) (y ∷ ys) = eqb x y && same_list xs ys

pub same_list_is : (xs ys : List ℕ) → same_list xs ys ≡ true → xs ≡ ys
same_list_is [] [] e = refl
same_list_is [] (y ∷ ys) e = absurd (clash false e refl)
same_list_is (x ∷ xs) [] e = absurd (clash false e refl)
same_list_is (x ∷ xs) (y ∷ ys) e =
    let p = and_parts (eqb x y) (same_list xs ys) e in
    ap₂ (λ (a : ℕ) (rest : List ℕ). a ∷ rest) (eqb-true x y p.0) (same_list_is xs ys p.1)
