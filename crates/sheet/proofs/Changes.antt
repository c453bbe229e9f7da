-- One changed mark: what it keeps, and how it changes the number of marked pairs. Assumes nothing.
use Rattle.std.specs.Prelude.{◌≡◌, ℕ, ◌+◌, ◌<◌, Bool, true, false, cond, ◌&&◌, ◌⊎◌, ◌==◌, ◌≢◌, nat_eq}
use Rattle.std.proofs.Math.Path.{refl, subst}
use Rattle.std.proofs.Common.{sym, ap, ◌∙◌, inl, inr, arith}
use Rattle.std.proofs.lemmas.Bool.{cases_Bool, and_parts, both_ways, eqb-true, eqb-false, eq-eqb, ne_eqb}
use Rattle.model.specs.Rings.{bit, sum_to}
use Rattle.model.proofs.Sums.{sum_same, sum_zero, sum_change}
use Rattle.sheet.specs.Meanings.{pairs}
use Rattle.sheet.specs.Calls.{put_mark}

-- what a changed mark keeps
module _ (m : ℕ → ℕ → Bool) (u v : ℕ) (b : Bool) where
  -- what holds of u and v, and of every pair that was marked, holds of every pair that is marked then
  pub put_keeps : (P : ℕ → ℕ → Type 0) → P u v → ((x y : ℕ) → m x y ≡ true → P x y) → (x y : ℕ) → put_mark m u v b x y ≡ true → P x y
  unfolding put_mark
  put_keeps P here there x y = go (x == u && y == v) refl
    where
      go : (t : Bool) → (x == u && y == v) ≡ t → cond t b (m x y) ≡ true → P x y
      go true e h =
          let p = and_parts (x == u) (y == v) e in
          subst (λ (a : ℕ). P a y) (sym (eqb-true x u p.0)) (subst (λ (c : ℕ). P u c) (sym (eqb-true y v p.1)) here)
      go false e h = there x y h

  pub put_irreflexive : nat_eq u v ≡ false → ((x : ℕ) → m x x ≡ false) → (x : ℕ) → put_mark m u v b x x ≡ false
  put_irreflexive ne free x = go (cases_Bool (put_mark m u v b x x))
    where
      go : (put_mark m u v b x x ≡ true) ⊎ (put_mark m u v b x x ≡ false) → put_mark m u v b x x ≡ false
      go (inl e) = absurd (put_keeps (λ p q. p ≢ q) (eqb-false u v ne) (λ p q h i. both_ways (m p q) (ap (m p) (sym i) ∙ free p) h) x x e refl)
      go (inr e) = e

pub pairs_none : pairs (λ u v. false) ≡ 0
unfolding pairs
pairs_none = sum_same (λ u. sum_to (λ v. 0) 64) (λ u. 0) 64 (λ u l. sum_zero 64) ∙ sum_zero 64

-- One changed mark changes the count by what that mark changes.
-- Only row u differs from before, and in it only the place v.
pub pairs_put : (m : ℕ → ℕ → Bool) (u v : ℕ) (b : Bool) → u < 64 → v < 64 → pairs (put_mark m u v b) + bit (m u v) ≡ pairs m + bit b
unfolding pairs put_mark
pairs_put m u v b hu hv =
    let new = put_mark m u v b in
    let row = sum_change (λ y. bit (new u y)) (λ y. bit (m u y)) 64 v hv (λ k ne. simp (eq-eqb u u refl, ne_eqb k v ne)) in
    let here : bit (put_mark m u v b u v) ≡ bit b = simp (eq-eqb u u refl, eq-eqb v v refl) in
    let all = sum_change (λ x. sum_to (λ y. bit (new x y)) 64) (λ x. sum_to (λ y. bit (m x y)) 64) 64 u hu (λ k ne. simp (ne_eqb k u ne)) in
    omega arith
