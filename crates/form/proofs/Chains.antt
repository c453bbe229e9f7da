-- Chains of items with one more at the end. Assumes nothing.
use Rattle.std.proofs.Common.{◌≡◌, ℕ, ◌<◌, List, [], ◌∷◌, ◌++◌, length, get_or, refl, suc, arith}
use Rattle.form.specs.Laid.{Chain}

module _ {S A : Type 0} (Good : S → A → Type 0) (next : S → A → S) where
  -- the state behind all the items
  pub behind : S → List A → S
  behind s [] = s
  behind s (x ∷ xs) = behind (next s x) xs

  pub behind_more : (s : S) (xs : List A) (a : A) → behind s (xs ++ a ∷ []) ≡ next (behind s xs) a
  unfolding behind
  behind_more s [] a = refl
  behind_more s (x ∷ xs) a = behind_more (next s x) xs a

  pub behind_none : (s : S) → behind s [] ≡ s
  unfolding behind
  behind_none s = refl

  -- an item at the end is judged under the state behind all the others
  pub chain_more : (s : S) (xs : List A) (a : A) → Chain Good next s xs → Good (behind s xs) a → Chain Good next s (xs ++ a ∷ [])
  unfolding behind
  chain_more s [] a c good = (good, tt)
  chain_more s (x ∷ xs) a c good = (c.0, chain_more (next s x) xs a c.1 good)

-- where a state asks nothing of the items, each item is good by itself
pub chain_each : {S : Type 0} (Good : S → ℕ → Type 0) (next : S → ℕ → S) → (s : S) (xs : List ℕ)
    → ((t : S) (i : ℕ) → i < length xs → Good t (get_or xs i 0)) → Chain Good next s xs
chain_each Good next s [] each = tt
chain_each Good next s (x ∷ xs) each = (each s 0 (omega arith), chain_each Good next (next s x) xs (λ t i l. each t (suc i) (omega arith)))
