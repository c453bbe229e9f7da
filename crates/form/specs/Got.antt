-- What reading gives: a value and the bytes left, or the number of the first broken rule. Assumes nothing.
use Rattle.std.specs.Prelude.{ℕ, zero, suc, List, [], ◌∷◌, ◌++◌}

pub data Got (A : Type 0) : Type 0 where
  got : A → List ℕ → Got A
  stop : ℕ → Got A

-- reading on after a value
abbrev pub then : {A B : Type 0} → Got A → (A → List ℕ → Got B) → Got B
then (got a r) f = f a r
then (stop n) f = stop n

-- a list read, with others in front of it
abbrev pub front : {A : Type 0} → List A → Got (List A) → Got (List A)
front xs (got ys r) = got (xs ++ ys) r
front xs (stop n) = stop n

-- n items one after another: each is judged by `item` under a state, which `next` carries on
unfoldable pub many : {S A : Type 0} → (S → List ℕ → Got A) → (S → A → S) → ℕ → S → List ℕ → Got (List A)
many item next zero s bs = got [] bs
many item next (suc n) s bs = then (item s bs) (λ a r. front (a ∷ []) (many item next n (next s a) r))
