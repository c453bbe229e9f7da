-- The end of a list, past its first places, is kept where each of those places is, and where a new front has the old front's length. Assumes nothing.
use Rattle.std.proofs.Common.{◌≡◌, ℕ, ◌+◌, ◌-◌, ◌≤◌, List, ◌++◌, length, get_or, drop, sym, ap, ◌∙◌, subst, arith, le_refl, length-drop, get_or-drop}
use Rattle.std.proofs.lemmas.List.{ext_get_or}
use Rattle.std.proofs.lemmas.Slice.{drop-append-drop}

pub end_kept : {X : Type 0} (none : X) (k : ℕ) (xs ys : List X) → length ys ≡ length xs → ((i : ℕ) → k ≤ i → get_or ys i none ≡ get_or xs i none) → drop k ys ≡ drop k xs
end_kept none k xs ys long kept = ext_get_or none (drop k ys) (drop k xs)
    (length-drop k ys ∙ ap (λ n. n - k) long ∙ sym (length-drop k xs))
    (λ i l. get_or-drop k ys i none ∙ kept (k + i) (omega arith) ∙ sym (get_or-drop k xs i none))

pub end_behind : {X : Type 0} (k : ℕ) (front rest xs : List X) → rest ≡ drop k xs → length front ≡ k → drop k (front ++ rest) ≡ drop k xs
end_behind k front rest xs e l = subst (λ (r : List _). drop k (front ++ r) ≡ drop k xs) (sym e) (drop-append-drop k xs front k (le_refl k) l)
