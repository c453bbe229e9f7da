-- One call more of a list. Assumes nothing.
use Rattle.std.proofs.Common.{◌≡◌, ℕ, zero, suc, ◌+◌, ◌<◌, List, [], ◌∷◌, ◌++◌, length, get_or, take, sym, refl, ap, ◌∙◌, add-one, arith, below_more}
use Rattle.std.proofs.lemmas.List.{get_or_append_left}
use Rattle.std.proofs.Math.Seq.{get_or-append_seam}
use Rattle.layers.specs.Folders.{Account}
use Rattle.archive.specs.declared.call.Call.{Call}
use Rattle.archive.specs.Accounts.{next, run}

pub run_next : (a : Account) (cs : List Call) (i : ℕ) (d : Call) → i < length cs → run a (take (suc i) cs) ≡ next (run a (take i cs)) (get_or cs i d)
unfolding run
run_next a [] i d h = absurd (omega arith)
run_next a (c ∷ cs) zero d h = refl
run_next a (c ∷ cs) (suc i) d h = run_next (next a c) cs i d (omega arith)

pub run_more : (a : Account) (cs : List Call) (i : ℕ) (d : Call) → i < length cs → run a (take (i + 1) cs) ≡ next (run a (take i cs)) (get_or cs i d)
run_more a cs i d h = ap (λ (n : ℕ). run a (take n cs)) (add-one i) ∙ run_next a cs i d h

-- one more at the end of a list, of which each place has its fact
pub each_push : {X : Type 0} (P : ℕ → X → Type 0) (xs : List X) (n : ℕ) (x d : X) {ys : List X} → length xs ≡ n → ys ≡ xs ++ (x ∷ []) → P n x
    → ((k : ℕ) → k < n → P k (get_or xs k d)) → (k : ℕ) → k < n + 1 → P k (get_or ys k d)
each_push P xs n x d {ys = ys} long is right all =
    below_more (λ k. P k (get_or ys k d)) n (λ k h. rw is (rw (get_or_append_left xs (x ∷ []) d k (omega arith)) (all k h))) (rw is (rw last right))
  where
    last : get_or (xs ++ (x ∷ [])) n d ≡ x
    last = ap (λ (i : ℕ). get_or (xs ++ (x ∷ [])) i d) (sym long) ∙ get_or-append_seam xs x [] d
