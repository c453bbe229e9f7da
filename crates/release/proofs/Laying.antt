-- Four sections, each after its count, are the layout of their contents. Assumes nothing.
use Rattle.std.proofs.Common.{◌≡◌, ℕ, List, [], ◌∷◌, ◌++◌, length, sym, refl, ap, ◌∙◌}
use Rattle.std.specs.List.{flat_map}
use Rattle.std.proofs.lemmas.List.{append-nil}
use Rattle.form.specs.Contents.{Contents}
use Rattle.form.specs.Laid.{alone, of_pair, of_two, laid_out}
use Rattle.arrayvec.specs.ArrayVec.{ArrayVec}
use Rattle.release.specs.Drafts.{Adds, DraftOf}
use Rattle.release.proofs.Adding.{adds_then, adds_as}

-- each number in a byte of its own
pub alone_same : (xs : List ℕ) → flat_map alone xs ≡ xs
alone_same [] = refl
alone_same (x ∷ xs) = ap (λ (ys : List ℕ). x ∷ ys) (alone_same xs)

-- the parts of a draft that was empty at first, one after another
pub laid : {d0 d1 d2 d3 d4 d5 d6 d7 d8 : ArrayVec ℕ} {n m k l : ℕ} (c : Contents) → d0.items ≡ []
    → n ≡ length c.records → m ≡ length c.marks → k ≡ length c.depths → l ≡ length c.ring
    → Adds d0 (n ∷ []) d1 → Adds d1 c.records d2 → Adds d2 (of_two m) d3 → Adds d3 (flat_map of_pair c.marks) d4
    → Adds d4 (k ∷ []) d5 → Adds d5 (flat_map of_two c.depths) d6 → Adds d6 (l ∷ []) d7 → Adds d7 c.ring d8
    → DraftOf c d8
laid {d0 = d0} {d8 = d8} c none en em ek el a b e f g h i j =
    let ring = adds_as (flat_map alone c.ring ++ []) (sym (append-nil (flat_map alone c.ring) ∙ alone_same c.ring)) j in
    let all = adds_then a (adds_then (adds_as (flat_map alone c.records) (sym (alone_same c.records)) b) (adds_then e (adds_then f (adds_then g (adds_then h (adds_then i ring)))))) in
    let whole : Adds d0 (laid_out c) d8 = adds_as (laid_out c) (counted en em ek el) all in
    record { bytes = whole.bytes ∙ ap (λ (xs : List ℕ). xs ++ laid_out c) none }
  where
    counted : {n m k l : ℕ} → n ≡ length c.records → m ≡ length c.marks → k ≡ length c.depths → l ≡ length c.ring
        → (n ∷ []) ++ (flat_map alone c.records ++ (of_two m ++ (flat_map of_pair c.marks ++ ((k ∷ []) ++ (flat_map of_two c.depths ++ ((l ∷ []) ++ (flat_map alone c.ring ++ []))))))) ≡ laid_out c
    counted en em ek el i =
        en i ∷ (flat_map alone c.records ++ (of_two (em i) ++ (flat_map of_pair c.marks ++ (ek i ∷ (flat_map of_two c.depths ++ (el i ∷ (flat_map alone c.ring ++ [])))))))
