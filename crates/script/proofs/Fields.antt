-- Where the numbers of a line are cut.
use Rattle.std.proofs.Common.{◌≡◌, ℕ, zero, suc, ◌-◌, ◌<◌, ◌≤◌, ◌⊎◌, List, ◌∷◌, ◌++◌, length, get_or, take, drop, Some, None, decimal, Option, sym, refl, ap, ◌∙◌, subst, ap₂, inl, inr, arith, length-append, take-append-drop, MatchOption}
use Rattle.std.proofs.Math.Seq.{take-append_seam, drop-append_seam, get_or-append_seam, get_or-append_right}
use Rattle.std.proofs.lemmas.Bool.{cases_lt}
use Rattle.std.specs.Int.{IsInRange}
use Rattle.std.specs.Option.{option_zip}
use Rattle.script.specs.Numbers.{field, Field, NoField}
use Rattle.script.specs.Lines.{Fields, NoFields}
use Rattle.script.specs.Cuts.{LastAt}
use Rattle.script.proofs.Digits.{number_digit}

-- no digit is a space
clean : (n : ℕ) → n < 10000000 → (i : ℕ) → i < length (decimal n) → get_or (decimal n) i 0 ≡ 32 → ⊥
clean n h i l e =
    let d : IsInRange 48 57 (get_or (decimal n) i 0) = number_digit (decimal n) n (record { small = h; is = refl }) i l in
    omega arith

past_first : (x : ℕ) (xs : List ℕ) (j : ℕ) → 0 < j → get_or (x ∷ xs) j 0 ≡ get_or xs (j - 1) 0
past_first x xs zero h = absurd (omega arith)
past_first x xs (suc j) h = let e : j ≡ suc j - 1 = omega arith in ap (λ (i : ℕ). get_or xs i 0) e

-- of two fields, the last space is that of the second
pub second_space : (n m : ℕ) → m < 10000000 → LastAt 32 (field n ++ field m) (length (field n))
second_space n m b = record {
  within = omega (arith, length-append (field n) (field m));
  found = get_or-append_seam (field n) 32 (decimal m) 0;
  after = λ i h l e. let j = i - length (field n) in
      clean m b (j - 1) (omega (arith, length-append (field n) (field m)))
      (sym (get_or-append_right (field n) (field m) i 0 (omega arith) ∙ past_first 32 (decimal m) j (omega arith)) ∙ e);
}

-- there is one last place only
last_once : (mark : ℕ) (bs : List ℕ) (j k : ℕ) → LastAt mark bs j → LastAt mark bs k → j ≡ k
last_once mark bs j k p q = go (cases_lt j k) (cases_lt k j)
  where
    go : (j < k) ⊎ (k ≤ j) → (k < j) ⊎ (j ≤ k) → j ≡ k
    go (inl l) o = absurd (p.after k l q.within q.found)
    go (inr l) (inl m) = absurd (q.after j m p.within p.found)
    go (inr l) (inr m) = omega arith

-- two fields, cut at that space, are one and one
module _ (bs : List ℕ) (k n m : ℕ) (s : LastAt 32 bs k) (f : Fields 2 bs n m) where
  cut : k ≡ length (field n)
  cut =
      let t : LastAt 32 (field n ++ field m) k = subst (λ (xs : List ℕ). LastAt 32 xs k) f.is s in
      last_once 32 (field n ++ field m) k (length (field n)) t (second_space n m f.small₂)

  pub cut_left : Field (take k bs) n
  cut_left = record { small = f.small; is = ap₂ (λ (i : ℕ) (xs : List ℕ). take i xs) cut f.is ∙ take-append_seam (field n) (field m) }

  pub cut_right : Field (drop k bs) m
  cut_right = record { small = f.small₂; is = ap₂ (λ (i : ℕ) (xs : List ℕ). drop i xs) cut f.is ∙ drop-append_seam (field n) (field m) }

-- and one and one are two
joined_cut : (bs : List ℕ) (k n m : ℕ) → Field (take k bs) n → Field (drop k bs) m → Fields 2 bs n m
joined_cut bs k n m f g = record {
  small = f.small;
  small₂ = g.small;
  is = sym (take-append-drop k bs) ∙ ap₂ (λ (xs ys : List ℕ). xs ++ ys) f.is g.is;
}

-- so what is read of both parts is read of the whole
pub read_both : (bs : List ℕ) (k : ℕ) (o p : Option ℕ) → LastAt 32 bs k
    → MatchOption o (NoField (take k bs)) (Field (take k bs)) → MatchOption p (NoField (drop k bs)) (Field (drop k bs))
    → MatchOption (option_zip o p) (NoFields 2 bs) (λ q. Fields 2 bs q.0 q.1)
read_both bs k None p s x y = λ n m f. x n (cut_left bs k n m s f)
read_both bs k (Some n) None s x y = λ i m f. y m (cut_right bs k i m s f)
read_both bs k (Some n) (Some m) s x y = joined_cut bs k n m x y
