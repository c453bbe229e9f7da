-- Texts put one after another are their join. Assumes nothing.
use Rattle.std.proofs.Common.{◌≡◌, ℕ, ◌+◌, ◌*◌, ◌<◌, ◌≤◌, List, [], ◌∷◌, ◌++◌, length, take, drop, get_or, sym, ap, ◌∙◌, ap₂, subst, append-nil, length-append, length-take-le, arith}
use Rattle.std.specs.List.{flat_map}
use Rattle.std.proofs.lemmas.List.{append_assoc, take_more, take_at, take-append-drop}
use Rattle.std.proofs.lemmas.Slice.{drop-append-drop}
use Rattle.std.proofs.lemmas.Grind.{flat_map-append}
use Rattle.script.specs.Puts.{PutAt}

module _ {width at end : ℕ} {text before after : List ℕ} (p : PutAt width text at before after end) where
  pub put_wider : (w : ℕ) → width ≤ w → PutAt w text at before after end
  put_wider w h = record { ends = p.ends; fits = p.fits; within = omega (arith, p.within); bytes = p.bytes }

  -- what was before the place, and the text
  front_long : length (take at before ++ text) ≡ end
  front_long = omega (arith, length-append (take at before) text, length-take-le at before (omega (arith, p.ends, p.fits)), p.ends)

  front_and_rest : after ≡ (take at before ++ text) ++ drop end before
  front_and_rest = p.bytes ∙ sym (append_assoc (take at before) text (drop end before))

-- as many bytes as before
pub put_long : {width at end : ℕ} {text before after : List ℕ} → PutAt width text at before after end → length after ≡ length before
put_long {at = at} {end = end} {text = text} {before = before} p =
    omega (
      arith,
      ap length (front_and_rest p),
      length-append (take at before ++ text) (drop end before),
      front_long p,
      ap length (take-append-drop end before),
      length-append (take end before) (drop end before),
      length-take-le end before p.fits,
    )

-- nothing is put
pub put_nothing : (at : ℕ) (before : List ℕ) → at ≤ length before → PutAt 0 [] at before before at
put_nothing at before h = record { ends = omega arith; fits = h; within = omega arith; bytes = sym (take-append-drop at before) }

pub put_both : {v w at mid end : ℕ} {xs ys before between after : List ℕ} → PutAt v xs at before between mid → PutAt w ys mid between after end → PutAt (v + w) (xs ++ ys) at before after end
put_both {at = at} {mid = mid} {end = end} {xs = xs} {ys = ys} {before = before} {between = between} p q =
    let all = length-append xs ys in
    let front = take at before ++ xs in
    let past : drop end between ≡ drop end before =
    ap (drop end) (front_and_rest p) ∙ drop-append-drop mid before front end (omega (arith, q.ends)) (front_long p) in
    let kept : take mid between ≡ front = ap (take mid) (front_and_rest p) ∙ take_at front (drop mid before) mid (front_long p) in
    record {
      ends = omega (arith, p.ends, q.ends, all);
      fits = omega (arith, q.fits, put_long p);
      within = omega (arith, p.within, q.within, all);
      bytes = q.bytes ∙ ap₂ (λ (a b : List ℕ). a ++ (ys ++ b)) kept past ∙ append_assoc (take at before) xs (ys ++ drop end before)
          ∙ ap (λ (a : List ℕ). take at before ++ a) (sym (append_assoc xs ys (drop end before)));
    }

-- one item more of a list
pub put_more : {X : Type 0} (f : X → List ℕ) (w i at mid end : ℕ) (xs : List X) (x : X) (before between after : List ℕ)
    → i < length xs → x ≡ get_or xs i x → PutAt (i * w) (flat_map f (take i xs)) at before between mid → PutAt w (f x) mid between after end
    → PutAt ((i + 1) * w) (flat_map f (take (i + 1) xs)) at before after end
put_more f w i at mid end xs x before between after h is p q =
    let text : flat_map f (take i xs) ++ f x ≡ flat_map f (take (i + 1) xs) =
    ap (λ (a : List ℕ). flat_map f (take i xs) ++ a) (sym (append-nil (f x))) ∙ sym (flat_map-append f (take i xs) (x ∷ []))
    ∙ ap (λ (ys : List _). flat_map f ys) (ap (λ (z : _). take i xs ++ (z ∷ [])) is ∙ sym (take_more xs i x h)) in
    subst (λ (t : List ℕ). PutAt ((i + 1) * w) t at before after end) text (put_wider (put_both p q) ((i + 1) * w) (omega arith))
