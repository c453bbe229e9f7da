-- A section that has been read so far. Assumes nothing.
use Rattle.std.proofs.Common.{◌≡◌, ℕ, suc, List, [], ◌∷◌, ◌++◌, sym, ap, ◌∙◌}
use Rattle.std.proofs.lemmas.List.{append-nil}
use Rattle.form.specs.Got.{Got, got, stop, front, many}
use Rattle.form.proofs.Steps.{front_front, front_none, many_more, many_none, many_stop}

module _ {S A : Type 0} (item : S → List ℕ → Got A) (next : S → A → S) where
  -- The whole g is what has been read, in front of what is left to read from the bytes at hand; and what has been read is as it should be.
  pub record Progress (g : Got (List A)) (left : ℕ) (s : S) (rest : List ℕ) (Is : List A → Type 0) : Type 0 where
    pub sofar : List A
    pub whole : g ≡ front sofar (many item next left s rest)
    pub is : Is sofar

  pub begun : {g : Got (List A)} {s : S} {rest : List ℕ} {Is : List A → Type 0} (n left : ℕ) → n ≡ left → g ≡ many item next n s rest → Is []
      → Progress g left s rest Is
  begun {s = s} {rest = rest} n left n_is e is = record {
    sofar = [];
    whole = e ∙ ap (λ k. many item next k s rest) n_is ∙ sym (front_none (many item next left s rest));
    is = is;
  }

  pub more : {g : Got (List A)} {left : ℕ} {s : S} {rest : List ℕ} {Is : List A → Type 0} (less : ℕ) (a : A) (r : List ℕ) (As : List A → Type 0)
      → left ≡ suc less → item s rest ≡ got a r → ((ys : List A) → Is ys → As (ys ++ a ∷ [])) → Progress g left s rest Is → Progress g less (next s a) r As
  more {left = left} {s = s} {rest = rest} less a r As e i step p = record {
    sofar = p.sofar ++ a ∷ [];
    whole =
        p.whole
        ∙ ap (front p.sofar) (many_more item next less left s rest a r e i)
        ∙ front_front p.sofar (a ∷ []) (many item next less (next s a) r);
    is = step p.sofar p.is;
  }

  pub stopped : {g : Got (List A)} {left : ℕ} {s : S} {rest : List ℕ} {Is : List A → Type 0} (less k : ℕ) → left ≡ suc less → item s rest ≡ stop k
      → Progress g left s rest Is → g ≡ stop k
  stopped {left = left} {s = s} {rest = rest} less k e i p = p.whole ∙ ap (front p.sofar) (many_stop item next less left s rest k e i)

  pub all : {g : Got (List A)} {left : ℕ} {s : S} {rest : List ℕ} {Is : List A → Type 0} (As : List A → Type 0)
      → left ≡ 0 → ((ys : List A) → Is ys → As ys) → Progress g left s rest Is → (xs : List A) × (g ≡ got xs rest) × As xs
  all {left = left} {s = s} {rest = rest} As e step p =
      (p.sofar, p.whole ∙ ap (front p.sofar) (many_none item next left s rest e) ∙ ap (λ xs. got xs rest) (append-nil p.sofar), step p.sofar p.is)

  -- nothing read in this turn
  pub kept : {g : Got (List A)} {left : ℕ} {s : S} {rest : List ℕ} {Is : List A → Type 0} (less : ℕ) (As : List A → Type 0)
      → left ≡ less → ((ys : List A) → Is ys → As ys) → Progress g left s rest Is → Progress g less s rest As
  kept {s = s} {rest = rest} less As e step p = record {
    sofar = p.sofar;
    whole = p.whole ∙ ap (λ k. front p.sofar (many item next k s rest)) e;
    is = step p.sofar p.is;
  }
