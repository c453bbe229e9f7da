-- The first line of some bytes, and its call before the calls of the other lines.
use Rattle.std.proofs.Common.{◌≡◌, ℕ, zero, suc, ◌+◌, ◌-◌, ◌<◌, ◌≤◌, ◌⊎◌, inl, inr, min, eqb, List, [], ◌∷◌, ◌++◌, length, get_or, take, drop, Some, None, Option, MatchOption, sym, refl, ap, ◌∙◌, subst, ap₂, ⊎_elim, arith}
use Rattle.std.specs.List.{IsFirstMatchOrLen}
use Rattle.std.proofs.lemmas.List.{append_assoc, append-nil, take_at, drop_at, take_min, take_all, take-append-le, take-append-drop, get_or-take, length-take, length-drop, nil_from_length}
use Rattle.std.proofs.lemmas.Bool.{ne_eqb, eq-eqb, eqb-true, eqb-false, cond-true, cond-false, cases_lt}
use Rattle.archive.specs.declared.call.Call.{Call}
use Rattle.archive.specs.declared.call.Call.TheVariants.{Wrong}
use Rattle.script.specs.Cuts.{FirstAt, FirstLine, bare_of, lengthened, lines_of, LineCall, Spoken}

one_on : (b : ℕ) (bs : List ℕ) (k : ℕ) → FirstAt 10 (b ∷ bs) (suc k) → FirstAt 10 bs k
one_on b bs k s = record { within = omega (arith, s.within); found = λ l. s.found (omega arith); before = λ i l. s.before (suc i) (omega arith) }

-- the first line ends at the first byte 10, or at the end
lines_first : (bs : List ℕ) (k : ℕ) → FirstAt 10 bs k → 0 < length bs → lines_of bs ≡ take k bs ∷ lines_of (drop (suc k) bs)
unfolding lines_of
lines_first [] k s h = absurd (omega arith)
lines_first (b ∷ bs) zero s h = rw (eq-eqb b 10 (s.found (omega arith))) refl
lines_first (b ∷ []) (suc zero) s h = rw (ne_eqb b 10 (s.before 0 (omega arith))) refl
lines_first (b ∷ []) (suc (suc k)) s h = absurd (omega (arith, s.within))
lines_first (b ∷ (c ∷ bs)) (suc k) s h =
    let rest = lines_first (c ∷ bs) k (one_on b (c ∷ bs) k s) (omega arith) in
    rw (ne_eqb b 10 (s.before 0 (omega arith))) (ap (lengthened b) rest)

-- bytes up to the first byte 10 or the end, that byte with them, are the first line
pub cut_line : (bs line rest : List ℕ) (i : ℕ) → 0 < length bs → bs ≡ line ++ rest → length line ≡ min (i + 1) (length bs)
    → IsFirstMatchOrLen (λ b. eqb b 10) bs i → FirstLine bs line
cut_line bs line rest i h e l m =
    let k = min i (length bs) in
    let short : min (suc k) (length bs) ≡ length line = omega (arith, l) in
    record {
      some = h;
      k = k;
      first = record {
        within = omega arith;
        found = λ g. let e : k ≡ i = omega arith in eqb-true (get_or bs k 0) 10 (rw e (m.1 (omega arith) 0));
        before = λ j g. eqb-false (get_or bs j 0) 10 (m.0 j 0 (omega arith) (omega arith));
      };
      is = sym (take_at line rest (length line) refl) ∙ ap (take (length line)) (sym e) ∙ ap (λ (n : ℕ). take n bs) (sym short) ∙ take_min (suc k) bs;
    }

module _ (bs line : List ℕ) (f : FirstLine bs line) where
  line_long : length line ≡ min (suc f.k) (length bs)
  line_long = ap length f.is ∙ length-take (suc f.k) bs

  -- where the byte stands, the line without it ends
  ended : f.k < length bs → bare_of line ≡ take f.k bs
  ended h =
      let long : length line - 1 ≡ f.k = omega (arith, line_long) in
      let last : get_or line (length line - 1) 0 ≡ 10 =
      ap₂ (λ (xs : List ℕ) (i : ℕ). get_or xs i 0) f.is long ∙ get_or-take (suc f.k) bs f.k 0 (omega arith) ∙ f.first.found h in
      cond-true _ (take (length line - 1) line) line (eq-eqb (get_or line (length line - 1) 0) 10 last)
      ∙ ap₂ (λ (i : ℕ) (xs : List ℕ). take i xs) long f.is
      ∙ sym (take-append-le f.k (take (suc f.k) bs) (drop (suc f.k) bs) (omega (arith, line_long, ap length f.is)))
      ∙ ap (take f.k) (take-append-drop (suc f.k) bs)

  -- a line to the end has no such byte
  unended : length bs ≤ f.k → bare_of line ≡ take f.k bs
  unended h =
      let whole : line ≡ bs = f.is ∙ take_all (suc f.k) bs (omega arith) in
      let other = f.first.before (length bs - 1) (omega (arith, f.first.within, f.some)) in
      ap bare_of whole
      ∙ cond-false _ (take (length bs - 1) bs) bs (ne_eqb (get_or bs (length bs - 1) 0) 10 other)
      ∙ sym (take_all f.k bs h)

  pub bare_line : bare_of line ≡ take f.k bs
  bare_line = ⊎_elim ended unended (cases_lt f.k (length bs))

  -- what comes after the line begins past that byte
  pub after_line : drop (length line) bs ≡ drop (suc f.k) bs
  after_line = ⊎_elim
      (λ (h : f.k < length bs). let e : length line ≡ suc f.k = omega (arith, line_long) in ap (λ (n : ℕ). drop n bs) e)
      (λ (h : length bs ≤ f.k). nil_from_length (drop (length line) bs) (omega (arith, line_long, length-drop (length line) bs)) ∙ sym (nil_from_length (drop (suc f.k) bs) (omega (arith, length-drop (suc f.k) bs))))
      (cases_lt f.k (length bs))

-- there is one first place only
pub first_once : {mark : ℕ} {bs : List ℕ} (j k : ℕ) → FirstAt mark bs j → FirstAt mark bs k → j ≡ k
first_once j k p q = go (cases_lt j k) (cases_lt k j)
  where
    go : (j < k) ⊎ (k ≤ j) → (k < j) ⊎ (j ≤ k) → j ≡ k
    go (inl l) o = absurd (q.before j l (p.found (omega (arith, q.within))))
    go (inr l) (inl m) = absurd (p.before k m (q.found (omega (arith, p.within))))
    go (inr l) (inr m) = omega arith

pub told_as : {T P : Type 0} {Q : T → Type 0} (o : Option T) (R : Type 0) (S : T → Type 0) → (P → R) → ((x : T) → Q x → S x) → MatchOption o P Q → MatchOption o R S
told_as None R S f g h = f h
told_as (Some x) R S f g h = g x h

spoken_none : Spoken [] []
spoken_none = record { long = refl; each = λ k h. absurd (omega arith) }

spoken_more : (l : List ℕ) (ls : List (List ℕ)) (c : Call) (cs : List Call) → LineCall l c → Spoken ls cs → Spoken (l ∷ ls) (c ∷ cs)
spoken_more l ls c cs x s = record { long = ap suc s.long; each = at }
  where
    at : (k : ℕ) → k < length (l ∷ ls) → LineCall (get_or (l ∷ ls) k []) (get_or (c ∷ cs) k Wrong)
    at zero h = x
    at (suc k) h = s.each k (omega arith)

-- Whatever calls the rest of a script stands for, the whole stands for those before it and then them.
abbrev pub GoesOn : List ℕ → List Call → List ℕ → Type 0
GoesOn script calls rest = (cs : List Call) → Spoken (lines_of rest) cs → Spoken (lines_of script) (calls ++ cs)

-- one line more
pub goes_on : (script rest line after : List ℕ) (calls more : List Call) (c : Call)
    → GoesOn script calls rest → FirstLine rest line → rest ≡ line ++ after → LineCall (bare_of line) c
    → more ≡ calls ++ (c ∷ []) → GoesOn script more after
goes_on script rest line after calls more c inv f e x g cs said =
    let left : after ≡ drop (suc f.k) rest = sym (drop_at line after (length line) refl) ∙ ap (drop (length line)) (sym e) ∙ after_line rest line f in
    let call : LineCall (take f.k rest) c = subst (λ (l : List ℕ). LineCall l c) (bare_line rest line f) x in
    let all : Spoken (lines_of rest) (c ∷ cs) =
    rw (lines_first rest f.k f.first f.some) (spoken_more (take f.k rest) (lines_of (drop (suc f.k) rest)) c cs call (subst (λ (bs : List ℕ). Spoken (lines_of bs) cs) left said)) in
    let same : calls ++ (c ∷ cs) ≡ more ++ cs = sym (append_assoc calls (c ∷ []) cs) ∙ ap (λ (xs : List Call). xs ++ cs) (sym g) in
    subst (Spoken (lines_of script)) same (inv (c ∷ cs) all)

-- no line more
pub all_spoken : (script rest : List ℕ) (calls : List Call) → GoesOn script calls rest → length rest ≡ 0 → Spoken (lines_of script) calls
unfolding lines_of
all_spoken script rest calls inv h =
    let none : Spoken (lines_of rest) [] = rw (nil_from_length rest h) spoken_none in
    subst (Spoken (lines_of script)) (append-nil calls) (inv [] none)
