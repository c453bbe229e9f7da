-- A line has one call, and at most 17 bytes.
use Rattle.std.proofs.Common.{◌≡◌, ℕ, ◌<◌, ◌≤◌, cond, eqb, List, ◌++◌, length, get_or, drop, Some, None, Option, sym, refl, ap, ◌∙◌, ap₂, inl, inr, arith, length-append}
use Rattle.std.proofs.lemmas.Fmt.{decimal_injective, length-decimal-le}
use Rattle.script.specs.Numbers.{field}
use Rattle.script.specs.Lines.{Verb, Enter, Mark, Strike, Aside, Back, Loose, Strict, OnUnits, Ratio, letter, arity, call_of, fields, Fields}
use Rattle.script.specs.Statements.{ReadOneWay, LinesShort, LongLinesWrong}
use Rattle.script.proofs.Fields.{second_space, cut_left, cut_right}

-- the verb of a letter, by its place in the alphabet
verb_at : ℕ → Option Verb
verb_at b =
    cond (eqb b 101) (Some Enter) (cond (eqb b 109) (Some Mark) (cond (eqb b 115) (Some Strike)
    (cond (eqb b 103) (Some Loose) (cond (eqb b 104) (Some Strict) (cond (eqb b 111) (Some OnUnits)
    (cond (eqb b 97) (Some Aside) (cond (eqb b 98) (Some Back) (cond (eqb b 114) (Some Ratio) None))))))))

verb_letter : (v : Verb) → verb_at (letter v) ≡ Some v
unfolding verb_at
verb_letter Enter = refl
verb_letter Mark = refl
verb_letter Strike = refl
verb_letter Loose = refl
verb_letter Strict = refl
verb_letter OnUnits = refl
verb_letter Aside = refl
verb_letter Back = refl
verb_letter Ratio = refl

same_verb : (v w : Verb) → letter v ≡ letter w → v ≡ w
same_verb v w e = let s : Some v ≡ Some w = sym (verb_letter v) ∙ ap verb_at e ∙ verb_letter w in cc

same_field : (n m : ℕ) → n < 10000000 → m < 10000000 → field n ≡ field m → n ≡ m
same_field n m a b e = decimal_injective n m (omega arith) (omega arith) (ap (drop 1) e)

-- two fields are cut at one place only, so they are the fields of the same two numbers
same_fields : (n m p q : ℕ) → n < 10000000 → m < 10000000 → p < 10000000 → q < 10000000 → field n ++ field m ≡ field p ++ field q → (n ≡ p) × (m ≡ q)
same_fields n m p q a b c d e =
    let k = length (field n) in
    let s = second_space n m b in
    let bs = field n ++ field m in
    let f : Fields 2 bs n m = record { small = a; small₂ = b; is = refl } in
    let g : Fields 2 bs p q = record { small = c; small₂ = d; is = e } in
    let l = sym (cut_left bs k n m s f).is ∙ (cut_left bs k p q s g).is in
    let r = sym (cut_right bs k n m s f).is ∙ (cut_right bs k p q s g).is in
    (same_field n p a c l, same_field m q b d r)

module _ (n m p q : ℕ) (a : n < 10000000) (b : m < 10000000) (c : p < 10000000) (d : q < 10000000) where
  same_two : (v : Verb) → field n ++ field m ≡ field p ++ field q → call_of v n m ≡ call_of v p q
  same_two v e = let s = same_fields n m p q a b c d e in ap₂ (call_of v) s.0 s.1

  same_call : (v : Verb) → fields (arity v) n m ≡ fields (arity v) p q → call_of v n m ≡ call_of v p q
  same_call Enter e = ap (λ (x : ℕ). call_of Enter x 0) (same_field n p a c e)
  same_call Mark e = same_two Mark e
  same_call Strike e = same_two Strike e
  same_call Loose e = same_two Loose e
  same_call Strict e = same_two Strict e
  same_call OnUnits e = refl
  same_call Aside e = ap (λ (x : ℕ). call_of Aside x 0) (same_field n p a c e)
  same_call Back e = ap (λ (x : ℕ). call_of Back x 0) (same_field n p a c e)
  same_call Ratio e = refl

pub read_one_way : ReadOneWay
read_one_way bs c d x y =
    let e = sym x.line ∙ y.line in
    let v : x.verb ≡ y.verb = same_verb x.verb y.verb (ap (λ (l : List ℕ). get_or l 0 0) e) in
    let t : fields (arity x.verb) x.n x.m ≡ fields (arity x.verb) y.n y.m =
    ap (drop 1) e ∙ ap (λ (w : Verb). fields (arity w) y.n y.m) (sym v) in
    x.is ∙ same_call x.n x.m y.n y.m x.small x.small₂ y.small y.small₂ x.verb t
    ∙ ap (λ (w : Verb). call_of w y.n y.m) v ∙ sym y.is

field_long : (n : ℕ) → n < 10000000 → length (field n) ≤ 8
field_long n h = omega (arith, length-decimal-le 7 n (omega arith) h (omega arith))

module _ (n m : ℕ) (a : n < 10000000) (b : m < 10000000) where
  two_long : length (field n ++ field m) ≤ 16
  two_long = omega (arith, field_long n a, field_long m b, length-append (field n) (field m))

  fields_long : (v : Verb) → length (fields (arity v) n m) ≤ 16
  fields_long Enter = omega (arith, field_long n a)
  fields_long Mark = two_long
  fields_long Strike = two_long
  fields_long Loose = two_long
  fields_long Strict = two_long
  fields_long OnUnits = omega arith
  fields_long Aside = omega (arith, field_long n a)
  fields_long Back = omega (arith, field_long n a)
  fields_long Ratio = omega arith

pub lines_short : LinesShort
lines_short bs c x = rw x.line (omega (arith, fields_long x.n x.m x.small x.small₂ x.verb))

pub long_lines_wrong : LongLinesWrong
long_lines_wrong bs c h (inl x) = absurd (omega (arith, lines_short bs c x))
long_lines_wrong bs c h (inr x) = x.0
