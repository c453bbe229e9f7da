-- The digits of a number of at most seven, and what std's parse makes of them.
use Rattle.std.proofs.Common.{◌≡◌, ℕ, zero, suc, ◌^◌, ◌<◌, ◌≤◌, true, false, eqb, ltb, nat_eq, ◌⊎◌, List, [], ◌∷◌, length, get_or, Some, None, Ok, Err, IsUtf8, codes, decimal, Result, sym, refl, ap, ◌∙◌, inl, inr, ⊎_elim, subst, arith, MatchOption, MatchResult}
use Rattle.std.specs.Fmt.{digits}
use Rattle.std.specs.Str.Parse.{AllDigits, digits_value, ParsesUnsigned}
use Rattle.std.specs.Int.{IsInRange}
use Rattle.std.specs.List.{starts_with}
use Rattle.std.specs.Result.{result_ok}
use Rattle.std.proofs.lemmas.Str.Parse.{IsNumeralModel, numerals_by_value, tells_digits, digit_at, parse_plain, digits_value_short}
use Rattle.std.proofs.lemmas.Result.{OkIff-at_ok, OkIff-at_err}
use Rattle.std.proofs.lemmas.Fmt.{IsAscii-decimal, decimal_nonempty, length-decimal-le, first_decimal, decimal_digit, digits_decimal, digits_value-decimal, decimal-digits_value}
use Rattle.std.proofs.lemmas.Str.{IsUtf8-from_ascii}
use Rattle.std.proofs.lemmas.Bool.{and_parts, and_cases, ltb-true, ltb-false, eqb-true, eqb-false}
use Rattle.script.specs.Numbers.{Number, NoNumber, leading_zero}

own : IsNumeralModel (AllDigits 10) (digits_value 10)
own = numerals_by_value (AllDigits 10) tells_digits

cases_zero : (n : ℕ) → (n ≡ 0) ⊎ (0 < n)
cases_zero zero = inl refl
cases_zero (suc n) = inr (omega arith)

zero_first : (ds : List ℕ) → leading_zero ds ≡ true → (1 < length ds) × (get_or ds 0 0 ≡ 48)
zero_first ds z =
    let p = and_parts (ltb 1 (length ds)) (eqb (get_or ds 0 0) 48) z in
    (ltb-true 1 (length ds) p.0, eqb-true (get_or ds 0 0) 48 p.1)

module _ (ds : List ℕ) (n : ℕ) (h : Number ds n) where
  big : n < 2 ^ 64
  big = let s = h.small in omega arith

  pub number_some : 0 < length ds
  number_some = rw h.is (decimal_nonempty n big)

  pub number_short : length ds ≤ 7
  number_short = rw h.is (length-decimal-le 7 n (omega arith) h.small big)

  number_digits : AllDigits 10 ds
  number_digits = rw h.is (digits_decimal own n big)

  number_value : digits_value 10 ds ≡ n
  number_value = rw h.is (digits_value-decimal own n big)

  pub number_digit : (i : ℕ) → i < length ds → IsInRange 48 57 (get_or ds i 0)
  number_digit i l = digit_at ds i number_digits l

  zero_number : n ≡ 0 → length ds ≡ 1
  zero_number e = let k : decimal n ≡ 48 ∷ [] = ap decimal e ∙ decimal_digit 0 (omega arith) in ap length (h.is ∙ k)

  more_number : get_or ds 0 0 ≡ 48 → 0 < n → length ds ≡ 1
  more_number z p =
      let f = first_decimal n p big in
      let g : get_or (decimal n) 0 0 ≡ 48 = rw h.is at z in
      absurd (omega arith)

  -- a number that begins with 0 has no other digit
  number_plain : get_or ds 0 0 ≡ 48 → length ds ≡ 1
  number_plain z = ⊎_elim zero_number (more_number z) (cases_zero n)

  pub no_leading_zero : leading_zero ds ≡ true → ⊥
  no_leading_zero z = let p = number_plain (zero_first ds z).1 in omega (arith, (zero_first ds z).0)

  pub number_utf8 : IsUtf8 ds
  number_utf8 = rw h.is (IsUtf8-from_ascii (decimal n) (IsAscii-decimal n big))

-- bytes that begin with 0 and have no leading zero are one byte
zero_alone : (ds : List ℕ) → 0 < length ds → leading_zero ds ≡ false → get_or ds 0 0 ≡ 48 → length ds ≡ 1
zero_alone ds h z e = go (and_cases (ltb 1 (length ds)) (eqb (get_or ds 0 0) 48) z)
  where
    go : (ltb 1 (length ds) ≡ false) ⊎ (eqb (get_or ds 0 0) 48 ≡ false) → length ds ≡ 1
    go (inl s) = omega (arith, ltb-false 1 (length ds) s)
    go (inr s) = absurd (eqb-false (get_or ds 0 0) 48 s e)

-- whether bytes begin with +
pub plus_first : (ds : List ℕ) → starts_with nat_eq ds (43 ∷ []) ≡ true → get_or ds 0 0 ≡ 43
plus_first [] e = cc
plus_first (d ∷ ds) e = sym (eqb-true 43 d (and_parts (eqb 43 d) true e).0)

pub no_plus : (ds : List ℕ) → starts_with nat_eq ds (43 ∷ []) ≡ false → get_or ds 0 0 ≡ 43 → ⊥
no_plus [] e f = absurd (omega arith)
no_plus (d ∷ ds) e f = let g = subst (λ (x : ℕ). starts_with nat_eq (x ∷ ds) (43 ∷ []) ≡ false) f e in cc

-- what is known of a result that is turned into an option
pub ok_some : {T E : Type 0} (P : T → Type 0) (Q : E → Type 0) (r : Result T E) → MatchResult r P Q → (x : T) → result_ok r ≡ Some x → P x
ok_some P Q (Ok y) h x e = let s : y ≡ x = cc in subst P s h
ok_some P Q (Err y) h x e = cc

pub ok_none : {T E : Type 0} (P : T → Type 0) (Q : E → Type 0) (r : Result T E) → MatchResult r P Q → result_ok r ≡ None → (e : E) × Q e
ok_none P Q (Ok y) h e = cc
ok_none P Q (Err y) h e = (y, h)

-- What parse answers of at most seven bytes without + in front: the number that they write, where they have
-- no leading zero, or that they write none.
module _ {E : Type 0} (ds : List ℕ) (short : length ds ≤ 7) (plus : get_or ds 0 0 ≡ 43 → ⊥) where
  parse_ok : (r : Result ℕ E) → ParsesUnsigned 32 10 ds r → (n : ℕ) → r ≡ Ok n → leading_zero ds ≡ false → Number ds n
  parse_ok r reads n e z =
      let k = OkIff-at_ok r _ _ n (parse_plain own 32 ds r reads plus) e in
      let low : digits_value 10 ds < 10 ^ 7 = digits_value_short own ds 7 k.0.0 short in
      let back : decimal (digits_value 10 ds) ≡ ds = decimal-digits_value own ds k.0.0 k.0.1 (zero_alone ds k.0.1 z) (omega arith) in
      record { small = let v = k.1 in omega arith; is = sym back ∙ ap decimal (sym k.1) }

  parse_err : (r : Result ℕ E) → ParsesUnsigned 32 10 ds r → (d : E) → r ≡ Err d → NoNumber ds
  parse_err r reads d e n h =
      let v = number_value ds n h in
      let s = h.small in
      OkIff-at_err r _ _ d (parse_plain own 32 ds r reads plus) e (number_digits ds n h, number_some ds n h, omega arith)

  pub parsed : (r : Result ℕ E) → ParsesUnsigned 32 10 ds r → leading_zero ds ≡ false → MatchOption (result_ok r) (NoNumber ds) (Number ds)
  parsed (Ok n) reads z = parse_ok (Ok n) reads n refl z
  parsed (Err d) reads z = parse_err (Err d) reads d refl

-- seventeen is written so
pub seventeen : decimal 17 ≡ codes "17"
unfolding digits
seventeen = refl
