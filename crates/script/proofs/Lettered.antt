-- A letter and what follows it, as a line. Assumes nothing.
use Rattle.std.proofs.Common.{◌≡◌, ℕ, List, ◌∷◌, ◌==◌, true, length, refl, ap, ◌∙◌, ap₂, arith}
use Rattle.std.proofs.lemmas.Bool.{eqb-true}
use Rattle.std.proofs.lemmas.List.{nil_from_length}
use Rattle.model.specs.declared.thresholds.Thresholds.{Thresholds}
use Rattle.archive.specs.declared.call.Call.{Call}
use Rattle.archive.specs.declared.call.Call.TheVariants as call
use Rattle.script.specs.Lines.{Verb, Enter, Mark, Strike, Aside, Back, Loose, Strict, OnUnits, Ratio, letter, arity, call_of, Fields, RecordField, RecordFields, ThresholdFields, IsLine}

-- a letter, k numbers after it, and the call of that letter and those numbers
lettered : (v : Verb) (bs rest : List ℕ) (l n m : ℕ) (c : Call) → bs ≡ l ∷ rest → l ≡ letter v → Fields (arity v) rest n m → c ≡ call_of v n m → IsLine bs c
lettered v bs rest l n m c line is numbers same = record {
  verb = v;
  n = n;
  m = m;
  small = numbers.small;
  small₂ = numbers.small₂;
  line = line ∙ ap₂ (λ (b : ℕ) (r : List ℕ). b ∷ r) is numbers.is;
  is = same;
}

module _ {bs rest : List ℕ} {l : ℕ} (line : bs ≡ l ∷ rest) where
  -- one record
  of_record : (v : Verb) {u : ℕ} {c : Call} → arity v ≡ 1 → l ≡ letter v → (r : RecordField rest u) → c ≡ call_of v r.n 0 → IsLine bs c
  of_record v one is r same =
      let numbers : Fields 1 rest r.n 0 = record { small = r.number.small; small₂ = omega arith; is = r.number.is } in
      lettered v bs rest l r.n 0 _ line is (rw one numbers) same

  pub enter_line : {u : ℕ} → l ≡ 101 → RecordField rest u → IsLine bs (call.Enter u)
  enter_line is r = of_record Enter refl is r (ap call.Enter r.is)

  pub aside_line : {u : ℕ} → l ≡ 97 → RecordField rest u → IsLine bs (call.SetAside u)
  aside_line is r = of_record Aside refl is r (ap call.SetAside r.is)

  pub back_line : {u : ℕ} → l ≡ 98 → RecordField rest u → IsLine bs (call.BringBack u)
  back_line is r = of_record Back refl is r (ap call.BringBack r.is)

  -- two records
  pub mark_line : {u v : ℕ} → l ≡ 109 → RecordFields rest u v → IsLine bs (call.Mark u v)
  mark_line is r = lettered Mark bs rest l r.n r.m _ line is r.numbers (ap₂ call.Mark r.left r.right)

  pub strike_line : {u v : ℕ} → l ≡ 115 → RecordFields rest u v → IsLine bs (call.Strike u v)
  strike_line is r = lettered Strike bs rest l r.n r.m _ line is r.numbers (ap₂ call.Strike r.left r.right)

  -- two thresholds
  pub loose_line : {t : Thresholds} → l ≡ 103 → ThresholdFields rest t → IsLine bs (call.Loose t)
  loose_line is f = lettered Loose bs rest l f.n f.m _ line is f.numbers (ap call.Loose f.is)

  pub strict_line : {t : Thresholds} → l ≡ 104 → ThresholdFields rest t → IsLine bs (call.Strict t)
  strict_line is f = lettered Strict bs rest l f.n f.m _ line is f.numbers (ap call.Strict f.is)

  -- nothing
  of_nothing : (v : Verb) (c : Call) → arity v ≡ 0 → l ≡ letter v → (length rest == 0) ≡ true → c ≡ call_of v 0 0 → IsLine bs c
  of_nothing v c none is empty same =
      let numbers : Fields 0 rest 0 0 = record { small = omega arith; small₂ = omega arith; is = nil_from_length rest (eqb-true (length rest) 0 empty) } in
      lettered v bs rest l 0 0 c line is (rw none numbers) same

  pub units_line : l ≡ 111 → (length rest == 0) ≡ true → IsLine bs call.Unit
  units_line is empty = of_nothing OnUnits call.Unit refl is empty refl

  pub ratio_line : l ≡ 114 → (length rest == 0) ≡ true → IsLine bs call.Ratio
  ratio_line is empty = of_nothing Ratio call.Ratio refl is empty refl
