-- The form of a line, and the call that it stands for. Assumes nothing.
use Rattle.std.specs.Prelude.{◌≡◌, ℕ, zero, suc, ◌<◌, min, List, [], ◌∷◌, ◌++◌}
use Rattle.model.specs.declared.thresholds.Thresholds.{Thresholds}
use Rattle.archive.specs.declared.call.Call.{Call}
use Rattle.archive.specs.declared.call.Call.TheVariants as call
use Rattle.script.specs.Numbers.{field, Field}

-- what the letter at the front of a line asks for
pub data Verb : Type 0 where
  Enter : Verb
  Mark : Verb
  Strike : Verb
  Aside : Verb
  Back : Verb
  Loose : Verb
  Strict : Verb
  OnUnits : Verb
  Ratio : Verb

-- e m s a b g h o r
abbrev pub letter : Verb → ℕ
letter Enter = 101
letter Mark = 109
letter Strike = 115
letter Aside = 97
letter Back = 98
letter Loose = 103
letter Strict = 104
letter OnUnits = 111
letter Ratio = 114

-- how many numbers follow the letter
abbrev pub arity : Verb → ℕ
arity Enter = 1
arity Mark = 2
arity Strike = 2
arity Aside = 1
arity Back = 1
arity Loose = 2
arity Strict = 2
arity OnUnits = 0
arity Ratio = 0

-- a record number as a call holds it: no number above 63 is a record, so 255 stands for all that are above it
abbrev pub clip : ℕ → ℕ
clip n = min n 255

abbrev pub thresholds : ℕ → ℕ → Thresholds
thresholds n m = record { t1 = n; t2 = m }

abbrev pub call_of : Verb → ℕ → ℕ → Call
call_of Enter n m = call.Enter (clip n)
call_of Mark n m = call.Mark (clip n) (clip m)
call_of Strike n m = call.Strike (clip n) (clip m)
call_of Aside n m = call.SetAside (clip n)
call_of Back n m = call.BringBack (clip n)
call_of Loose n m = call.Loose (thresholds n m)
call_of Strict n m = call.Strict (thresholds n m)
call_of OnUnits n m = call.Unit
call_of Ratio n m = call.Ratio

-- none, the first, or both of two numbers, each after one space
abbrev pub fields : ℕ → ℕ → ℕ → List ℕ
fields zero n m = []
fields (suc zero) n m = field n
fields (suc (suc k)) n m = field n ++ field m

-- the bytes are k numbers of one to seven digits
pub record Fields (k : ℕ) (bytes : List ℕ) (n m : ℕ) : Type 0 where
  pub small : n < 10000000
  pub small₂ : m < 10000000
  pub is : bytes ≡ fields k n m

abbrev pub NoFields : ℕ → List ℕ → Type 0
NoFields k bytes = (n m : ℕ) → Fields k bytes n m → ⊥

-- the bytes are one record, two records, or two thresholds
pub record RecordField (bytes : List ℕ) (u : ℕ) : Type 0 where
  pub n : ℕ
  pub number : Field bytes n
  pub is : u ≡ clip n

pub record RecordFields (bytes : List ℕ) (u v : ℕ) : Type 0 where
  pub n : ℕ
  pub m : ℕ
  pub numbers : Fields 2 bytes n m
  pub left : u ≡ clip n
  pub right : v ≡ clip m

pub record ThresholdFields (bytes : List ℕ) (t : Thresholds) : Type 0 where
  pub n : ℕ
  pub m : ℕ
  pub numbers : Fields 2 bytes n m
  pub is : t ≡ thresholds n m

-- the bytes are a line for the call c: a letter, and then its numbers
pub record IsLine (bytes : List ℕ) (c : Call) : Type 0 where
  pub verb : Verb
  pub n : ℕ
  pub m : ℕ
  pub small : n < 10000000
  pub small₂ : m < 10000000
  pub line : bytes ≡ letter verb ∷ fields (arity verb) n m
  pub is : c ≡ call_of verb n m

abbrev pub NoLine : List ℕ → Type 0
NoLine bytes = (c : Call) → IsLine bytes c → ⊥
