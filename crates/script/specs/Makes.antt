-- The makes of sheets by name, and what a new one means. Assumes nothing.
use Rattle.std.specs.Prelude.{◌≡◌, ℕ, suc, List, take, drop, codes, ◌≢◌}
use Rattle.sheet.specs.Meanings.{Meaning, empty}
use Rattle.script.specs.Cuts.{FirstAt}
use Rattle.script.specs.declared.make.Make.{Make}
use Rattle.script.specs.declared.make.Make.TheVariants.{Bits, List as Listing}

abbrev pub make_name : Make → List ℕ
make_name Bits = codes "bits"
make_name Listing = codes "list"

abbrev pub NoMake : List ℕ → Type 0
NoMake line = (m : Make) → line ≢ make_name m

-- the first line, up to the byte 10 or the end at k, is the name of m, and the rest follows it
pub record Opening (script : List ℕ) (m : Make) (rest : List ℕ) : Type 0 where
  pub k : ℕ
  pub first : FirstAt 10 script k
  pub named : take k script ≡ make_name m
  pub follows : rest ≡ drop (suc k) script

abbrev pub NoOpening : List ℕ → Type 0
NoOpening script = (m : Make) (rest : List ℕ) → Opening script m rest → ⊥

-- a new bit sheet has room for 4,032 marks, a new list sheet for 512
abbrev pub new_sheet : Make → Meaning
new_sheet Bits = empty 4032
new_sheet Listing = empty 512
