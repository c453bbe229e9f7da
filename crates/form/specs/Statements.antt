-- That a release is read just where it was laid out: the statement that theorems.rt names. Assumes nothing.
use Rattle.std.specs.Prelude.{◌≡◌, ℕ, ◌<◌, List, [], ◌↔◌, slice_index}
use Rattle.form.specs.Contents.{Contents}
use Rattle.form.specs.Got.{got}
use Rattle.form.specs.Reading.{release}
use Rattle.form.specs.Laid.{laid_out, Valid}

abbrev pub Bytes : List ℕ → Type 0
Bytes bs = (i : ℕ) → slice_index bs i < 256

-- bytes are read as the contents c to their end just where they are the layout of c and c meets the rules of the form
abbrev pub ReadAsLaidOut : Type 0
ReadAsLaidOut = (bs : List ℕ) (c : Contents) → Bytes bs → (release bs ≡ got c []) ↔ ((bs ≡ laid_out c) × Valid c)
