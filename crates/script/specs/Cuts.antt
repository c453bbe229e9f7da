-- How bytes are cut into lines, and the calls of the lines. Assumes nothing.
use Rattle.std.specs.Prelude.{◌≡◌, ℕ, suc, ◌-◌, ◌<◌, ◌≤◌, cond, ◌⊎◌, List, [], ◌∷◌, length, take, ◌==◌, ◌≢◌, slice_index, slice_index_or}
use Rattle.archive.specs.declared.call.Call.{Call}
use Rattle.archive.specs.declared.call.Call.TheVariants.{Wrong}
use Rattle.script.specs.Lines.{IsLine, NoLine}

-- k is the place of the first byte `mark`, or the length where there is none
pub record FirstAt (mark : ℕ) (bytes : List ℕ) (k : ℕ) : Type 0 where
  pub within : k ≤ length bytes
  pub found : k < length bytes → slice_index bytes k ≡ mark
  pub before : (i : ℕ) → i < k → slice_index bytes i ≢ mark

-- the line is the first of the bytes, with the byte 10 that ends it
pub record FirstLine (bytes line : List ℕ) : Type 0 where
  pub some : 0 < length bytes
  pub k : ℕ
  pub first : FirstAt 10 bytes k
  pub is : line ≡ take (suc k) bytes

-- k is the place of the last byte `mark`
pub record LastAt (mark : ℕ) (bytes : List ℕ) (k : ℕ) : Type 0 where
  pub within : k < length bytes
  pub found : slice_index bytes k ≡ mark
  pub after : (i : ℕ) → k < i → i < length bytes → slice_index bytes i ≢ mark

-- no byte is `mark`
abbrev pub NoneAt : ℕ → List ℕ → Type 0
NoneAt mark bytes = (i : ℕ) → i < length bytes → slice_index bytes i ≢ mark

-- a byte in front of the first line
abbrev pub lengthened : ℕ → List (List ℕ) → List (List ℕ)
lengthened b [] = (b ∷ []) ∷ []
lengthened b (l ∷ ls) = (b ∷ l) ∷ ls

-- a line goes up to byte 10, or to the end of the bytes; an empty rest is no line
unfoldable pub lines_of : List ℕ → List (List ℕ)
lines_of [] = []
lines_of (b ∷ bytes) = cond (b == 10) ([] ∷ lines_of bytes) (lengthened b (lines_of bytes))

-- bytes without the byte 10 at their end
abbrev pub bare_of : List ℕ → List ℕ
bare_of bytes = cond (slice_index bytes (length bytes - 1) == 10) (take (length bytes - 1) bytes) bytes

-- the call of a line: the one that it is of the form for, or Wrong where there is none
abbrev pub LineCall : List ℕ → Call → Type 0
LineCall line c = IsLine line c ⊎ ((c ≡ Wrong) × NoLine line)

-- one call for each line, in their order
pub record Spoken (lines : List (List ℕ)) (calls : List Call) : Type 0 where
  pub long : length calls ≡ length lines
  pub each : (k : ℕ) → k < length lines → LineCall (slice_index_or lines k []) (slice_index_or calls k Wrong)
