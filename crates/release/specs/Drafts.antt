-- What is put into a draft. Assumes nothing.
use Rattle.std.specs.Prelude.{◌≡◌, ℕ, ◌+◌, List, ◌++◌, length}
use Rattle.arrayvec.specs.ArrayVec.{ArrayVec, array_vec_len}
use Rattle.form.specs.Contents.{Contents}
use Rattle.form.specs.Laid.{laid_out}

-- one draft has the bytes of another, and then the text
pub record Adds (before : ArrayVec ℕ) (text : List ℕ) (after : ArrayVec ℕ) : Type 0 where
  pub long : array_vec_len after ≡ array_vec_len before + length text
  pub bytes : after.items ≡ before.items ++ text

-- the draft is the layout of the contents
pub record DraftOf (c : Contents) (d : ArrayVec ℕ) : Type 0 where
  pub bytes : d.items ≡ laid_out c
