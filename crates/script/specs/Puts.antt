-- What writing at a place of some bytes does. Assumes nothing.
use Rattle.std.specs.Prelude.{◌≡◌, ℕ, ◌+◌, ◌≤◌, List, ◌++◌, length, take, drop}

-- the text stands at the place `at`, of at most so many bytes, and ends before `end`; all bytes before it and past it are kept
pub record PutAt (width : ℕ) (text : List ℕ) (at : ℕ) (before after : List ℕ) (end : ℕ) : Type 0 where
  pub ends : end ≡ at + length text
  pub fits : end ≤ length before
  pub within : length text ≤ width
  pub bytes : after ≡ take at before ++ (text ++ drop end before)
