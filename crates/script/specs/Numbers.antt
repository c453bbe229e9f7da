-- Numbers as the lines of a script write them. Assumes nothing.
use Rattle.std.specs.Prelude.{◌≡◌, ℕ, ◌<◌, Bool, ◌&&◌, List, ◌∷◌, length, decimal, ◌==◌, nat_lt, slice_index}

-- the bytes are n in decimal: one to seven digits, without leading zeros
pub record Number (bytes : List ℕ) (n : ℕ) : Type 0 where
  pub small : n < 10000000
  pub is : bytes ≡ decimal n

abbrev pub NoNumber : List ℕ → Type 0
NoNumber bytes = (n : ℕ) → Number bytes n → ⊥

-- the bytes begin with 0 and do not end there
abbrev pub leading_zero : List ℕ → Bool
leading_zero bytes = nat_lt 1 (length bytes) && slice_index bytes 0 == 48

-- one space, and then the number
abbrev pub field : ℕ → List ℕ
field n = 32 ∷ decimal n

-- the bytes are one space and a number of one to seven digits
pub record Field (bytes : List ℕ) (n : ℕ) : Type 0 where
  pub small : n < 10000000
  pub is : bytes ≡ field n

abbrev pub NoField : List ℕ → Type 0
NoField bytes = (n : ℕ) → Field bytes n → ⊥
