-- What a part of the reader gives, against the form that defines it. Assumes nothing.
use Rattle.std.specs.Prelude.{◌≡◌, ℕ, cond, List, Ok, Err, Result, ◌==◌}
use Rattle.model.specs.declared.decline.Decline.{Decline}
use Rattle.model.specs.Refusals.{number_of}
use Rattle.form.specs.Got.{Got, got, stop, then}
use Rattle.form.specs.Reading.{byte}

-- the value that the form gives, with the same bytes left; or declined by the number of the first broken rule
abbrev pub Gives : {A : Type 0} → Got A → List ℕ → Result A Decline → Type 0
Gives g rest (Ok a) = g ≡ got a rest
Gives g rest (Err d) = g ≡ stop (number_of d)

-- the same with another value in place of the form's
abbrev pub GivesAs : {A X : Type 0} → (A → X → Type 0) → Got A → List ℕ → Result X Decline → Type 0
GivesAs {A} Is g rest (Ok x) = (a : A) × (g ≡ got a rest) × Is a x
GivesAs Is g rest (Err d) = g ≡ stop (number_of d)

-- a byte that must be k
abbrev pub byte_of : ℕ → List ℕ → Got ℕ
byte_of k bs = then (byte bs) (λ n r. cond (n == k) (got n r) (stop 15))
