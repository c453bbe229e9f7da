-- What a sheet means, and the laws of such a meaning. Assumes nothing.
use Rattle.std.specs.Prelude.{◌≡◌, ℕ, ◌<◌, ◌≤◌, Bool, true, false, ◌≢◌}
use Rattle.model.specs.Rings.{bit, sum_to}
use Rattle.sheet.specs.declared.state.State.{State}
use Rattle.sheet.specs.declared.state.State.TheVariants.{Absent, Standing}

-- what each number is, which ordered pairs are marked, how many marks are held and how many can be
pub record Meaning : Type 0 where
  pub states : ℕ → State
  pub marks : ℕ → ℕ → Bool
  pub held : ℕ
  pub capacity : ℕ

-- the meaning of a sheet, by the four ghost members of its trait
abbrev pub meaning : {S : Type 0} → (S → ℕ → State) → (S → ℕ → ℕ → Bool) → (S → ℕ) → (S → ℕ) → S → Meaning
meaning states marks held capacity s = record { states = states s; marks = marks s; held = held s; capacity = capacity s }

-- how many ordered pairs of records are marked
unfoldable pub pairs : (ℕ → ℕ → Bool) → ℕ
pairs m = sum_to (λ u. sum_to (λ v. bit (m u v)) 64) 64

-- numbers above 63 are absent; only two different standing records are marked; the marked pairs are held, within the capacity
pub record Lawful (m : Meaning) : Type 0 where
  pub beyond : (u : ℕ) → 63 < u → m.states u ≡ Absent
  pub ends : (u v : ℕ) → m.marks u v ≡ true → (m.states u ≡ Standing) × (m.states v ≡ Standing) × (u ≢ v)
  pub counted : pairs m.marks ≤ m.held
  pub room : m.held ≤ m.capacity
  pub least : 512 ≤ m.capacity
  pub most : m.capacity ≤ 4032

-- a new sheet: every number is absent, nothing is marked or held
abbrev pub empty : ℕ → Meaning
empty capacity = record { states = λ u. Absent; marks = λ u v. false; held = 0; capacity = capacity }
