-- What the bytes of a release claim, and the contents that it stands for. Assumes nothing.
use Rattle.std.specs.Prelude.{◌≡◌, ℕ, Bool, false, List, ℤ, pos, neg_ℤ, slice_index}
use Rattle.arrayvec.specs.ArrayVec.{ArrayVec}
use Rattle.model.specs.Sets.{has}
use Rattle.model.specs.Views.{View}
use Rattle.form.specs.Contents.{Contents, paired}
use Rattle.form.specs.Sections.{records_below, depths_below}
use Rattle.reading.specs.declared.claim.Claim.{Claim}
use Rattle.reading.specs.Told.{Told, told_by, Drawn}

-- rows of bits as marks, and places as grades: a grade is minus its depth
abbrev pub row_marks : List ℕ → ℕ → ℕ → Bool
row_marks rows u v = has (slice_index rows u) v

abbrev pub grade_of : List ℕ → ℕ → ℤ
grade_of depths u = neg_ℤ (pos (slice_index depths u))

abbrev pub claimed_view : Claim → View
claimed_view c = record { stands = has c.records; marked = row_marks c.marks }

-- what is claimed, with e marks and h hops
abbrev pub claimed : Claim → ℕ → ℕ → Told
claimed c e h = record { view = claimed_view c; grade = grade_of c.depths; ring = c.ring.items; marks = e; hops = h }

-- ---- section by section
-- the records of a word, without marks
abbrev pub of_set : ℕ → View
of_set set = record { stands = has set; marked = λ _ _. false }

-- the set has just these records, which rise
abbrev pub IsSet : List ℕ → ℕ → Type 0
IsSet rs set = rs ≡ records_below (of_set set) 64

-- the rows have just these pairs, each of two different records of the set
pub record AreRows (set : ℕ) (ms : List (ℕ × ℕ)) (rows : List ℕ) : Type 0 where
  pub paired : paired ms ≡ row_marks rows
  pub drawn : Drawn (record { stands = has set; marked = row_marks rows })

-- the places of the records have these depths, in their order, and the others 0
pub record ArePlaces (set : ℕ) (ds depths : List ℕ) : Type 0 where
  pub listed : ds ≡ depths_below (of_set set) (grade_of depths) 64
  pub others : (u : ℕ) → has set u ≡ false → slice_index depths u ≡ 0

abbrev pub IsRing : List ℕ → ArrayVec ℕ → Type 0
IsRing ks ring = ks ≡ ring.items

-- the claim stands for the contents
pub record StandsFor (c : Contents) (claim : Claim) : Type 0 where
  pub tells : (e h : ℕ) → claimed claim e h ≡ told_by c e h
  pub drawn : Drawn (claimed_view claim)
