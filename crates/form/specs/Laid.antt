-- The bytes of a release, and the rules of its form. Assumes nothing.
use Rattle.std.specs.Prelude.{◌≡◌, ℕ, ◌/◌, ◌%◌, ◌<◌, ◌≤◌, true, List, [], ◌∷◌, ◌++◌, length}
use Rattle.std.specs.List.{flat_map}
use Rattle.form.specs.Contents.{Contents, listed}
use Rattle.form.specs.Reading.{not_before, above, later, any}

-- a number in one byte, a pair in two, a number in two with the low byte first
abbrev pub alone : ℕ → List ℕ
alone b = b ∷ []

abbrev pub of_pair : (ℕ × ℕ) → List ℕ
of_pair p = p.0 ∷ p.1 ∷ []

abbrev pub of_two : ℕ → List ℕ
of_two n = n % 256 ∷ n / 256 ∷ []

-- four sections, each after its count
abbrev pub laid_out : Contents → List ℕ
laid_out c =
    length c.records ∷ (flat_map alone c.records
    ++ (of_two (length c.marks) ++ (flat_map of_pair c.marks
    ++ (length c.depths ∷ (flat_map of_two c.depths
    ++ (length c.ring ∷ (flat_map alone c.ring ++ [])))))))

-- each item is good under what the items before it leave
abbrev pub Chain : {S A : Type 0} → (S → A → Type 0) → (S → A → S) → S → List A → Type 0
Chain Good next s [] = Unit {0}
Chain Good next s (a ∷ xs) = Good s a × Chain Good next (next s a) xs

abbrev pub RecordNumber : ℕ → ℕ → Type 0
RecordNumber _ b = b ≤ 63

abbrev pub NumberFrom : ℕ → ℕ → Type 0
NumberFrom low b = (low ≤ b) × (b ≤ 63)

abbrev pub Word : ℕ → ℕ → Type 0
Word _ d = d < 65536

-- a pair of two different records of rs that does not come before `low`
pub record PairFrom (rs : List ℕ) (low p : ℕ × ℕ) : Type 0 where
  pub from_record : listed rs p.0 ≡ true
  pub to_record : listed rs p.1 ≡ true
  pub apart : p.0 ≡ p.1 → ⊥
  pub order : not_before low.0 low.1 p.0 p.1 ≡ true

-- record numbers that rise
abbrev pub Rising : List ℕ → Type 0
Rising rs = Chain NumberFrom above 0 rs

-- records and pairs rise, there are as many depths as records, the ring's numbers are at most 63, and each count and depth fits its bytes
pub record Valid (c : Contents) : Type 0 where
  pub records : Rising c.records
  pub marks : Chain (PairFrom c.records) later (0, 0) c.marks
  pub mark_count : length c.marks < 65536
  pub depth_count : length c.depths ≡ length c.records
  pub depths : Chain Word any 0 c.depths
  pub ring : Chain RecordNumber any 0 c.ring
  pub ring_count : length c.ring < 256
