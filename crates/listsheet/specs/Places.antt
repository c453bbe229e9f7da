-- What the list of a list sheet means. Assumes nothing.
use Rattle.std.specs.Prelude.{ℕ, ◌≤◌, Bool, false, ◌&&◌, ◌||◌, List, length, ◌==◌, count_by, slice_index_or}
use Rattle.std.specs.List.{fold}
use Rattle.sheet.specs.Meanings.{Meaning}
use Rattle.sheet.specs.Kept.{kept_meaning}
use Rattle.listsheet.specs.declared.marks.Mark.{Mark}

-- the mark from u to v
abbrev pub mark_of : ℕ → ℕ → Mark
mark_of u v = record { from = u; to = v }

-- the mark in place i
abbrev pub place : List Mark → ℕ → Mark
place items i = slice_index_or items i (mark_of 0 0)

abbrev pub is_pair : Mark → ℕ → ℕ → Bool
is_pair k u v = u == k.from && v == k.to

-- whether the pair is in the list: whether some mark in it is that pair
abbrev pub list_marks : List Mark → ℕ → ℕ → Bool
list_marks items u v = fold (λ (found : Bool) (k : Mark). found || is_pair k u v) false items

-- how often the pair is in the list
abbrev pub times : List Mark → ℕ → ℕ → ℕ
times items u v = count_by (λ k. is_pair k u v) items

-- no pair twice
abbrev pub Once : List Mark → Type 0
Once items = (u v : ℕ) → times items u v ≤ 1

-- the meaning of a list sheet: it holds the marks in its list, and has 512 places
abbrev pub list_meaning : ℕ → List Mark → Meaning
list_meaning present items = kept_meaning present (list_marks items) (length items) 512
