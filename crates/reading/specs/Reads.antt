-- What reading bytes answers. Assumes nothing.
use Rattle.std.specs.Prelude.{◌≡◌, ℕ, List, Ok, Err, Result}
use Rattle.model.specs.declared.decline.Decline.{Decline}
use Rattle.model.specs.Refusals.{number_of}
use Rattle.form.specs.Contents.{Contents}
use Rattle.form.specs.Got.{Got, got, stop}
use Rattle.form.specs.Reading.{release}
use Rattle.reading.specs.declared.release.Release.{Release}
use Rattle.reading.specs.Told.{Told, Holds, told_by}
use Rattle.reading.specs.Claims.{claimed}

-- what a release tells
abbrev pub told_in : Release → Told
told_in r = claimed r.claim r.tally.marks r.tally.hops

-- a release that tells just this, with its own marks and hops, and holds; or declined by 16, where it holds for no e and h
abbrev pub HoldsOrNot : (ℕ → ℕ → Told) → Result Release Decline → Type 0
HoldsOrNot what (Ok r) = (told_in r ≡ what (told_in r).marks (told_in r).hops) × Holds (told_in r)
HoldsOrNot what (Err d) = (number_of d ≡ 16) × ((e h : ℕ) → Holds (what e h) → ⊥)

-- declined by a number
abbrev pub DeclinedBy : ℕ → Result Release Decline → Type 0
DeclinedBy n (Ok r) = ⊥
DeclinedBy n (Err d) = number_of d ≡ n

-- the first broken rule of the form decides; where none is broken, whether what the contents tell holds
abbrev pub FormFirst : Got Contents → Result Release Decline → Type 0
FormFirst (got c rest) a = HoldsOrNot (told_by c) a
FormFirst (stop n) a = DeclinedBy n a

abbrev pub Reads : List ℕ → Result Release Decline → Type 0
Reads bs a = FormFirst (release bs) a
