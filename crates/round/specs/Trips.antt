-- What it is for a release that is read to be the one that was written. Assumes nothing.
use Rattle.std.specs.Prelude.{◌≡◌, ℕ, true, List, take, Ok, Err, Result}
use Rattle.model.specs.declared.decline.Decline.{Decline}
use Rattle.model.specs.Views.{View}
use Rattle.scale.specs.declared.whole.Whole.{Whole}
use Rattle.sheet.specs.declared.meaning.Sheet.{Ghosts}
use Rattle.sheet.specs.Views.{view_of}
use Rattle.grading.specs.declared.ratio.Ratio.{Ratio}
use Rattle.grading.specs.Outcomes.{Memory}
use Rattle.grading.specs.Ratios.{RatioGiven}
use Rattle.release.specs.Grades.{grade_number}
use Rattle.release.specs.Writing.{Released}
use Rattle.reading.specs.declared.release.Release.{Release}
use Rattle.reading.specs.Reads.{told_in, Reads}

-- the release tells of what stands in w, by the finding r that the least ratio leaves in memory: just these records and marks, the
-- grades of these records, the ring, and its e and h
pub record TellsOf (w : View) (m : Memory Whole) (r : Ratio) (release : Release) : Type 0 where
  pub view : (told_in release).view ≡ w
  pub grades : (u : ℕ) → w.stands u ≡ true → (told_in release).grade u ≡ grade_number m.grades u
  pub ring : (told_in release).ring ≡ take r.ring m.ring
  pub marks : (told_in release).marks ≡ r.marks
  pub hops : (told_in release).hops ≡ r.hops

-- it tells of the least ratio's finding; the clause `back` ties it to the bytes that were written
abbrev pub TellsOfFinding : View → Memory Whole → Memory Whole → Release → Type 0
TellsOfFinding w before after release = (r : Ratio) × RatioGiven w r before after × TellsOf w after r release

-- the release is what the first n bytes are read as
abbrev pub ReadFrom : List ℕ → ℕ × Release → Type 0
ReadFrom bytes p = Reads (take p.0 bytes) (Ok p.1)

-- a release that tells of the finding, and no decline
abbrev pub ReadBack : View → Memory Whole → Memory Whole → Result Release Decline → Type 0
ReadBack w before after (Ok release) = TellsOfFinding w before after release
ReadBack w before after (Err d) = ⊥

-- the bytes that were written of what stands on a sheet are read back
abbrev pub RoundTrip : {S : Type 0} → Ghosts S → Type 0
RoundTrip {S} g =
    (s : S) (before after : Memory Whole) (out_before out_after : List ℕ) (n : ℕ) (a : Result Release Decline)
    → Released (view_of g s) before after out_before out_after (Ok n) → Reads (take n out_after) a → ReadBack (view_of g s) before after a

-- the length alone
abbrev pub length_of : Result (ℕ × Release) Decline → Result ℕ Decline
length_of (Ok p) = Ok p.0
length_of (Err d) = Err d
