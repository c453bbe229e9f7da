-- What a release tells, and what it is for that to hold. Assumes nothing.
use Rattle.std.specs.Prelude.{◌≡◌, ℕ, ◌<◌, ◌≤◌, true, List, ℤ, pos, neg_ℤ, ◌≢◌}
use Rattle.form.specs.Contents.{Contents, listed, paired, beside}
use Rattle.model.specs.Views.{View}
use Rattle.model.specs.Gradings.{Loose}
use Rattle.model.specs.Ratios.{thresholds_at, Shows}

-- what stands and is marked, a grade for each record, a ring, and its marks and hops
pub record Told : Type 0 where
  pub view : View
  pub grade : ℕ → ℤ
  pub ring : List ℕ
  pub marks : ℕ
  pub hops : ℕ

-- what contents tell, with e marks and h hops: a record is what is listed, a mark what is paired, a grade minus the depth beside its record
abbrev pub told_by : Contents → ℕ → ℕ → Told
told_by c e h = record {
  view = record { stands = listed c.records; marked = paired c.marks };
  grade = λ u. neg_ℤ (pos (beside c.records c.depths u));
  ring = c.ring;
  marks = e;
  hops = h;
}

-- the ring is one of these records and marks with so many marks and hops, both at least 1, or it is empty and they are 0 and 1;
-- and the grades are a loose grading, to the denominator 1, at t1 = hops and t2 = marks
pub record Holds (t : Told) : Type 0 where
  pub hopped : 1 ≤ t.hops
  pub shown : Shows t.view t.marks t.hops t.ring
  pub graded : Loose t.view (thresholds_at t.marks t.hops) 1 t.grade

-- no number above 63 stands, and only two different standing records are marked
pub record Drawn (w : View) : Type 0 where
  pub below : (u : ℕ) → w.stands u ≡ true → u < 64
  pub from : (u v : ℕ) → w.marked u v ≡ true → w.stands u ≡ true
  pub to : (u v : ℕ) → w.marked u v ≡ true → w.stands v ≡ true
  pub apart : (u v : ℕ) → w.marked u v ≡ true → u ≢ v
