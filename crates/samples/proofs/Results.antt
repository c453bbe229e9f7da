-- From tests that compute to what is said of a sample. Assumes nothing.
use Rattle.std.proofs.Common.{◌≡◌, ℕ, ◌*◌, Bool, true, ◌&&◌, List, [], ◌∷◌, eqb, leb, ltb, inl, inr, refl, arith}
use Rattle.std.proofs.lemmas.Bool.{and_parts, eqb-true, leb-true, ltb-true}
use Rattle.model.specs.declared.thresholds.Thresholds.{Thresholds}
use Rattle.model.specs.Views.{View}
use Rattle.model.specs.Rings.{marks_of, hops_of}
use Rattle.model.specs.Gradings.{ForbidsLoose, ForbidsStrict}
use Rattle.model.specs.Ratios.{thresholds_at, RingWith, Shows, LeastRatio}
use Rattle.model.proofs.Ratios.{grading_shows_least}
use Rattle.model.proofs.Forbids.{ring_forbids_loose, ring_forbids_strict}
use Rattle.paths.specs.Numbers.{ForbidsLoosely, ForbidsStrictly}
use Rattle.samples.specs.Results.{minus, LooseGrades, RatioIs}
use Rattle.samples.proofs.Covers.{Covers}
use Rattle.samples.proofs.Rings.{is_ring, ring_by_test}
use Rattle.samples.proofs.Grades.{is_best_loose, loose_by_test}
use Rattle.samples.proofs.Only.{is_only, only_by_test}

-- xs is a ring of e marks, at least one, and h hops
abbrev has_ratio : View → ℕ → ℕ → List ℕ → Bool
has_ratio w e h xs = (is_ring w xs && leb 1 e) && (eqb (marks_of w xs) e && eqb (hops_of w xs) h)

ring_with : (w : View) (e h : ℕ) (xs : List ℕ) → has_ratio w e h xs ≡ true → RingWith w e h xs
ring_with w e h xs t =
    let p = and_parts (is_ring w xs && leb 1 e) (eqb (marks_of w xs) e && eqb (hops_of w xs) h) t in
    let q = and_parts (is_ring w xs) (leb 1 e) p.0 in
    let r = and_parts (eqb (marks_of w xs) e) (eqb (hops_of w xs) h) p.1 in
    record {
      ring = ring_by_test w xs q.0;
      marks = eqb-true (marks_of w xs) e r.0;
      hops = eqb-true (hops_of w xs) h r.1;
      some = leb-true 1 e q.1;
    }

-- such a ring, or none for 0 to 1
abbrev shows : View → ℕ → ℕ → List ℕ → Bool
shows w e h [] = eqb e 0 && eqb h 1
shows w e h (x ∷ xs) = has_ratio w e h (x ∷ xs)

shows_by_test : (w : View) (e h : ℕ) (xs : List ℕ) → shows w e h xs ≡ true → Shows w e h xs
shows_by_test w e h [] t =
    let p = and_parts (eqb e 0) (eqb h 1) t in
    inl (record { empty = refl; marks = eqb-true e 0 p.0; hops = eqb-true h 1 p.1 })
shows_by_test w e h (x ∷ xs) t = inr (ring_with w e h (x ∷ xs) t)

-- the ring has the ratio, the grades are the best at it, and no other numbers come into question
abbrev pub is_ratio : View → ℕ → ℕ → List ℕ → List ℕ → List ℕ → ℕ → Bool
is_ratio w e h ring ds next n = (leb 1 h && shows w e h ring) && (is_best_loose w (thresholds_at e h) ds next n && is_only w n e h ring)

-- A ring that has the ratio and a loose grading at the ratio are all that the theorem on least ratios asks for. The best grades at the
-- ratio are such a grading. That no other ring has the ratio was tried with every ring.
pub ratio_by_test : {w : View} {e h : ℕ} {ring ds : List ℕ} (next : List ℕ) (n : ℕ) → Covers w n → is_ratio w e h ring ds next n ≡ true → RatioIs w e h ring ds
ratio_by_test {w} {e} {h} {ring} {ds} next n covers t =
    let p = and_parts (leb 1 h && shows w e h ring) (is_best_loose w (thresholds_at e h) ds next n && is_only w n e h ring) t in
    let q = and_parts (leb 1 h) (shows w e h ring) p.0 in
    let r = and_parts (is_best_loose w (thresholds_at e h) ds next n) (is_only w n e h ring) p.1 in
    let grades : LooseGrades w (thresholds_at e h) ds = loose_by_test next n covers r.0 in
    let shown = shows_by_test w e h ring q.1 in
    let least : LeastRatio w e h ring = grading_shows_least w e h 1 ring (minus ds) (leb-true 1 h q.0) shown (omega arith) grades.best.loose in
    record { least = least; only = only_by_test w n e h ring covers least r.1; grades = grades }

-- a ring that forbids
abbrev is_against_loose : View → Thresholds → List ℕ → Bool
is_against_loose w t xs = is_ring w xs && ltb (hops_of w xs * t.t2) (marks_of w xs * t.t1)

pub forbids_loosely : (w : View) (t : Thresholds) (xs : List ℕ) → is_against_loose w t xs ≡ true → ForbidsLoosely w t xs
forbids_loosely w t xs e =
    let p = and_parts (is_ring w xs) (ltb (hops_of w xs * t.t2) (marks_of w xs * t.t1)) e in
    let ring = ring_by_test w xs p.0 in
    let forbids : ForbidsLoose w t xs = ltb-true (hops_of w xs * t.t2) (marks_of w xs * t.t1) p.1 in
    record { ring = ring; forbids = forbids; none = ring_forbids_loose w t xs ring.cycle forbids }

abbrev is_against_strict : View → Thresholds → List ℕ → Bool
is_against_strict w t xs = is_ring w xs && (leb 1 (marks_of w xs) && leb (hops_of w xs * t.t2) (marks_of w xs * t.t1))

pub forbids_strictly : (w : View) (t : Thresholds) (xs : List ℕ) → is_against_strict w t xs ≡ true → ForbidsStrictly w t xs
forbids_strictly w t xs e =
    let p = and_parts (is_ring w xs) (leb 1 (marks_of w xs) && leb (hops_of w xs * t.t2) (marks_of w xs * t.t1)) e in
    let q = and_parts (leb 1 (marks_of w xs)) (leb (hops_of w xs * t.t2) (marks_of w xs * t.t1)) p.1 in
    let ring = ring_by_test w xs p.0 in
    let forbids : ForbidsStrict w t xs = (leb-true 1 (marks_of w xs) q.0, leb-true (hops_of w xs * t.t2) (marks_of w xs * t.t1) q.1) in
    record { ring = ring; forbids = forbids; none = ring_forbids_strict w t xs ring.cycle forbids }
