-- What was written of a drawn view is read back. Assumes nothing.
use Rattle.std.proofs.Common.{◌≡◌, ℕ, ◌<◌, ◌≤◌, Bool, true, false, List, length, take, drop, get_or, ℤ, Ok, Err, MatchBool, Result, ⊎_elim, inl, inr, sym, ap, ◌∙◌, subst, arith, length-append}
use Rattle.std.proofs.Math.Nat.{min-le_left}
use Rattle.std.proofs.lemmas.Bool.{cases_lt, or_left, or_right}
use Rattle.std.proofs.lemmas.List.{length-take, take_at}
use Rattle.model.specs.declared.decline.Decline.{Decline}
use Rattle.model.specs.declared.thresholds.Thresholds.{Thresholds}
use Rattle.model.specs.Views.{View, is_mark, is_hop, is_step}
use Rattle.model.specs.Gradings.{Loose}
use Rattle.model.specs.Ratios.{thresholds_at, Shows}
use Rattle.model.proofs.Steps.{step_stands, step_head}
use Rattle.sheet.specs.declared.meaning.Sheet.{Ghosts}
use Rattle.sheet.specs.Meanings.{Lawful}
use Rattle.sheet.specs.States.{is_standing}
use Rattle.sheet.specs.Views.{meaning_of, view_of}
use Rattle.scale.specs.declared.whole.Whole.{Whole}
use Rattle.grading.specs.declared.ratio.Ratio.{Ratio}
use Rattle.grading.specs.Outcomes.{Memory, suffices}
use Rattle.grading.specs.Ratios.{RatioGiven}
use Rattle.form.specs.Contents.{Contents}
use Rattle.form.specs.Got.{Got}
use Rattle.form.specs.Laid.{laid_out}
use Rattle.form.specs.Sections.{finding}
use Rattle.form.proofs.Back.{reads_back}
use Rattle.release.specs.Grades.{grade_number}
use Rattle.release.specs.Writing.{release_of, Puts, put, Writes, found, MemoryRefused, Released}
use Rattle.release.proofs.Releasing.{low_given}
use Rattle.reading.specs.declared.release.Release.{Release}
use Rattle.reading.specs.Told.{Told, Drawn, Holds, told_by}
use Rattle.reading.specs.Reads.{told_in, HoldsOrNot, FormFirst, Reads}
use Rattle.reading.proofs.Judging.{one_ratio}
use Rattle.round.specs.Trips.{TellsOf, ReadBack}
use Rattle.round.proofs.Valid.{valid}
use Rattle.round.proofs.Told.{view_told, grade_told}

-- a grading is told by the grades of what stands
graded_same : (w : View) (t : Thresholds) (g h : ℕ → ℤ) → ((u : ℕ) → w.stands u ≡ true → h u ≡ g u) → Loose w t 1 g → Loose w t 1 h
graded_same w t g h same l = record {
  up = λ u v a b m.
      let s : is_step w u v ≡ true = or_left (is_mark w u v) (is_hop w u v) m in
      rw (same u (step_stands w u v s), same v (step_head w u v s)) (l.up u v a b m);
  near = λ u v a b k.
      let s : is_step w u v ≡ true = or_right (is_mark w u v) (is_hop w u v) k in
      rw (same u (step_stands w u v s), same v (step_head w u v s)) (l.near u v a b k);
}

module _ (w : View) (drawn : Drawn w) (before after : Memory Whole) where
  module _ (r : Ratio) (given : RatioGiven w r before after) where
    abbrev g : ℕ → ℤ
    g = grade_number after.grades

    abbrev xs : List ℕ
    xs = take r.ring after.ring

    abbrev c : Contents
    c = finding w g xs

    short : length xs ≤ 64
    short = omega (arith, length-take r.ring after.ring, min-le_left r.ring (length after.ring), given.short)

    low : Shows w r.marks r.hops xs → (i : ℕ) → i < length xs → get_or xs i 0 < 64
    low (inl none) i l = absurd (omega (arith, ap length none.empty))
    low (inr ring) i l = ring.ring.cycle.below i l

    -- The contents are read back to their end, since they meet the rules of the form.
    judged : (a : Result Release Decline) → Reads (laid_out c) a → HoldsOrNot (told_by c) a
    judged a reads =
        subst (λ (k : Got Contents). FormFirst k a)
        (reads_back c (valid w drawn g xs (λ u l s. omega (arith, low_given w before after r given u l s)) (omega (arith, short)) (low given.least.shown))) reads

    same_grade : (e h u : ℕ) → w.stands u ≡ true → (told_by c e h).grade u ≡ g u
    same_grade e h u s = grade_told w drawn g xs e h u s (given.graded.best.low u (drawn.below u s) s)

    -- They hold, since the least ratio shows its ring and grades by it.
    holds : Holds (told_by c r.marks r.hops)
    holds =
        let view = sym (view_told w drawn g xs r.marks r.hops) in
        record {
          hopped = given.least.hopped;
          shown = subst (λ (v : View). Shows v r.marks r.hops xs) view given.least.shown;
          graded = subst (λ (v : View). Loose v (thresholds_at r.marks r.hops) 1 (told_by c r.marks r.hops).grade) view
              (graded_same w (thresholds_at r.marks r.hops) g (told_by c r.marks r.hops).grade (same_grade r.marks r.hops) given.graded.best.loose);
        }

    tells : (release : Release) → told_in release ≡ told_by c (told_in release).marks (told_in release).hops → Holds (told_in release) → TellsOf w after r release
    tells release e held =
        let view = ap (λ (t : Told). t.view) e ∙ view_told w drawn g xs (told_in release).marks (told_in release).hops in
        let ring = ap (λ (t : Told). t.ring) e in
        let shown = subst (λ (v : View). Shows v (told_in release).marks (told_in release).hops xs) view
        (subst (λ (ys : List ℕ). Shows (told_in release).view (told_in release).marks (told_in release).hops ys) ring held.shown) in
        let one = one_ratio w xs (told_in release).marks (told_in release).hops r.marks r.hops shown given.least.shown in
        record {
          view = view;
          grades = λ u s. ap (λ (t : Told). t.grade u) e ∙ same_grade (told_in release).marks (told_in release).hops u s;
          ring = ring;
          marks = one.0;
          hops = one.1;
        }

    pub back : (a : Result Release Decline) → Reads (laid_out c) a → ReadBack w before after a
    back (Ok release) reads = let j = judged (Ok release) reads in (r, given, tells release j.0 j.1)
    back (Err d) reads = let j = judged (Err d) reads in j.1 r.marks r.hops holds

  -- the bytes that were put out are at the front of the output
  put_front : (bytes out_before out_after : List ℕ) (n : ℕ) → Puts bytes out_before out_after (Ok n) → (take n out_after ≡ bytes) × (n ≤ length out_after)
  put_front bytes out_before out_after n (put m long room e) = (
    ap (take m) e ∙ take_at bytes (drop m out_before) m (sym long),
    omega (arith, ap length e, length-append bytes (drop m out_before), long),
  )

  wrote : (out_before out_after : List ℕ) (n : ℕ) (a : Result Release Decline) → Writes w before after out_before out_after (Ok n)
      → Reads (take n out_after) a → ReadBack w before after a
  wrote out_before out_after n a (found r given puts) reads =
      back r given a (subst (λ (bs : List ℕ). Reads bs a) (put_front (release_of w after r) out_before out_after n puts).0 reads)

  within : (out_before out_after : List ℕ) (n : ℕ) → Writes w before after out_before out_after (Ok n) → n ≤ length out_after
  within out_before out_after n (found r given puts) = (put_front (release_of w after r) out_before out_after n puts).1

  pub written_within : (out_before out_after : List ℕ) (n : ℕ) → Released w before after out_before out_after (Ok n) → n ≤ length out_after
  written_within out_before out_after n released = go (suffices before) released
    where
      go : (b : Bool) → MatchBool b (Writes w before after out_before out_after (Ok n)) (MemoryRefused before after out_before out_after (Ok n))
          → n ≤ length out_after
      go true s = within out_before out_after n s
      go false s = absurd (omega (arith, s.memory.answer))

  pub trip : (out_before out_after : List ℕ) (n : ℕ) (a : Result Release Decline) → Released w before after out_before out_after (Ok n)
      → Reads (take n out_after) a → ReadBack w before after a
  trip out_before out_after n a released reads = go (suffices before) released
    where
      go : (b : Bool) → MatchBool b (Writes w before after out_before out_after (Ok n)) (MemoryRefused before after out_before out_after (Ok n))
          → ReadBack w before after a
      go true s = wrote out_before out_after n a s reads
      go false s = absurd (omega (arith, s.memory.answer))

-- what stands on a sheet is drawn, by the law of sheets
pub drawn_of : {S : Type 0} (sheet : Ghosts S) (s : S) → Lawful (meaning_of sheet s) → Drawn (view_of sheet s)
drawn_of sheet s law = record {
  below = λ u stands. ⊎_elim (λ (l : u < 64). l) (λ (l : 64 ≤ u). absurd (clash (ap is_standing (law.beyond u (omega arith))) stands)) (cases_lt u 64);
  from = λ u v m. ap is_standing (law.ends u v m).0;
  to = λ u v m. ap is_standing (law.ends u v m).1;
  apart = λ u v m. (law.ends u v m).2;
}
  where
    clash : {b : Bool} → b ≡ false → b ≡ true → ⊥
    clash p q = cc
