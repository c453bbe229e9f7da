-- From the outcome of the least ratio to what writing a release owes. Assumes nothing.
use Rattle.std.proofs.Common.{ℕ, ◌≤◌, Bool, true, false, List, length, take, Ok, Err, MatchBool, Result, inl, inr, refl, arith}
use Rattle.std.proofs.Math.Nat.{max-le, min-le_left}
use Rattle.std.proofs.lemmas.List.{length-take}
use Rattle.model.specs.declared.decline.Decline.{Decline}
use Rattle.model.specs.Views.{View}
use Rattle.model.specs.Ratios.{Shows}
use Rattle.model.proofs.Rounds.{e_and_h}
use Rattle.scale.specs.declared.whole.Whole.{Whole}
use Rattle.grading.specs.declared.ratio.Ratio.{Ratio}
use Rattle.grading.specs.Outcomes.{Memory, suffices, Declined}
use Rattle.grading.specs.Ratios.{RatioGiven, RatioFound, RatioOrCircle, valueless}
use Rattle.release.specs.Grades.{Lows}
use Rattle.release.specs.Writing.{Puts, Writes, found, circled, MemoryRefused, Released, release_of}

-- a ring of at most 64 records has at most 64 marks and 64 hops; and 0 to 1 has no more
few : (w : View) (e h : ℕ) (xs : List ℕ) → length xs ≤ 64 → Shows w e h xs → (e ≤ 64) × (h ≤ 64)
few w e h xs long (inl none) = (omega (arith, none.marks), omega (arith, none.hops))
few w e h xs long (inr shown) =
    let all = e_and_h w xs shown.ring.cycle in
    (omega (arith, all, shown.marks, shown.hops, long), omega (arith, all, shown.marks, shown.hops, long))

module _ (w : View) (before after : Memory Whole) where
  -- with the ratio the memory was enough
  pub given_of : (r : Ratio) → RatioFound w before after (Ok r) → RatioGiven w r before after
  given_of r o = go (suffices before) o
    where
      go : (b : Bool) → MatchBool b (RatioGiven w r before after) (Declined 1 before after (valueless (Ok r))) → RatioGiven w r before after
      go true s = s
      go false s = absurd (omega (arith, s.answer))

  -- Grades of a least ratio are not above 0, and their size is at most 64 steps of t1 = h or t2 = e,
  -- where e and h are counted on a ring of at most 64 records.
  pub low_given : (r : Ratio) → RatioGiven w r before after → Lows w after.grades
  low_given r given u l s =
      let long : length (take r.ring after.ring) ≤ 64 = omega (arith, length-take r.ring after.ring, min-le_left r.ring (length after.ring), given.short) in
      let counts = few w r.marks r.hops (take r.ring after.ring) long given.least.shown in
      record { none_above = given.graded.best.low u l s; short = omega (arith, given.graded.best.size u l s, max-le counts.1 counts.0) }

  pub low : (r : Ratio) → RatioFound w before after (Ok r) → Lows w after.grades
  low r o = low_given r (given_of r o)

  -- a least ratio, and its release put out or not
  pub released : (r : Ratio) {out_before out_after : List ℕ} {a : Result ℕ Decline} → RatioFound w before after (Ok r)
      → Puts (release_of w after r) out_before out_after a → Released w before after out_before out_after a
  released r {out_before = out_before} {out_after = out_after} {a = a} o puts = go (suffices before) o
    where
      go : (b : Bool) → MatchBool b (RatioGiven w r before after) (Declined 1 before after (valueless (Ok r)))
          → MatchBool b (Writes w before after out_before out_after a) (MemoryRefused before after out_before out_after a)
      go true s = found r s puts
      go false s = absurd (omega (arith, s.answer))

  -- declined as the least ratio is, with the output kept
  pub declined : (d : Decline) (out : List ℕ) → RatioFound w before after (Err d) → Released w before after out out (Err d)
  declined d out o = go (suffices before) o
    where
      go : (b : Bool) → MatchBool b (RatioOrCircle w before after (Err d)) (Declined 1 before after (valueless {X = Ratio} (Err d)))
          → MatchBool b (Writes w before after out out (Err d)) (MemoryRefused before after out out (Err d))
      go true s = circled d s.0 s.1 refl
      go false s = record { memory = s; output = refl }
