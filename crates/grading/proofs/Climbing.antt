-- The ratio in hand, from ring to ring, and what is answered at the end. Assumes nothing.
use Rattle.std.proofs.Common.{◌≡◌, ℕ, ◌+◌, ◌-◌, ◌*◌, ◌<◌, ◌≤◌, Bool, true, false, cond, ltb, List, ◌++◌, length, get_or, take, drop, Ok, Err, MatchBool, sym, refl, ap, ◌∙◌, subst, subst₂, inl, inr, arith, length-take-le, get_or-drop, take-take}
use lib.Seq.{take-append-le}
use Rattle.std.proofs.lemmas.List.{get_or-append_right}
use Rattle.std.proofs.lemmas.Bool.{ltb-true, ltb-false}
use Rattle.model.specs.declared.decline.Decline.TheVariants.{Circle as circle}
use Rattle.model.specs.declared.thresholds.Thresholds.{Thresholds}
use Rattle.model.specs.Views.{View}
use Rattle.model.specs.Rings.{Circle}
use Rattle.model.specs.Ratios.{thresholds_at, Shows}
use Rattle.model.proofs.Ratios.{grading_shows_least}
use Rattle.scale.specs.declared.whole.Whole.{Whole}
use Rattle.grading.specs.declared.count.Tally.{Tally}
use Rattle.grading.specs.declared.ratio.Ratio.{Ratio}
use Rattle.grading.specs.Counts.{Counted}
use Rattle.paths.specs.Numbers.{ForbidsLoosely}
use Rattle.grading.specs.Outcomes.{Memory}
use Rattle.grading.specs.Ratios.{grade_at, GradedAt, RatioOrCircle, ratio, Climbed, answer_to}
use Rattle.grading.proofs.Measures.{room_above, room_falls}

-- One turn. The first k bytes of xs are a ring that forbids at t1 = h and t2 = e, for the ratio e to h in hand; r counts its steps.
-- That it forbids is by its counts just that its ratio is the greater one, so less is left above it.
module _ (w : View) (best r : Ratio) (t : Thresholds) (is_at : t ≡ thresholds_at best.marks best.hops) (xs : List ℕ) (k : ℕ) (short : k ≤ 64) (forbids : ForbidsLoosely w t (take k xs))
    (tally : Tally) (few : (tally.marks ≤ 64) × (tally.hops ≤ 64)) (counted : Counted w (take k xs) (length (take k xs)) tally) (is_r : r ≡ ratio tally.marks tally.hops k) where
  -- by its counts the ring has f·t1 > k·t2
  forbids_by : tally.hops * t.t2 < tally.marks * t.t1
  forbids_by = subst₂ (λ (m n : ℕ). n * t.t2 < m * t.t1) (sym counted.marks) (sym counted.hops) forbids.forbids

  -- with t1 = h and t2 = e that is f/k > e/h
  pub room_next : ltb 0 best.hops ≡ true → best.hops ≤ 64 → room_above r.marks r.hops < room_above best.marks best.hops
  room_next some few_hops = subst (λ (x : Ratio). room_above x.marks x.hops < room_above best.marks best.hops) (sym is_r)
      (room_falls best.marks best.hops tally.marks tally.hops (ltb-true 0 best.hops some) few_hops few.0 few.1
      (subst (λ (s : Thresholds). tally.hops * s.t2 < tally.marks * s.t1) is_at forbids_by))

-- ---- what is answered
-- the front of ys is that of xs, and the rest that of zs
module _ (k : ℕ) (xs ys zs : List ℕ) (room : k ≤ length xs) (is : ys ≡ take k xs ++ drop k zs) where
  front : take k ys ≡ take k xs
  front =
      let long : k ≤ length (take k xs) = omega (arith, length-take-le k xs room) in
      ap (take k) is ∙ take-append-le k (take k xs) (drop k zs) long ∙ take-take k k xs (omega arith)

  past_front : (i : ℕ) → k ≤ i → get_or ys i 0 ≡ get_or zs i 0
  past_front i l =
      let at : k + (i - k) ≡ i = omega arith in
      ap (λ (s : List ℕ). get_or s i 0) is ∙ get_or-append_right (take k xs) (drop k zs) k i 0 (length-take-le k xs room) l ∙ get_or-drop k zs (i - k) 0 ∙ ap (λ (n : ℕ). get_or zs n 0) at

-- without marks no ring is in hand
ringless : (w : View) (e h k : ℕ) (xs : List ℕ) → k ≤ length xs → Shows w e h (take k xs) → e ≡ 0 → k ≡ 0
ringless w e h k xs room (inl none) z = sym (length-take-le k xs room) ∙ ap length none.empty
ringless w e h k xs room (inr shown) z = absurd (omega (arith, shown.some))

-- without hops the ring in hand is a circle
circle_held : (w : View) (e h : ℕ) (xs : List ℕ) → Shows w e h xs → h ≡ 0 → Circle w xs
circle_held w e h xs (inl none) z = absurd (omega (arith, none.hops))
circle_held w e h xs (inr shown) z = record { ring = shown.ring; hopless = shown.hops ∙ z }

-- By the hops of the ratio in hand. With hops, its ring and the grades at it show that it is the least ratio.
-- Without hops its ring is a circle. The copy has the ring's bytes in front, and the caller's own past them.
pub answered : (w : View) (before after : Memory Whole) (xs : List ℕ) (r : Ratio) → 64 ≤ length xs → Climbed w r before.grades after.grades xs
    → after.ring ≡ take r.ring xs ++ drop r.ring before.ring → RatioOrCircle w before after (answer_to r)
answered w before after xs r room climbed is = go (ltb 0 r.hops) refl climbed.grades
  where
    fits : r.ring ≤ length xs
    fits = let short : r.ring ≤ 64 = climbed.held.short in omega arith

    shown : Shows w r.marks r.hops (take r.ring after.ring)
    shown = subst (Shows w r.marks r.hops) (sym (front r.ring xs after.ring before.ring fits is)) climbed.held.shown

    go : (b : Bool) → ltb 0 r.hops ≡ b → MatchBool b (GradedAt w r.marks r.hops before.grades after.grades) (after.grades ≡ before.grades) → RatioOrCircle w before after (cond b (Ok r) (Err (circle r.ring)))
    go true e graded = record {
      short = climbed.held.short;
      least = grading_shows_least w r.marks r.hops 1 (take r.ring after.ring) (λ u. (grade_at after.grades u).value) (ltb-true 0 r.hops e) shown (omega arith) graded.best.loose;
      past = past_front r.ring xs after.ring before.ring fits is;
      ringless = λ e.
          let none : r.ring ≡ 0 = ringless w r.marks r.hops r.ring xs fits climbed.held.shown e in
          (none, subst (λ (k : ℕ). after.ring ≡ take k xs ++ drop k before.ring) none is);
      graded = graded;
    }
    go false e kept = (
      refl,
      record {
        short = climbed.held.short;
        ring = circle_held w r.marks r.hops (take r.ring after.ring) shown (let none : r.hops ≤ 0 = ltb-false 0 r.hops e in omega arith);
        past = past_front r.ring xs after.ring before.ring fits is;
        grades = kept;
      },
    )
