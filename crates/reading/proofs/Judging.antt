-- What is claimed is judged by its ring, and then by its grades. Assumes nothing.
use Rattle.std.proofs.Common.{◌≡◌, ℕ, List, length, inl, inr, sym, ap, ◌∙◌, subst, arith}
use Rattle.model.specs.Views.{View}
use Rattle.model.specs.Gradings.{Loose}
use Rattle.model.specs.Ratios.{thresholds_at, Shows}
use Rattle.model.specs.declared.thresholds.Thresholds.{Thresholds}
use Rattle.reading.specs.declared.claim.Claim.{Claim}
use Rattle.reading.specs.declared.ring.Tally.{Tally}
use Rattle.reading.specs.Told.{Holds}
use Rattle.reading.specs.Claims.{claimed, claimed_view, grade_of}
use Rattle.reading.specs.Tests.{AllMeet, RatioShown}
use Rattle.std.specs.Prelude.{ℤ}

-- a loose grading to the denominator 1 is one that meets every step
loose : (w : View) (g : ℕ → ℤ) (t : Thresholds) → AllMeet w g t → Loose w t 1 g
loose w g t all = record { up = λ u v a b. ((all.each u a).each v b).up; near = λ u v a b. ((all.each u a).each v b).near }

meets : (w : View) (g : ℕ → ℤ) (t : Thresholds) → Loose w t 1 g → AllMeet w g t
meets w g t l = record { each = λ u a. record { each = λ v b. record { up = l.up u v a b; near = l.near u v a b } } }

-- a ring shows one ratio alone
pub one_ratio : (w : View) (xs : List ℕ) (e h f k : ℕ) → Shows w e h xs → Shows w f k xs → (e ≡ f) × (h ≡ k)
one_ratio w xs e h f k (inl a) (inl b) = (a.marks ∙ sym b.marks, a.hops ∙ sym b.hops)
one_ratio w xs e h f k (inl a) (inr b) = absurd (omega (arith, ap length a.empty, b.ring.cycle.long))
one_ratio w xs e h f k (inr a) (inl b) = absurd (omega (arith, ap length b.empty, a.ring.cycle.long))
one_ratio w xs e h f k (inr a) (inr b) = (sym a.marks ∙ b.marks, sym a.hops ∙ b.hops)

-- Where the ring shows no ratio, nothing holds. Where it shows one, it shows no other, so what is claimed holds with that one or with none:
-- the grades decide.
module _ (claim : Claim) where
  pub unshown : ((e h : ℕ) → RatioShown (claimed_view claim) claim.ring.items e h → ⊥) → (e h : ℕ) → Holds (claimed claim e h) → ⊥
  unshown none e h holds = none e h (record { shown = holds.shown; hopped = holds.hopped })

  pub ungraded : (t : Tally) → RatioShown (claimed_view claim) claim.ring.items t.marks t.hops
      → (AllMeet (claimed_view claim) (grade_of claim.depths) (thresholds_at t.marks t.hops) → ⊥) → (e h : ℕ) → Holds (claimed claim e h) → ⊥
  ungraded t ratio none e h holds =
      let w = claimed_view claim in
      let g = grade_of claim.depths in
      let same = one_ratio w claim.ring.items e h t.marks t.hops holds.shown ratio.shown in
      none (meets w g (thresholds_at t.marks t.hops)
      (subst (λ (k : ℕ). Loose w (thresholds_at t.marks k) 1 g) same.1 (subst (λ (f : ℕ). Loose w (thresholds_at f h) 1 g) same.0 holds.graded)))

  pub held : (t : Tally) → RatioShown (claimed_view claim) claim.ring.items t.marks t.hops
      → AllMeet (claimed_view claim) (grade_of claim.depths) (thresholds_at t.marks t.hops) → Holds (claimed claim t.marks t.hops)
  held t ratio all = record { hopped = ratio.hopped; shown = ratio.shown; graded = loose (claimed_view claim) (grade_of claim.depths) (thresholds_at t.marks t.hops) all }
