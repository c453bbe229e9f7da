-- The tests of a ring together decide whether it is one. Assumes nothing.
use Rattle.std.proofs.Common.{◌≡◌, ℕ, suc, ◌<◌, ◌≤◌, true, ◌&&◌, ltb, List, length, get_or, subst, arith}
use Rattle.std.proofs.lemmas.Bool.{and_parts, ltb-true}
use Rattle.model.specs.Rings.{Ring, round}
use Rattle.model.proofs.Rounds.{round_low}
use Rattle.model.proofs.Steps.{step_stands}
use Rattle.model.proofs.Digits.{has_bound}
use Rattle.reading.specs.declared.claim.Claim.{Claim}
use Rattle.reading.specs.declared.ring.Tally.{Tally}
use Rattle.reading.specs.Claims.{claimed_view}
use Rattle.reading.specs.Tests.{Different, FirstSmallest, AllSteps, StepsCounted, BothOn}

module _ (claim : Claim) (xs : List ℕ) where
  -- Numbers that stand nowhere have no step, so steps all round show that they stand.
  ring_from : 2 ≤ length xs → Different xs → FirstSmallest xs → AllSteps (claimed_view claim) xs → Ring (claimed_view claim) xs
  ring_from long different first steps =
      let w = claimed_view claim in
      let stand : (i : ℕ) → i < length xs → w.stands (get_or xs i 0) ≡ true =
      λ i l. subst (λ (u : ℕ). w.stands u ≡ true) (round_low xs i l) (step_stands w (round xs i) (round xs (suc i)) (steps i l)) in
      record {
        cycle = record {
          long = long;
          below = λ i l. has_bound claim.records (get_or xs i 0) (stand i l);
          stand = stand;
          apart = λ i j l m. (different.each j m).apart i l;
          steps = steps;
        };
        first = first;
      }

  pub both_on : (t : Tally) → 2 ≤ length xs → Different xs → FirstSmallest xs → StepsCounted (claimed_view claim) xs t
      → (ltb 0 t.marks && ltb 0 t.hops) ≡ true → BothOn (claimed_view claim) xs t.marks t.hops
  both_on t long different first c both =
      let some = and_parts (ltb 0 t.marks) (ltb 0 t.hops) both in
      let marks = ltb-true 0 t.marks some.0 in
      let hops = ltb-true 0 t.hops some.1 in
      record {
        ring = record { ring = ring_from long different first c.steps; marks = c.marks; hops = c.hops; some = omega arith };
        hopped = omega arith;
      }
