-- A test of a list that tells whether it is a ring, and tests of every ring. Assumes nothing.
use Rattle.std.proofs.Common.{◌≡◌, ℕ, suc, ◌<◌, ◌≤◌, Bool, true, not, ◌&&◌, List, length, get_or, eqb, ltb, leb, refl, ap, ⊎_elim, arith}
use Rattle.std.proofs.lemmas.Bool.{and_parts, and_from, cases_lt, eq-eqb, ne_eqb, ltb-true, lt-ltb, leb-true, le-leb}
use Rattle.model.specs.Views.{View, is_step}
use Rattle.model.specs.Rings.{round, Cycle, Ring}
use Rattle.model.proofs.Steps.{clash}
use Rattle.paths.proofs.Pigeons.{pigeons}
use Rattle.samples.proofs.Tests.{below, below_at, below_from, every, every_at, implies, implied, not_true}
use Rattle.samples.proofs.Covers.{Covers}

-- the record at the place i is at no earlier place and not below the first; it stands, and a step leads on from it
abbrev is_new : List ℕ → ℕ → Bool
is_new xs i = below i (λ j. not (eqb (get_or xs j 0) (get_or xs i 0)))

abbrev in_order : List ℕ → ℕ → Bool
in_order xs i = is_new xs i && leb (get_or xs 0 0) (get_or xs i 0)

abbrev leads_on : View → List ℕ → ℕ → Bool
leads_on w xs i = (ltb (get_or xs i 0) 64 && w.stands (get_or xs i 0)) && is_step w (round xs i) (round xs (suc i))

abbrev place_fits : View → List ℕ → ℕ → Bool
place_fits w xs i = in_order xs i && leads_on w xs i

abbrev pub is_ring : View → List ℕ → Bool
is_ring w xs = leb 2 (length xs) && below (length xs) (place_fits w xs)

module _ (w : View) (xs : List ℕ) where
  -- what the test says of a place
  record Fits (i : ℕ) : Type 0 where
    new : (j : ℕ) → j < i → get_or xs j 0 ≡ get_or xs i 0 → ⊥
    first : get_or xs 0 0 ≤ get_or xs i 0
    low : get_or xs i 0 < 64
    stand : w.stands (get_or xs i 0) ≡ true
    step : is_step w (round xs i) (round xs (suc i)) ≡ true

  fits : is_ring w xs ≡ true → (i : ℕ) → i < length xs → Fits i
  fits e i l =
      let p = below_at (length xs) (place_fits w xs) i (and_parts (leb 2 (length xs)) (below (length xs) (place_fits w xs)) e).1 l in
      let q = and_parts (in_order xs i) (leads_on w xs i) p in
      let a = and_parts (is_new xs i) (leb (get_or xs 0 0) (get_or xs i 0)) q.0 in
      let b = and_parts (ltb (get_or xs i 0) 64 && w.stands (get_or xs i 0)) (is_step w (round xs i) (round xs (suc i))) q.1 in
      let c = and_parts (ltb (get_or xs i 0) 64) (w.stands (get_or xs i 0)) b.0 in
      record {
        new = λ j m s. clash (eqb (get_or xs j 0) (get_or xs i 0)) (eq-eqb (get_or xs j 0) (get_or xs i 0) s)
            (not_true (eqb (get_or xs j 0) (get_or xs i 0)) (below_at i (λ j. not (eqb (get_or xs j 0) (get_or xs i 0))) j a.0 m));
        first = leb-true (get_or xs 0 0) (get_or xs i 0) a.1;
        low = ltb-true (get_or xs i 0) 64 c.0;
        stand = c.1;
        step = b.1;
      }

  pub ring_by_test : is_ring w xs ≡ true → Ring w xs
  ring_by_test e = record {
    cycle = record {
      long = leb-true 2 (length xs) (and_parts (leb 2 (length xs)) (below (length xs) (place_fits w xs)) e).0;
      below = λ i l. (fits e i l).low;
      stand = λ i l. (fits e i l).stand;
      apart = λ i j l m. (fits e j m).new i l;
      steps = λ i l. (fits e i l).step;
    };
    first = λ i l. (fits e i l).first;
  }

  -- and every ring passes the test
  pub ring_passes : Ring w xs → is_ring w xs ≡ true
  ring_passes r = and_from _ _ (le-leb 2 (length xs) r.cycle.long) (below_from (length xs) (place_fits w xs) place)
    where
      place : (i : ℕ) → i < length xs → place_fits w xs i ≡ true
      place i l =
          let new = below_from i (λ j. not (eqb (get_or xs j 0) (get_or xs i 0)))
          (λ j m. ap not (ne_eqb (get_or xs j 0) (get_or xs i 0) (r.cycle.apart j i m l))) in
          let first = le-leb (get_or xs 0 0) (get_or xs i 0) (r.first i l) in
          let stands = and_from (ltb (get_or xs i 0) 64) (w.stands (get_or xs i 0)) (lt-ltb (get_or xs i 0) 64 (r.cycle.below i l)) (r.cycle.stand i l) in
          let leads = and_from _ (is_step w (round xs i) (round xs (suc i))) stands (r.cycle.steps i l) in
          and_from (in_order xs i) (leads_on w xs i) (and_from (is_new xs i) _ new first) leads

-- A ring has different records that stand. With all of these below n, more than n places would hold one number twice.
ring_size : (w : View) (n : ℕ) (xs : List ℕ) → Covers w n → Cycle w xs → length xs ≤ n
ring_size w n xs covers c = ⊎_elim
    (λ (long : n < length xs). absurd (pigeons n (λ i. get_or xs i 0)
    (λ i l. covers (get_or xs i 0) (c.stand i (omega arith)))
    (λ i j l m. c.apart i j l (omega arith))))
    (λ (fits : length xs ≤ n). fits)
    (cases_lt n (length xs))

-- all lists of at most n numbers below n are tried: those that are rings pass the test p
abbrev pub every_ring : View → ℕ → (List ℕ → Bool) → Bool
every_ring w n p = below (suc n) (λ k. every n k (λ xs. implies (is_ring w xs) (p xs)))

-- The records of a ring stand, so that they are numbers below n, and there are at most n of them. So the ring is one of the lists that
-- were tried; it passes the test for a ring, and with that the test p.
pub ring_at : (w : View) (n : ℕ) (p : List ℕ → Bool) (xs : List ℕ) → Covers w n → every_ring w n p ≡ true → Ring w xs → p xs ≡ true
ring_at w n p xs covers e r =
    let size : length xs ≤ n = ring_size w n xs covers r.cycle in
    let lists = below_at (suc n) (λ k. every n k (λ xs. implies (is_ring w xs) (p xs))) (length xs) e (omega arith) in
    implied (is_ring w xs) (p xs)
    (every_at n (length xs) (λ xs. implies (is_ring w xs) (p xs)) xs lists refl (λ i l. covers (get_or xs i 0) (r.cycle.stand i l)))
    (ring_passes w xs r)
