-- The ring that is written from a walk: it is a ring of the view, and forbids on the scale. Assumes nothing.
use Rattle.std.proofs.Common.{◌≡◌, ℕ, zero, suc, ◌+◌, ◌-◌, ◌%◌, ◌<◌, ◌≤◌, Bool, true, cond, not, List, length, get_or, take, sym, ap, ◌∙◌, subst, ap₂, subst₂, ⊎_elim, mod-lt, mod-eq_of_lt, zero-add, arith, length-take-le, get_or-take}
use Rattle.std.proofs.lemmas.Bool.{cases_lt, cases_eq}
use Rattle.model.specs.declared.thresholds.Thresholds.{Thresholds}
use Rattle.model.specs.Views.{View, step, is_mark, is_hop, is_step}
use Rattle.model.specs.Rings.{sum_to, bit, round, marks_of, hops_of, Cycle, Ring}
use Rattle.model.proofs.Sums.{sum_same}
use Rattle.model.proofs.Steps.{step_apart, step_stands, other}
use Rattle.model.proofs.Rounds.{turned, round_steps}
use Rattle.scale.specs.declared.scale.Scale.{Ghosts}
use Rattle.scale.proofs.Order.{HasLaws}
use Rattle.paths.specs.Steps.{Steps, view_steps}
use Rattle.paths.specs.Walks.{total, sum_round}
use Rattle.paths.specs.Bests.{Forbids}
use Rattle.paths.specs.Descents.{Loop, Written}
use Rattle.paths.proofs.Walking.{SameSteps}
use Rattle.paths.proofs.Sums.{times, total_counts, round_counts}
use Rattle.paths.proofs.Unrolled.{plain, plain_long, plain_at, plain_round, down_here, down_next, is_turned, ring_sum}

-- sums of equal values
total_same : {V : Type 0} (s : Ghosts V) (f h : ℕ → V) (n : ℕ) → ((i : ℕ) → i < n → f i ≡ h i) → total s f n ≡ total s h n
unfolding total
total_same s f h zero e = mathlib.Core.Path.refl
total_same s f h (suc n) e = ap₂ s.plus (e n (omega arith)) (total_same s f h n (λ i l. e i (omega arith)))

module _ {V : Type 0} (s : Ghosts V) (laws : HasLaws s) (steps : Steps V) (w : View) (t : Thresholds) (same : SameSteps steps (view_steps s w t))
    (ys : List ℕ) (low high k : ℕ) (high_is : low + k ≡ high) (loop : Loop s steps ys low high) where
  some : 0 < k
  some = let o : low < high = loop.again.order in omega arith

  walk_step : (j : ℕ) → low ≤ j → j < high → is_step w (get_or ys (suc j) 0) (get_or ys j 0) ≡ true
  walk_step j l u =
      let a = loop.nodes (suc j) (omega arith) (omega arith) in
      let b = loop.nodes j l (omega arith) in
      sym (same.has (get_or ys (suc j) 0) (get_or ys j 0) a b) ∙ loop.has j l u

  down_step : (i : ℕ) → i < k → is_step w (get_or ys (high - i) 0) (get_or ys (high - suc i) 0) ≡ true
  down_step i l =
      let e : suc (high - suc i) ≡ high - i = omega arith in
      subst (λ (p : ℕ). is_step w (get_or ys p 0) (get_or ys (high - suc i) 0) ≡ true) e (walk_step (high - suc i) (omega arith) (omega arith))

  -- no step leads from a record to itself, so that the part has two at least
  two_at_least : 2 ≤ k
  two_at_least = ⊎_elim
      (λ (l : 1 < k). l)
      (λ (l : k ≤ 1).
      let o : low < high = loop.again.order in
      let e : high ≡ suc low = omega arith in
      absurd (step_apart w (get_or ys (suc low) 0) (get_or ys low 0) (walk_step low (omega arith) (omega arith)) (ap (λ (p : ℕ). get_or ys p 0) (sym e) ∙ loop.again.closed)))
      (cases_lt 1 k)

  down_apart : (i j : ℕ) → i < j → j < k → get_or ys (high - i) 0 ≡ get_or ys (high - j) 0 → ⊥
  down_apart i j l u e = ⊎_elim
      (λ (z : i ≡ 0).
      let at_high : high ≡ high - i = omega arith in
      loop.again.apart low (high - j) (omega arith) (omega arith) (sym loop.again.closed ∙ ap (λ (p : ℕ). get_or ys p 0) at_high ∙ e))
      (λ (n : i ≡ 0 → ⊥). loop.again.apart (high - j) (high - i) (omega arith) (omega arith) (sym e))
      (cases_eq i 0)

  low_k : (i : ℕ) → i < length (plain ys high k) → i < k
  low_k i l = subst (λ (n : ℕ). i < n) (plain_long ys low high k some high_is loop.again.closed) l

  at : (i : ℕ) → i < length (plain ys high k) → get_or (plain ys high k) i 0 ≡ get_or ys (high - i) 0
  at i l = plain_at ys low high k some high_is loop.again.closed i (low_k i l) ∙ down_here ys low high k some high_is loop.again.closed i (low_k i l)

  plain_cycle : Cycle w (plain ys high k)
  plain_cycle = record {
    long = subst (λ (n : ℕ). 2 ≤ n) (sym (plain_long ys low high k some high_is loop.again.closed)) two_at_least;
    below = λ i l. let u = low_k i l in subst (λ (x : ℕ). x < 64) (sym (at i l)) (loop.nodes (high - i) (omega arith) (omega arith));
    stand = λ i l. subst (λ (x : ℕ). w.stands x ≡ true) (sym (at i l)) (step_stands w (get_or ys (high - i) 0) (get_or ys (high - suc i) 0) (down_step i (low_k i l)));
    apart = λ i j l u e. let i_low : i < length (plain ys high k) = omega arith in down_apart i j l (low_k j u) (sym (at i i_low) ∙ e ∙ at j u);
    steps = λ i l. subst₂ (λ (a b : ℕ). is_step w a b ≡ true)
        (sym (plain_round ys low high k some high_is loop.again.closed i ∙ down_here ys low high k some high_is loop.again.closed i (low_k i l)))
        (sym (plain_round ys low high k some high_is loop.again.closed (suc i) ∙ down_next ys low high k some high_is loop.again.closed i (low_k i l)))
        (down_step i (low_k i l));
  }

  -- zs: the same records, from the place r on
  module _ (r : ℕ) (zs : List ℕ) (turn : r < k) (zs_long : length zs ≡ k) (places : (i : ℕ) → i < k → get_or zs i 0 ≡ get_or ys (high - (i + r) % k) 0)
      (least : (j : ℕ) → low < j → j ≤ high → get_or ys (high - r) 0 ≤ get_or ys j 0) where
    turned_cycle : Cycle w zs
    turned_cycle = (turned w r (plain ys high k) zs (is_turned ys low high k some high_is loop.again.closed r zs zs_long places) plain_cycle).cycle

    turned_ring : Ring w zs
    turned_ring = record {
      cycle = turned_cycle;
      first = λ i l.
          let u : i < k = subst (λ (n : ℕ). i < n) zs_long l in
          let p : (i + r) % k < k = mod-lt (i + r) some in
          let z : (0 + r) % k ≡ r = ap (λ (n : ℕ). n % k) (zero-add r) ∙ mod-eq_of_lt turn in
          let here : get_or zs 0 0 ≡ get_or ys (high - r) 0 = places 0 some ∙ ap (λ (n : ℕ). get_or ys (high - n) 0) z in
          subst₂ (λ (a b : ℕ). a ≤ b) (sym here) (sym (places i u)) (least (high - (i + r) % k) (omega arith) (omega arith));
    }

    abbrev marks_at : ℕ → Bool
    marks_at j = is_mark w (get_or ys (suc (low + j)) 0) (get_or ys (low + j) 0)

    -- as many marks, and as many other steps, round the ring as along the walk
    same_marks : marks_of w zs ≡ sum_to (λ j. bit (marks_at j)) k
    same_marks = ring_sum ys low high k some high_is loop.again.closed r zs zs_long places (λ u v. bit (is_mark w u v))

    same_hops : hops_of w zs ≡ sum_to (λ j. bit (not (marks_at j))) k
    same_hops =
        sum_same (λ i. bit (is_hop w (round zs i) (round zs (suc i)))) (λ i. bit (not (is_mark w (round zs i) (round zs (suc i))))) (length zs)
        (λ i l. ap bit (other (step w (round zs i) (round zs (suc i))) (round_steps w zs turned_cycle i)))
        ∙ ring_sum ys low high k some high_is loop.again.closed r zs zs_long places (λ u v. bit (not (is_mark w u v)))

    -- so the two sums are equal, whatever the order of their steps
    same_sum : sum_round s w t zs ≡ total s (λ j. steps.cost (get_or ys (suc (low + j)) 0) (get_or ys (low + j) 0)) k
    same_sum =
        round_counts s laws w t zs turned_cycle
        ∙ ap₂ (λ (a b : ℕ). s.plus (times s a (s.mark t)) (times s b (s.hop t))) same_marks same_hops
        ∙ sym (total_counts s laws (s.mark t) (s.hop t) marks_at k)
        ∙ total_same s (λ j. cond (marks_at j) (s.mark t) (s.hop t)) (λ j. steps.cost (get_or ys (suc (low + j)) 0) (get_or ys (low + j) 0)) k
        (λ j l. sym (same.cost (get_or ys (suc (low + j)) 0) (get_or ys (low + j) 0) (loop.nodes (suc (low + j)) (omega arith) (omega arith)) (loop.nodes (low + j) (omega arith) (omega arith))))

    pub turned_forbids : s.less (total s (λ j. steps.cost (get_or ys (suc (low + j)) 0) (get_or ys (low + j) 0)) k) s.nothing ≡ true → Forbids s w t zs
    turned_forbids below = record { ring = turned_ring; below = subst (λ (z : V). s.less z s.nothing ≡ true) (sym same_sum) below }

-- what was written is a ring that forbids
pub forbids_made : {V : Type 0} (s : Ghosts V) → HasLaws s → (steps : Steps V) (w : View) (t : Thresholds) → SameSteps steps (view_steps s w t)
    → (ys xs : List ℕ) (low high : ℕ) → Loop s steps ys low high → Written ys low high xs → 64 ≤ length xs → Forbids s w t (take (high - low) xs)
forbids_made s laws steps w t same ys xs low high loop written room =
    let o : low < high = loop.again.order in
    let top : high ≤ 64 = loop.again.within in
    let a : low < written.start = written.above in
    let b : written.start ≤ high = written.within in
    let high_is : low + (high - low) ≡ high = omega arith in
    let start_is : written.start ≡ high - (high - written.start) = omega arith in
    turned_forbids s laws steps w t same ys low high (high - low) high_is loop (high - written.start) (take (high - low) xs)
    (omega arith)
    (length-take-le (high - low) xs (omega arith))
    (λ i l. get_or-take (high - low) xs i 0 l ∙ written.places i l)
    (λ j l u. subst (λ (p : ℕ). get_or ys p 0 ≤ get_or ys j 0) start_is (written.least j l u))
    loop.below
