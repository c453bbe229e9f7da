-- Sums of marks' and hops' values: they go by how often each comes, and round a ring they bound what can be met. Assumes nothing.
use Rattle.std.proofs.Common.{◌≡◌, ℕ, zero, suc, ◌+◌, Bool, true, false, cond, not, List, length, sym, ap, ◌∙◌, subst, add-zero, add-one}
use Rattle.model.specs.declared.thresholds.Thresholds.{Thresholds}
use Rattle.model.specs.Views.{View, step, is_mark, is_hop}
use Rattle.model.specs.Rings.{sum_to, bit, round, marks_of, hops_of, Cycle}
use Rattle.model.proofs.Sums.{sum_same}
use Rattle.model.proofs.Steps.{other}
use Rattle.model.proofs.Rounds.{round_below, round_steps, round_end}
use Rattle.scale.specs.declared.scale.Scale.{Ghosts}
use Rattle.scale.proofs.Order.{HasLaws, clash, le_trans, le_plus, lt_plus}
use Rattle.paths.specs.Steps.{value, view_steps, Meets}
use Rattle.paths.specs.Walks.{total, sum_round}
use Rattle.paths.specs.Statements.{BelowForbids}

-- a, n times
unfoldable pub times : {V : Type 0} → Ghosts V → ℕ → V → V
times s zero a = s.nothing
times s (suc n) a = s.plus a (times s n a)

module _ {V : Type 0} (s : Ghosts V) (laws : HasLaws s) where
  abbrev plus : V → V → V
  plus = s.plus

  left_comm : (a b c : V) → plus a (plus b c) ≡ plus b (plus a c)
  left_comm a b c = sym (laws.assoc a b c) ∙ ap (λ (z : V). plus z c) (laws.comm a b) ∙ laws.assoc b a c

  one_more : (m h : V) (b : Bool) (z : V) (A B : ℕ) → z ≡ plus (times s A m) (times s B h) → plus (cond b m h) z ≡ plus (times s (A + bit b) m) (times s (B + bit (not b)) h)
  unfolding times
  one_more m h true z A B e = rw (add-one A, add-zero B) (ap (plus m) e ∙ sym (laws.assoc m (times s A m) (times s B h)))
  one_more m h false z A B e = rw (add-zero A, add-one B) (ap (plus h) e ∙ left_comm h (times s A m) (times s B h))

  pub total_counts : (m h : V) (b : ℕ → Bool) (n : ℕ) → total s (λ i. cond (b i) m h) n ≡ plus (times s (sum_to (λ i. bit (b i)) n) m) (times s (sum_to (λ i. bit (not (b i))) n) h)
  unfolding total times sum_to
  total_counts m h b zero = sym (laws.neutral s.nothing)
  total_counts m h b (suc n) = one_more m h (b n) (total s (λ i. cond (b i) m h) n) (sum_to (λ i. bit (b i)) n) (sum_to (λ i. bit (not (b i))) n) (total_counts m h b n)

  module _ (w : View) (t : Thresholds) (xs : List ℕ) (c : Cycle w xs) where
    -- the sum round a ring: the mark's value e times, and the hop's h times
    pub round_counts : sum_round s w t xs ≡ plus (times s (marks_of w xs) (s.mark t)) (times s (hops_of w xs) (s.hop t))
    round_counts =
        total_counts (s.mark t) (s.hop t) (λ i. is_mark w (round xs i) (round xs (suc i))) (length xs)
        ∙ ap (λ (n : ℕ). plus (times s (marks_of w xs) (s.mark t)) (times s n (s.hop t)))
        (sym (sum_same (λ i. bit (is_hop w (round xs i) (round xs (suc i)))) (λ i. bit (not (is_mark w (round xs i) (round xs (suc i))))) (length xs) (λ i l. ap bit (other (step w (round xs i) (round xs (suc i))) (c.steps i l)))))

    -- along the ring: p at its first record is at most the sum so far and p at the record reached
    along : (p : ℕ → V) → Meets s (view_steps s w t) p → (n : ℕ) → s.less (plus (total s (λ i. value s w t (round xs i) (round xs (suc i))) n) (p (round xs n))) (p (round xs 0)) ≡ false
    unfolding total
    along p meets zero = rw (laws.comm s.nothing (p (round xs 0)), laws.neutral (p (round xs 0))) (laws.irrefl (p (round xs 0)))
    along p meets (suc n) =
        let v : V = value s w t (round xs n) (round xs (suc n)) in
        let so_far : V = total s (λ i. value s w t (round xs i) (round xs (suc i))) n in
        let same : plus so_far (plus v (p (round xs (suc n)))) ≡ plus (plus v so_far) (p (round xs (suc n))) = left_comm so_far v (p (round xs (suc n))) ∙ sym (laws.assoc v so_far (p (round xs (suc n)))) in
        subst (λ (z : V). s.less z (p (round xs 0)) ≡ false) same
        (le_trans s laws (p (round xs 0)) (plus so_far (p (round xs n))) (plus so_far (plus v (p (round xs (suc n)))))
        (along p meets n)
        (le_plus s laws (p (round xs n)) (plus v (p (round xs (suc n)))) so_far (meets (round xs n) (round xs (suc n)) (round_below w xs c n) (round_below w xs c (suc n)) (round_steps w xs c n))))

  -- once round, p at the first record is at most the sum and itself: the sum cannot be below nothing
  pub below_forbids : BelowForbids s
  below_forbids w t xs f p meets =
      let y : V = p (round xs 0) in
      let S : V = sum_round s w t xs in
      let back : s.less (plus S y) y ≡ false = subst (λ (z : V). s.less (plus S z) y ≡ false) (ap p (round_end xs)) (along w t xs f.ring.cycle p meets (length xs)) in
      let falls : s.less (plus y S) (plus y s.nothing) ≡ true = lt_plus s laws S s.nothing y f.below in
      clash (s.less (plus S y) y) (rw (laws.comm y S, laws.neutral y) at falls) back
