-- On a scale whose values are whole numbers, the best values are the best loose grading. Assumes nothing.
use Rattle.std.proofs.Common.{◌≡◌, ℕ, zero, suc, ◌+◌, ◌*◌, ◌<◌, ◌≤◌, max, Bool, true, false, cond, List, ℤ, pos, ◌+ℤ◌, ◌*ℤ◌, neg_ℤ, nat_abs, ◌≤ℤ◌, sym, refl, ap, ◌∙◌, subst, ap₂, ⊎_elim, suc-mul, zero-mul, arith}
use borrow.Author.Differences.{ints}
use lib.IntN.{zero-*ℤ, suc_ℤ-*ℤ}
use lib.Signed.{lt_z}
use Rattle.std.proofs.lemmas.Bool.{or_left, or_right, or_cases}
use Rattle.model.specs.declared.thresholds.Thresholds.{Thresholds}
use Rattle.model.specs.Views.{View, step, is_mark, is_hop, is_step}
use Rattle.model.specs.Rings.{marks_of, hops_of}
use Rattle.model.specs.Gradings.{Loose, ForbidsLoose}
use Rattle.model.proofs.Steps.{hop_turned, hop_unmarked, step_head}
use Rattle.model.proofs.Forbids.{ring_forbids_loose}
use Rattle.scale.specs.declared.scale.Scale.{Ghosts}
use Rattle.scale.proofs.Order.{HasLaws}
use Rattle.paths.specs.Steps.{value, view_steps}
use Rattle.paths.specs.Walks.{Walk, stop, go, sum_round}
use Rattle.paths.specs.Bests.{Best, Forbids}
use Rattle.paths.proofs.Sums.{times, round_counts}
use Rattle.paths.specs.Numbers.{NoneAboveZero, BestLoose, ForbidsLoosely}

-- the values of the scale are whole numbers, -t1 for a mark and t2 for a hop
pub record Numbered {V : Type 0} (s : Ghosts V) (t : Thresholds) (number : V → ℤ) : Type 0 where
  pub nothing : number s.nothing ≡ pos 0
  pub plus : (a b : V) → number (s.plus a b) ≡ number a +ℤ number b
  pub less : (a b : V) → s.less a b ≡ lt_z (number a) (number b)
  pub mark : number (s.mark t) ≡ neg_ℤ (pos t.t1)
  pub hop : number (s.hop t) ≡ pos t.t2

-- d times a sum
spread : (d : ℕ) (a b : ℤ) → pos d *ℤ (a +ℤ b) ≡ (pos d *ℤ a) +ℤ (pos d *ℤ b)
spread zero a b = zero-*ℤ (a +ℤ b) ∙ sym (ap₂ (λ (x y : ℤ). x +ℤ y) (zero-*ℤ a) (zero-*ℤ b))
spread (suc d) a b = suc_ℤ-*ℤ (pos d) (a +ℤ b) ∙ ap (λ (x : ℤ). x +ℤ (a +ℤ b)) (spread d a b) ∙ swap (pos d *ℤ a) (pos d *ℤ b) ∙ sym (ap₂ (λ (x y : ℤ). x +ℤ y) (suc_ℤ-*ℤ (pos d) a) (suc_ℤ-*ℤ (pos d) b))
  where
    swap : (x y : ℤ) → (x +ℤ y) +ℤ (a +ℤ b) ≡ (x +ℤ a) +ℤ (y +ℤ b)
    swap x y = omega (arith, ints)

times_zero : (d : ℕ) → pos d *ℤ pos 0 ≡ pos 0
times_zero d = lib.IntN.*ℤ-zero (pos d)

times_pos : (d n : ℕ) → pos d *ℤ pos n ≡ pos (d * n)
times_pos d n = lib.IntN.pos-*ℤ-pos d n

times_neg : (d n : ℕ) → pos d *ℤ neg_ℤ (pos n) ≡ neg_ℤ (pos (d * n))
times_neg d n =
    let e : (pos d *ℤ pos n) +ℤ (pos d *ℤ neg_ℤ (pos n)) ≡ pos 0 = sym (spread d (pos n) (neg_ℤ (pos n))) ∙ ap (λ (z : ℤ). pos d *ℤ z) (cancel (pos n)) ∙ times_zero d in
    solve (pos d *ℤ pos n) (pos d *ℤ neg_ℤ (pos n)) (pos (d * n)) (times_pos d n) e
  where
    cancel : (z : ℤ) → z +ℤ neg_ℤ z ≡ pos 0
    cancel z = omega (arith, ints)

    solve : (x y z : ℤ) → x ≡ z → x +ℤ y ≡ pos 0 → y ≡ neg_ℤ z
    solve x y z e f = omega (arith, ints)

module _ {V : Type 0} (s : Ghosts V) (laws : HasLaws s) (t : Thresholds) (number : V → ℤ) (num : Numbered s t number) (w : View) where
  -- a step's value as a number
  number_mark : (u v : ℕ) → is_mark w u v ≡ true → number (value s w t u v) ≡ neg_ℤ (pos t.t1)
  number_mark u v e = ap (λ (b : Bool). number (cond b (s.mark t) (s.hop t))) e ∙ num.mark

  number_hop : (u v : ℕ) → is_mark w u v ≡ false → number (value s w t u v) ≡ pos t.t2
  number_hop u v e = ap (λ (b : Bool). number (cond b (s.mark t) (s.hop t))) e ∙ num.hop

  at_most : (a b : V) → s.less a b ≡ false → number b ≤ℤ number a
  at_most a b e = not_less (number a) (number b) (sym (num.less a b) ∙ e)
    where
      not_less : (x y : ℤ) → lt_z x y ≡ false → y ≤ℤ x
      not_less x y h = omega (arith, ints)

  -- each step of a walk adds at most the greater threshold to its size
  walk_size : (k u : ℕ) (z : V) → Walk s (view_steps s w t) k u z → nat_abs (number z) ≤ k * max t.t1 t.t2
  walk_size k u z stop = rw num.nothing (omega arith)
  walk_size (suc k) u z (go {z = y} v l is walk) =
      rw (num.plus (value s w t u v) y) (one (number (value s w t u v)) (number y) (step_size (is_mark w u v) refl) (walk_size k v y walk))
    where
      step_size : (b : Bool) → is_mark w u v ≡ b → nat_abs (number (value s w t u v)) ≤ max t.t1 t.t2
      step_size true e = rw (number_mark u v e) (omega (arith, ints))
      step_size false e = rw (number_hop u v e) (omega (arith, ints))

      one : (x y : ℤ) → nat_abs x ≤ max t.t1 t.t2 → nat_abs y ≤ k * max t.t1 t.t2 → nat_abs (x +ℤ y) ≤ suc k * max t.t1 t.t2
      one x y a b = omega (arith, ints, suc-mul k (max t.t1 t.t2))

  module _ (g : ℕ → V) (best : Best s w t g) where
    step_bound : (u v : ℕ) → u < 64 → v < 64 → is_step w u v ≡ true → number (g u) ≤ℤ (number (value s w t u v) +ℤ number (g v))
    step_bound u v a b is = subst (λ (z : ℤ). number (g u) ≤ℤ z) (num.plus (value s w t u v) (g v)) (at_most (s.plus (value s w t u v) (g v)) (g u) (best.meets u v a b is))

    up : (u v : ℕ) → u < 64 → v < 64 → is_mark w u v ≡ true → (number (g u) +ℤ pos (1 * t.t1 + 0)) ≤ℤ number (g v)
    up u v a b e = turn (number (g u)) (number (g v)) (number (value s w t u v)) (number_mark u v e) (step_bound u v a b (or_left (is_mark w u v) (is_hop w u v) e))
      where
        turn : (x y c : ℤ) → c ≡ neg_ℤ (pos t.t1) → x ≤ℤ (c +ℤ y) → (x +ℤ pos (1 * t.t1 + 0)) ≤ℤ y
        turn x y c f h = omega (arith, ints)

    near : (u v : ℕ) → u < 64 → v < 64 → is_hop w u v ≡ true → number (g u) ≤ℤ (number (g v) +ℤ pos (1 * t.t2))
    near u v a b e = turn (number (g u)) (number (g v)) (number (value s w t u v)) (number_hop u v (hop_unmarked (step w u v) e)) (step_bound u v a b (or_right (is_mark w u v) (is_hop w u v) e))
      where
        turn : (x y c : ℤ) → c ≡ pos t.t2 → x ≤ℤ (c +ℤ y) → x ≤ℤ (y +ℤ pos (1 * t.t2))
        turn x y c f h = omega (arith, ints)

    -- By induction on the walk to z: q u is at most d times its sum, since each step of q leads up by at most d times the step's value.
    along : (d : ℕ) (q : ℕ → ℤ) → Loose w t d q → NoneAboveZero w q → (k u : ℕ) (z : V) → u < 64 → w.stands u ≡ true → Walk s (view_steps s w t) k u z → q u ≤ℤ (pos d *ℤ number z)
    along d q loose low k u z h st stop = subst (λ (x : ℤ). q u ≤ℤ x) (sym (ap (λ (x : ℤ). pos d *ℤ x) num.nothing ∙ times_zero d)) (low u h st)
    along d q loose low (suc k) u z h st (go {z = y} v l is walk) =
        let c : ℤ = number (value s w t u v) in
        let far : q v ≤ℤ (pos d *ℤ number y) = along d q loose low k v y l (step_head w u v is) walk in
        subst (λ (x : ℤ). q u ≤ℤ x) (sym (ap (λ (x : ℤ). pos d *ℤ x) (num.plus (value s w t u v) y) ∙ spread d (number (value s w t u v)) (number y)))
        (⊎_elim
        (λ (m : is_mark w u v ≡ true). by_mark (q u) (q v) (pos d *ℤ c) (pos d *ℤ number y) (ap (λ (x : ℤ). pos d *ℤ x) (number_mark u v m) ∙ times_neg d t.t1) (loose.up u v h l m) far)
        (λ (m : is_hop w u v ≡ true). by_hop (q u) (q v) (pos d *ℤ c) (pos d *ℤ number y) (ap (λ (x : ℤ). pos d *ℤ x) (number_hop u v (hop_unmarked (step w u v) m)) ∙ times_pos d t.t2) (loose.near u v h l m).0 far)
        (or_cases (is_mark w u v) (is_hop w u v) is))
      where
        by_mark : (x y c z : ℤ) → c ≡ neg_ℤ (pos (d * t.t1)) → (x +ℤ pos (d * t.t1 + 0)) ≤ℤ y → y ≤ℤ z → x ≤ℤ (c +ℤ z)
        by_mark x y c z e f h = omega (arith, ints)

        by_hop : (x y c z : ℤ) → c ≡ pos (d * t.t2) → x ≤ℤ (y +ℤ pos (d * t.t2)) → y ≤ℤ z → x ≤ℤ (c +ℤ z)
        by_hop x y c z e f h = omega (arith, ints)

    pub best_loose : BestLoose w t (λ u. number (g u))
    best_loose = record {
      loose = record { up = up; near = λ u v a b e. (near u v a b e, near v u b a (hop_turned w u v e)) };
      low = λ u l st. subst (λ (x : ℤ). number (g u) ≤ℤ x) num.nothing (at_most s.nothing (g u) (best.low u l st));
      size = λ u l st. walk_size 64 u (g u) (best.walk u l st);
      highest = λ d q loose low u l st. along d q loose low 64 u (g u) l st (best.walk u l st);
    }

  -- ---- the sum round a ring is h·t2 - e·t1
  marks_number : (n : ℕ) → number (times s n (s.mark t)) ≡ neg_ℤ (pos (n * t.t1))
  unfolding times
  marks_number zero = num.nothing ∙ ap (λ (n : ℕ). neg_ℤ (pos n)) (sym (zero-mul t.t1))
  marks_number (suc n) = num.plus (s.mark t) (times s n (s.mark t)) ∙ one (number (s.mark t)) (number (times s n (s.mark t))) num.mark (marks_number n)
    where
      one : (x y : ℤ) → x ≡ neg_ℤ (pos t.t1) → y ≡ neg_ℤ (pos (n * t.t1)) → x +ℤ y ≡ neg_ℤ (pos (suc n * t.t1))
      one x y e f = omega (arith, ints, suc-mul n t.t1)

  hops_number : (n : ℕ) → number (times s n (s.hop t)) ≡ pos (n * t.t2)
  unfolding times
  hops_number zero = num.nothing ∙ ap pos (sym (zero-mul t.t2))
  hops_number (suc n) = num.plus (s.hop t) (times s n (s.hop t)) ∙ one (number (s.hop t)) (number (times s n (s.hop t))) num.hop (hops_number n)
    where
      one : (x y : ℤ) → x ≡ pos t.t2 → y ≡ pos (n * t.t2) → x +ℤ y ≡ pos (suc n * t.t2)
      one x y e f = omega (arith, ints, suc-mul n t.t2)

  pub forbids_loosely : (xs : List ℕ) → Forbids s w t xs → ForbidsLoosely w t xs
  forbids_loosely xs f =
      let total : number (sum_round s w t xs) ≡ number (times s (marks_of w xs) (s.mark t)) +ℤ number (times s (hops_of w xs) (s.hop t)) =
      ap number (round_counts s laws w t xs f.ring.cycle) ∙ num.plus (times s (marks_of w xs) (s.mark t)) (times s (hops_of w xs) (s.hop t)) in
      let below : lt_z (number (sum_round s w t xs)) (number s.nothing) ≡ true = sym (num.less (sum_round s w t xs) s.nothing) ∙ f.below in
      let forbids : ForbidsLoose w t xs = less (number (sum_round s w t xs)) (number s.nothing) (number (times s (marks_of w xs) (s.mark t))) (number (times s (hops_of w xs) (s.hop t))) (marks_of w xs * t.t1) (hops_of w xs * t.t2) total num.nothing (marks_number (marks_of w xs)) (hops_number (hops_of w xs)) below in
      record { ring = f.ring; forbids = forbids; none = ring_forbids_loose w t xs f.ring.cycle forbids }
    where
      less : (x o a b : ℤ) (A B : ℕ) → x ≡ a +ℤ b → o ≡ pos 0 → a ≡ neg_ℤ (pos A) → b ≡ pos B → lt_z x o ≡ true → B < A
      less x o a b A B e f g h i = omega (arith, ints)
