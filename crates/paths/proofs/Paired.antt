-- Pairs of a whole number and a count of marks, and strict gradings. Assumes nothing.
use Rattle.std.proofs.Common.{◌≡◌, ℕ, zero, suc, ◌+◌, ◌*◌, ◌<◌, ◌≤◌, Bool, true, false, cond, ◌⊎◌, List, ℤ, pos, negsuc, ◌+ℤ◌, ◌-ℤ◌, ◌*ℤ◌, neg_ℤ, nat_abs, ◌≤ℤ◌, refl, ap, ◌∙◌, ap₂, inl, inr, ⊎_elim, suc-mul, zero-mul, arith}
use borrow.Author.Differences.{ints}
use lib.Signed.{lt_z}
use Rattle.std.proofs.lemmas.Bool.{cases_lt, or_left, or_right}
use Rattle.model.specs.declared.thresholds.Thresholds.{Thresholds}
use Rattle.model.specs.Views.{View, step, is_mark, is_hop}
use Rattle.model.specs.Rings.{marks_of, hops_of}
use Rattle.model.specs.Gradings.{ForbidsStrict}
use Rattle.model.proofs.Steps.{clash, hop_turned, hop_unmarked, step_stands, step_head}
use Rattle.model.proofs.Forbids.{ring_forbids_strict}
use Rattle.scale.specs.declared.scale.Scale.{Ghosts}
use Rattle.scale.proofs.Order.{HasLaws}
use Rattle.scale.specs.declared.whole.Whole.{Whole}
use Rattle.scale.specs.declared.unit.Unit.{Unit as Units}
use Rattle.scale.specs.declared.pair.Pair.{Pair}
use Rattle.scale.specs.Scales.{whole_scale, unit_scale, pair_scale}
use Rattle.scale.specs.Numbers.{whole_laws, unit_laws}
use Rattle.scale.specs.PairLaws.{pair_laws}
use Rattle.paths.specs.Steps.{view_steps}
use Rattle.paths.specs.Walks.{Walk, stop, go, sum_round}
use Rattle.paths.specs.Bests.{Best, Forbids}
use Rattle.paths.proofs.Sums.{times, round_counts}
use Rattle.paths.specs.Numbers.{merged, BestStrict, ForbidsStrictly}

abbrev pairs : Ghosts (Pair Whole Units)
pairs = pair_scale whole_scale unit_scale

abbrev mark : Thresholds → Pair Whole Units
mark = pairs.mark

abbrev hop : Thresholds → Pair Whole Units
hop = pairs.hop

pub lawful : HasLaws (pair_scale whole_scale unit_scale)
lawful = pair_laws whole_laws unit_laws

-- ---- the order of pairs
abbrev lex : ℤ → ℤ → ℤ → ℤ → Bool
lex x y p q = cond (lt_z x y) true (cond (lt_z y x) false (lt_z p q))

lex_out : (x y p q : ℤ) → lex x y p q ≡ true → (lt_z x y ≡ true) ⊎ ((x ≡ y) × (lt_z p q ≡ true))
lex_out x y p q = go (lt_z x y) refl (lt_z y x) refl
  where
    go : (s : Bool) → lt_z x y ≡ s → (t : Bool) → lt_z y x ≡ t → cond s true (cond t false (lt_z p q)) ≡ true → (lt_z x y ≡ true) ⊎ ((x ≡ y) × (lt_z p q ≡ true))
    go true e t f h = inl e
    go false e true f h = absurd (clash false h refl)
    go false e false f h = inr (omega (arith, ints), h)

-- not less: above in the first part, or equal there and not less in the second
lex_not : (x y p q : ℤ) → lex x y p q ≡ false → (lt_z y x ≡ true) ⊎ ((x ≡ y) × (lt_z p q ≡ false))
lex_not x y p q = go (lt_z x y) refl (lt_z y x) refl
  where
    go : (s : Bool) → lt_z x y ≡ s → (t : Bool) → lt_z y x ≡ t → cond s true (cond t false (lt_z p q)) ≡ false → (lt_z y x ≡ true) ⊎ ((x ≡ y) × (lt_z p q ≡ false))
    go true e t f h = absurd (clash true refl h)
    go false e true f h = inl f
    go false e false f h = inr (omega (arith, ints), h)

below_out : (a b : ℤ) (E X Y : ℕ) → a ≡ pos Y -ℤ pos X → b ≡ neg_ℤ (pos E) → (E ≡ 0 → X ≡ 0) → lex a (pos 0) b (pos 0) ≡ true → (1 ≤ E) × (Y ≤ X)
below_out a b E X Y ea eb z h = go (lex_out a (pos 0) b (pos 0) h)
  where
    go : (lt_z a (pos 0) ≡ true) ⊎ ((a ≡ pos 0) × (lt_z b (pos 0) ≡ true)) → (1 ≤ E) × (Y ≤ X)
    go (inl e) =
        let lt : Y < X = omega (arith, ints) in
        (⊎_elim (λ (p : 0 < E). p) (λ (p : E ≤ 0). absurd (omega (arith, z (omega arith)))) (cases_lt 0 E), omega arith)
    go (inr e) = let e0 = e.0 in let e1 = e.1 in (omega (arith, ints), omega (arith, ints))

-- ---- a pair as one number
mark_step : (b : Bool) (a c p q : ℤ) (t : Thresholds) → b ≡ true → neg_ℤ (pos 64) ≤ℤ q → p ≤ℤ pos 0
    → lex ((cond b (mark t) (hop t)).first.value +ℤ c) a ((cond b (mark t) (hop t)).second.value +ℤ q) p ≡ false
    → (((pos 128 *ℤ a) +ℤ p) +ℤ pos (128 * t.t1 + 1)) ≤ℤ ((pos 128 *ℤ c) +ℤ q)
mark_step true a c p q t e lo hi h = go (lex_not (neg_ℤ (pos t.t1) +ℤ c) a (negsuc 0 +ℤ q) p h)
  where
    go : (lt_z a (neg_ℤ (pos t.t1) +ℤ c) ≡ true) ⊎ ((neg_ℤ (pos t.t1) +ℤ c ≡ a) × (lt_z (negsuc 0 +ℤ q) p ≡ false)) → (((pos 128 *ℤ a) +ℤ p) +ℤ pos (128 * t.t1 + 1)) ≤ℤ ((pos 128 *ℤ c) +ℤ q)
    go (inl f) = omega (arith, ints)
    go (inr f) = let f0 = f.0 in let f1 = f.1 in omega (arith, ints)
mark_step false a c p q t e lo hi h = absurd (clash false e refl)

hop_step : (b : Bool) (a c p q : ℤ) (t : Thresholds) → b ≡ false → neg_ℤ (pos 64) ≤ℤ q → p ≤ℤ pos 0
    → lex ((cond b (mark t) (hop t)).first.value +ℤ c) a ((cond b (mark t) (hop t)).second.value +ℤ q) p ≡ false
    → ((pos 128 *ℤ a) +ℤ p) ≤ℤ (((pos 128 *ℤ c) +ℤ q) +ℤ pos (128 * t.t2))
hop_step true a c p q t e lo hi h = absurd (clash true refl e)
hop_step false a c p q t e lo hi h = go (lex_not (pos t.t2 +ℤ c) a (pos 0 +ℤ q) p h)
  where
    go : (lt_z a (pos t.t2 +ℤ c) ≡ true) ⊎ ((pos t.t2 +ℤ c ≡ a) × (lt_z (pos 0 +ℤ q) p ≡ false)) → ((pos 128 *ℤ a) +ℤ p) ≤ℤ (((pos 128 *ℤ c) +ℤ q) +ℤ pos (128 * t.t2))
    go (inl f) = omega (arith, ints)
    go (inr f) = let f0 = f.0 in let f1 = f.1 in omega (arith, ints)

low_step : (a p : ℤ) → p ≤ℤ pos 0 → lex (pos 0) a (pos 0) p ≡ false → ((pos 128 *ℤ a) +ℤ p) ≤ℤ pos 0
low_step a p hi h = go (lex_not (pos 0) a (pos 0) p h)
  where
    go : (lt_z a (pos 0) ≡ true) ⊎ ((pos 0 ≡ a) × (lt_z (pos 0) p ≡ false)) → ((pos 128 *ℤ a) +ℤ p) ≤ℤ pos 0
    go (inl f) = omega (arith, ints)
    go (inr f) = let f0 = f.0 in omega (arith, ints)

at_least : (b : ℤ) → nat_abs b ≤ 64 → neg_ℤ (pos 64) ≤ℤ b
at_least b h = omega (arith, ints)

module _ (w : View) (t : Thresholds) where
  -- a walk counts its marks: the second part is never above 0
  walk_second : (k u : ℕ) (z : Pair Whole Units) → Walk pairs (view_steps pairs w t) k u z → z.second.value ≤ℤ pos 0
  walk_second k u z stop = omega (arith, ints)
  walk_second (suc k) u z (go {z = y} v l is walk) = down (is_mark w u v) y.second.value (walk_second k v y walk)
    where
      down : (b : Bool) (x : ℤ) → x ≤ℤ pos 0 → ((cond b (mark t) (hop t)).second.value +ℤ x) ≤ℤ pos 0
      down true x h = omega (arith, ints)
      down false x h = omega (arith, ints)

  module _ (g : ℕ → Pair Whole Units) (best : Best pairs w t g) where
    lo : (u : ℕ) → u < 64 → w.stands u ≡ true → neg_ℤ (pos 64) ≤ℤ (g u).second.value
    lo u l st = at_least (g u).second.value (best.extent u l st).1

    hi : (u : ℕ) → u < 64 → w.stands u ≡ true → (g u).second.value ≤ℤ pos 0
    hi u l st = walk_second 64 u (g u) (best.walk u l st)

    near : (u v : ℕ) → u < 64 → v < 64 → is_hop w u v ≡ true → merged (g u) ≤ℤ (merged (g v) +ℤ pos (128 * t.t2))
    near u v a b e =
        let is = or_right (is_mark w u v) (is_hop w u v) e in
        hop_step (is_mark w u v) (g u).first.value (g v).first.value (g u).second.value (g v).second.value t (hop_unmarked (step w u v) e) (lo v b (step_head w u v is)) (hi u a (step_stands w u v is)) (best.meets u v a b is)

    up : (u v : ℕ) → u < 64 → v < 64 → is_mark w u v ≡ true → (merged (g u) +ℤ pos (128 * t.t1 + 1)) ≤ℤ merged (g v)
    up u v a b e =
        let is = or_left (is_mark w u v) (is_hop w u v) e in
        mark_step (is_mark w u v) (g u).first.value (g v).first.value (g u).second.value (g v).second.value t e (lo v b (step_head w u v is)) (hi u a (step_stands w u v is)) (best.meets u v a b is)

    pub best_strict : BestStrict w t g
    best_strict = record {
      strict = record { up = up; near = λ u v a b e. (near u v a b e, near v u b a (hop_turned w u v e)) };
      low = λ u l st. low_step (g u).first.value (g u).second.value (hi u l st) (best.low u l st);
      greatest = best;
    }

-- ---- the sum round a ring is (h·t2 - e·t1, -e)
pair_marks : (n : ℕ) (t : Thresholds) → ((times pairs n (mark t)).first.value ≡ neg_ℤ (pos (n * t.t1))) × ((times pairs n (mark t)).second.value ≡ neg_ℤ (pos n))
unfolding times
pair_marks zero t = (rw (zero-mul t.t1), refl)
pair_marks (suc n) t = let ih = pair_marks n t in (omega (arith, ints, suc-mul n t.t1, ih.0), omega (arith, ints, ih.1))

pair_hops : (n : ℕ) (t : Thresholds) → ((times pairs n (hop t)).first.value ≡ pos (n * t.t2)) × ((times pairs n (hop t)).second.value ≡ pos 0)
unfolding times
pair_hops zero t = (rw (zero-mul t.t2), refl)
pair_hops (suc n) t = let ih = pair_hops n t in (omega (arith, ints, suc-mul n t.t2, ih.0), omega (arith, ints, ih.1))

pub forbids_strictly : (w : View) (t : Thresholds) (xs : List ℕ) → Forbids pairs w t xs → ForbidsStrictly w t xs
forbids_strictly w t xs f =
    let counts = round_counts pairs lawful w t xs f.ring.cycle in
    let em = pair_marks (marks_of w xs) t in
    let eh = pair_hops (hops_of w xs) t in
    let one : (sum_round pairs w t xs).first.value ≡ pos (hops_of w xs * t.t2) -ℤ pos (marks_of w xs * t.t1) =
    ap (λ (z : Pair Whole Units). z.first.value) counts ∙ ap₂ (λ (a b : ℤ). a +ℤ b) em.0 eh.0 ∙ omega (arith, ints) in
    let two : (sum_round pairs w t xs).second.value ≡ neg_ℤ (pos (marks_of w xs)) =
    ap (λ (z : Pair Whole Units). z.second.value) counts ∙ ap₂ (λ (a b : ℤ). a +ℤ b) em.1 eh.1 ∙ omega (arith, ints) in
    let forbids : ForbidsStrict w t xs = below_out (sum_round pairs w t xs).first.value (sum_round pairs w t xs).second.value (marks_of w xs) (marks_of w xs * t.t1) (hops_of w xs * t.t2) one two (λ z. ap (λ (n : ℕ). n * t.t1) z ∙ zero-mul t.t1) f.below in
    record { ring = f.ring; forbids = forbids; none = ring_forbids_strict w t xs f.ring.cycle forbids }
