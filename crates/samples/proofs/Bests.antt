-- A test of values that makes them the best on a scale. Assumes nothing.
use Rattle.std.proofs.Common.{◌≡◌, ℕ, zero, suc, Bool, true, not, ◌&&◌, ◌||◌, List, get_or, ltb, sym, subst, ⊎_elim, arith}
use Rattle.std.proofs.lemmas.Bool.{and_parts, or_cases, ltb-true, cond_both}
use Rattle.model.specs.declared.thresholds.Thresholds.{Thresholds}
use Rattle.model.specs.Limits.{within_limits}
use Rattle.model.specs.Views.{View, is_mark, is_step}
use Rattle.model.proofs.Steps.{step_stands, step_head}
use Rattle.scale.specs.declared.scale.Scale.{Ghosts}
use Rattle.scale.proofs.Order.{HasLaws}
use Rattle.paths.specs.Steps.{value, view_steps}
use Rattle.paths.specs.Walks.{Walk, stop, go}
use Rattle.paths.specs.Bests.{Best}
use Rattle.paths.proofs.Walking.{walk_longer, walk_extent, walks_bound}
use Rattle.samples.proofs.Tests.{below, below_at, below_two, below_two_at, implies, implied, not_true}
use Rattle.samples.proofs.Covers.{Covers}

module _ {V : Type 0} (s : Ghosts V) (laws : HasLaws s) (w : View) (t : Thresholds) (g : ℕ → V) (next : List ℕ) where
  -- neither is less
  abbrev equal : V → V → Bool
  equal a b = not (s.less a b) && not (s.less b a)

  equal_is : (a b : V) → equal a b ≡ true → a ≡ b
  equal_is a b e =
      let p = and_parts (not (s.less a b)) (not (s.less b a)) e in
      laws.total a b (not_true (s.less a b) p.0) (not_true (s.less b a) p.1)

  abbrev meets_step : ℕ → ℕ → Bool
  meets_step u v = implies (is_step w u v) (not (s.less (s.plus (value s w t u v) (g v)) (g u)))

  -- a step leads from u to the next record v, and g u is its value and g v
  abbrev reaches : ℕ → ℕ → Bool
  reaches u v = ltb v 64 && (is_step w u v && equal (g u) (s.plus (value s w t u v) (g v)))

  -- from u by next records to one where g is nothing, in k steps at most
  abbrev walks : ℕ → ℕ → Bool
  walks zero u = equal (g u) s.nothing
  walks (suc k) u = equal (g u) s.nothing || (reaches u (get_or next u 0) && walks k (get_or next u 0))

  walk_here : (k u : ℕ) → equal (g u) s.nothing ≡ true → Walk s (view_steps s w t) k u (g u)
  walk_here k u e = subst (Walk s (view_steps s w t) k u) (sym (equal_is (g u) s.nothing e)) stop

  walk_on : (k u v : ℕ) → reaches u v ≡ true → Walk s (view_steps s w t) k v (g v) → Walk s (view_steps s w t) (suc k) u (g u)
  walk_on k u v e walk =
      let p = and_parts (ltb v 64) (is_step w u v && equal (g u) (s.plus (value s w t u v) (g v))) e in
      let q = and_parts (is_step w u v) (equal (g u) (s.plus (value s w t u v) (g v))) p.1 in
      subst (Walk s (view_steps s w t) (suc k) u) (sym (equal_is (g u) (s.plus (value s w t u v) (g v)) q.1)) (go v (ltb-true v 64 p.0) q.0 walk)

  walked : (k u : ℕ) → walks k u ≡ true → Walk s (view_steps s w t) k u (g u)
  walked zero u e = walk_here zero u e
  walked (suc k) u e = ⊎_elim
      (λ (here : equal (g u) s.nothing ≡ true). walk_here (suc k) u here)
      (λ (on : (reaches u (get_or next u 0) && walks k (get_or next u 0)) ≡ true).
      let p = and_parts (reaches u (get_or next u 0)) (walks k (get_or next u 0)) on in
      walk_on k u (get_or next u 0) p.0 (walked k (get_or next u 0) p.1))
      (or_cases (equal (g u) s.nothing) (reaches u (get_or next u 0) && walks k (get_or next u 0)) e)

  -- records below n: the values meet each step, none is above nothing, and from each record a walk has its value
  abbrev pub is_best : ℕ → Bool
  is_best n = within_limits t && (below_two n meets_step && (below n (λ u. not (s.less s.nothing (g u))) && below n (walks 8)))

  step_extent : within_limits t ≡ true → (u v : ℕ) → s.extent (value s w t u v) 1
  step_extent e u v = cond_both (is_mark w u v) (s.mark t) (s.hop t) (λ (z : V). s.extent z 1) (λ _. laws.mark_extent t e) (λ _. laws.hop_extent t e)

  module _ (n : ℕ) (covers : Covers w n) (e : is_best n ≡ true) where
    -- The test has followed the next records: from each record u leads a walk whose sum is g u. Take other values that meet every step,
    -- none of them above nothing. At the end of the walk they are at most nothing, and back along it each step adds its value to
    -- both sides. So at u they are at most g u: no others are greater. And 8 steps of extent 1 have an extent of no more than 64.
    pub best_by_test : Best s w t g
    best_by_test =
        let p = and_parts (within_limits t) _ e in
        let q = and_parts (below_two n meets_step) _ p.1 in
        let r = and_parts (below n (λ u. not (s.less s.nothing (g u)))) (below n (walks 8)) q.1 in
        let walk : (u : ℕ) → w.stands u ≡ true → Walk s (view_steps s w t) 64 u (g u) =
        λ u st. walk_longer s (view_steps s w t) 8 56 u (g u) (walked 8 u (below_at n (walks 8) u r.1 (covers u st))) in
        record {
          meets = λ u v a b is. not_true (s.less (s.plus (value s w t u v) (g v)) (g u))
              (implied (is_step w u v) (not (s.less (s.plus (value s w t u v) (g v)) (g u)))
              (below_two_at n meets_step u v q.0 (covers u (step_stands w u v is)) (covers v (step_head w u v is))) is);
          low = λ u l st. not_true (s.less s.nothing (g u)) (below_at n (λ u. not (s.less s.nothing (g u))) u r.0 (covers u st));
          extent = λ u l st. walk_extent s laws (view_steps s w t) (step_extent p.0) 64 u (g u) (omega arith) (walk u st);
          greatest = λ p meets low u l st. walks_bound s laws w t p meets low 64 u (g u) l st (walk u st);
          walk = λ u l st. walk u st;
        }
