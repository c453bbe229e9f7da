-- What a step tells of its two records. Assumes nothing.
use Rattle.std.proofs.Common.{◌≡◌, ℕ, ◌+◌, Bool, true, false, cond, not, ◌&&◌, ◌||◌, Option, Some, None, eqb, sym, refl, ap}
use Rattle.std.proofs.lemmas.Bool.{both_ways, eq-eqb, ne_eqb, and_parts}
use Rattle.model.specs.declared.step.Step.{Step}
use Rattle.model.specs.declared.step.Step.TheVariants.{Mark, Hop}
use Rattle.model.specs.Views.{View, two, step, marks, hops, is_hop, is_step, Within}
use Rattle.model.specs.Rings.{bit}

pub clash : (b : Bool) → b ≡ true → b ≡ false → ⊥
clash b p q = both_ways b q p

-- a mark is no hop
pub counted : (s : Option Step) → (marks s || hops s) ≡ true → bit (marks s) + bit (hops s) ≡ 1
counted (Some Mark) e = refl
counted (Some Hop) e = refl
counted None e = absurd (clash false e refl)

pub two_from : (w : View) (u v : ℕ) → w.stands u ≡ true → w.stands v ≡ true → (u ≡ v → ⊥) → two w u v ≡ true
unfolding two
two_from w u v p q n = rw (p, q, ne_eqb u v n)

pub two_turned : (w : View) (u v : ℕ) → two w u v ≡ true → two w v u ≡ true
unfolding two
two_turned w u v e =
    let p = and_parts (w.stands u) (w.stands v && not (eqb u v)) e in
    let q = and_parts (w.stands v) (not (eqb u v)) p.1 in
    two_from w v u q.0 p.0 (λ s. clash (not (eqb u v)) q.1 (ap not (eq-eqb u v (sym s))))

-- a hop leads back too
pub hop_turned : (w : View) (u v : ℕ) → is_hop w u v ≡ true → is_hop w v u ≡ true
unfolding step
hop_turned w u v = go (two w u v) refl (w.marked u v) refl (w.marked v u) refl
  where
    go : (t : Bool) → two w u v ≡ t → (a : Bool) → w.marked u v ≡ a → (b : Bool) → w.marked v u ≡ b → hops (cond t (cond a (Some Mark) (cond b None (Some Hop))) None) ≡ true → hops (cond (two w v u) (cond (w.marked v u) (Some Mark) (cond (w.marked u v) None (Some Hop))) None) ≡ true
    go true e false p false q h = rw (two_turned w u v e, p, q)
    go true e false p true q h = absurd (clash false h refl)
    go true e true p b q h = absurd (clash false h refl)
    go false e a p b q h = absurd (clash false h refl)

-- between records that stand in both, the step is the same
pub step_within : (a b : View) (u v : ℕ) → Within a b → two a u v ≡ true → step a u v ≡ step b u v
unfolding step two
step_within a b u v i e =
    let p = and_parts (a.stands u) (a.stands v && not (eqb u v)) e in
    let q = and_parts (a.stands v) (not (eqb u v)) p.1 in
    rw (p.0, q.0, q.1, i.stands u p.0, i.stands v q.0, i.marked u v p.0 q.0, i.marked v u q.0 p.0)

-- a step leads from one standing record to another
pub step_two : (w : View) (u v : ℕ) → is_step w u v ≡ true → two w u v ≡ true
unfolding step
step_two w u v = go (two w u v)
  where
    go : (t : Bool) → (marks (cond t (cond (w.marked u v) (Some Mark) (cond (w.marked v u) None (Some Hop))) None) || hops (cond t (cond (w.marked u v) (Some Mark) (cond (w.marked v u) None (Some Hop))) None)) ≡ true → t ≡ true
    go true e = refl
    go false e = e

pub step_apart : (w : View) (u v : ℕ) → is_step w u v ≡ true → u ≡ v → ⊥
unfolding two
step_apart w u v s e =
    let p = and_parts (w.stands u) (w.stands v && not (eqb u v)) (step_two w u v s) in
    let q = and_parts (w.stands v) (not (eqb u v)) p.1 in
    clash (not (eqb u v)) q.1 (ap not (eq-eqb u v e))

pub step_stands : (w : View) (u v : ℕ) → is_step w u v ≡ true → w.stands u ≡ true
unfolding two
step_stands w u v s = (and_parts (w.stands u) (w.stands v && not (eqb u v)) (step_two w u v s)).0

-- a step that is no mark is a hop
pub other : (s : Option Step) → (marks s || hops s) ≡ true → hops s ≡ not (marks s)
other (Some Mark) e = refl
other (Some Hop) e = refl
other None e = absurd (clash false e refl)

pub hop_unmarked : (s : Option Step) → hops s ≡ true → marks s ≡ false
hop_unmarked (Some Mark) e = absurd (clash false e refl)
hop_unmarked (Some Hop) e = refl
hop_unmarked None e = refl

pub step_head : (w : View) (u v : ℕ) → is_step w u v ≡ true → w.stands v ≡ true
unfolding two
step_head w u v s = (and_parts (w.stands v) (not (eqb u v)) (and_parts (w.stands u) (w.stands v && not (eqb u v)) (step_two w u v s)).1).0
