-- What settings aside alone leave: less that stands, with the same marks between it, and so no greater ratio. Assumes nothing.
use Rattle.std.proofs.Common.{◌≡◌, ℕ, zero, suc, ◌+◌, ◌-◌, ◌*◌, ◌≤◌, Bool, true, false, cond, ◌&&◌, eqb, List, length, get_or, take, sym, refl, ◌∙◌, subst, ap₂, add-zero, add-suc, arith}
use Rattle.model.specs.Sets.{put}
use Rattle.model.specs.Views.{View, Within}
use Rattle.model.specs.Rings.{Circle}
use Rattle.model.specs.Ratios.{LeastRatio}
use Rattle.model.proofs.Ratios.{fewer_circles, no_greater_ratio}
use Rattle.sheet.specs.declared.state.State.TheVariants.{Aside}
use Rattle.sheet.specs.States.{is_standing}
use Rattle.sheet.specs.Calls.{after_check}
use Rattle.layers.specs.Folders.{Account, aside_check, set_aside}
use Rattle.archive.specs.declared.call.Call.{Call}
use Rattle.archive.specs.declared.call.Call.TheVariants.{Enter}
use Rattle.archive.specs.Accounts.{told, stands_in, next, run}
use Rattle.archive.specs.Histories.{AllRightBy}
use Rattle.archive.specs.Lessening.{AsideOrIdle, aside, idle, OnlyAside, NoGreater, LessensBy}
use Rattle.archive.proofs.Runs.{run_next}

within_same : (w : View) → Within w w
within_same w = record { stands = λ u h. h; marked = λ u v p q. refl }

within_on : (a b c : View) → Within a b → Within b c → Within a c
within_on a b c p q = record {
  stands = λ u h. q.stands u (p.stands u h);
  marked = λ u v h k. p.marked u v h k ∙ q.marked u v (p.stands u h) (p.stands v k);
}

-- what stands with u aside stood before, since only u was put into the set
aside_stands : (a : Account) (u x : ℕ) → (stands_in (set_aside a u)).stands x ≡ true → (stands_in a).stands x ≡ true
unfolding put
aside_stands a u x = go (eqb x u)
  where
    go : (t : Bool) → is_standing (cond (cond t true (a.own x)) Aside (a.below.states x)) ≡ true → is_standing (cond (a.own x) Aside (a.below.states x)) ≡ true
    go true e = cc
    go false e = e

aside_within : (a : Account) (u : ℕ) → Within (stands_in (set_aside a u)) (stands_in a)
aside_within a u = record {
  stands = aside_stands a u;
  marked = λ x y p q. ap₂ (λ (b c : Bool). a.below.marks x y && (b && c)) (p ∙ sym (aside_stands a u x p)) (q ∙ sym (aside_stands a u y q));
}

call_within : (a : Account) (c : Call) → AsideOrIdle a c → Within (stands_in (next a c)) (stands_in a)
call_within a c (aside u is) = subst (λ (k : Call). Within (stands_in (next a k)) (stands_in a)) (sym is) (go (aside_check (told a) u))
  where
    go : (n : ℕ) → Within (stands_in (after_check n (set_aside a u) a)) (stands_in a)
    go zero = aside_within a u
    go (suc n) = within_same (stands_in a)
call_within a c (idle same) = subst (λ (b : Account). Within (stands_in b) (stands_in a)) (sym same) (within_same (stands_in a))

module _ (a : Account) (calls : List Call) where
  -- call by call, from the second moment back to the first
  runs_within : (i n : ℕ) → i + n ≤ length calls → OnlyAside a calls i (i + n) → Within (stands_in (run a (take (i + n) calls))) (stands_in (run a (take i calls)))
  runs_within i zero l only = rw (add-zero i) (within_same (stands_in (run a (take i calls))))
  runs_within i (suc n) l only =
      let one = call_within (run a (take (i + n) calls)) (get_or calls (i + n) (Enter 0)) (only (i + n) (omega arith) (omega arith)) in
      let step = run_next a calls (i + n) (Enter 0) (omega arith) in
      rw (add-suc i n) (within_on _ _ _ (subst (λ (b : Account). Within (stands_in b) (stands_in (run a (take (i + n) calls)))) (sym step) one)
      (runs_within i n (omega arith) (λ k low high. only k low (omega arith))))

  less_stands : (i j : ℕ) → i ≤ j → j ≤ length calls → OnlyAside a calls i j → Within (stands_in (run a (take j calls))) (stands_in (run a (take i calls)))
  less_stands i j l h only =
      let e : i + (j - i) ≡ j = omega arith in
      subst (λ (m : ℕ). Within (stands_in (run a (take m calls))) (stands_in (run a (take i calls)))) e
      (runs_within i (j - i) (omega arith) (subst (OnlyAside a calls i) (sym e) only))

  pub no_greater : (i j : ℕ) → i ≤ j → j ≤ length calls → OnlyAside a calls i j → NoGreater (stands_in (run a (take i calls))) (stands_in (run a (take j calls)))
  no_greater i j l h only =
      let v = stands_in (run a (take i calls)) in
      let w = stands_in (run a (take j calls)) in
      let less = less_stands i j l h only in
      record {
        circleless = λ none xs c. none xs (fewer_circles w v xs less c);
        ratio = λ e h f k xs ys first second. no_greater_ratio w v f k e h ys xs less second first;
      }

-- a ratio of what stands in w: the least, or 1 to 0 for a circle
pub data RatioOf (w : View) : ℕ → ℕ → Type 0 where
  least : {e h : ℕ} (xs : List ℕ) → LeastRatio w e h xs → RatioOf w e h
  circle : (xs : List ℕ) → Circle w xs → RatioOf w 1 0

-- of two views of which the second has no greater ratio
no_greater_of : (v w : View) (e h f k : ℕ) → RatioOf v e h → RatioOf w f k → NoGreater v w → f * h ≤ e * k
no_greater_of v w e h f k (least xs p) (least ys q) less = less.ratio e h f k xs ys p q
no_greater_of v w e h f k (least xs p) (circle ys c) less = absurd (less.circleless p.circleless ys c)
no_greater_of v w e h f k (circle xs c) (least ys q) less = omega arith
no_greater_of v w e h f k (circle xs c) (circle ys d) less = omega arith

-- where what is right tells a ratio of what stands, settings aside alone made none greater
module _ {X : Type 0} (right : Account → Call → X → Type 0) (tells : X → ℕ → ℕ → Type 0) (none : X)
    (of : (a : Account) (c : Call) (x : X) (e h : ℕ) → right a c x → tells x e h → RatioOf (stands_in a) e h) where
  pub lessens : (a : Account) (calls : List Call) (given : List X) → AllRightBy right none a calls given → LessensBy tells none a calls given
  lessens a calls given all = record {
    moments = no_greater a calls;
    told = λ i j e h f k l before only first second.
        no_greater_of _ _ e h f k (of _ _ _ e h (all.each i (omega arith)) first) (of _ _ _ f k (all.each j before) second) (no_greater a calls i j l (omega arith) only);
  }
