-- The calls of a folder over a sheet, by those below. Assumes nothing.
use Rattle.std.proofs.Common.{◌≡◌, ℕ, ◌+◌, ◌-◌, Bool, true, false, cond, ◌&&◌, eqb, ltb, IsErrAnd, Result, sym, refl, ap, ◌∙◌, subst, arith}
use mathlib.Core.Path.{fun_ext}
use Rattle.std.proofs.Math.Bool.{and-true}
use Rattle.std.proofs.lemmas.Bool.{and_parts, eqb-true, ne_eqb}
use Rattle.model.specs.declared.decline.Decline.{Decline}
use Rattle.model.specs.Refusals.{number_of}
use Rattle.model.specs.Sets.{has, put}
use Rattle.sheet.specs.declared.state.State.{State}
use Rattle.sheet.specs.declared.state.State.TheVariants.{Absent, Standing, Aside}
use Rattle.sheet.specs.States.{is_aside, is_standing}
use Rattle.sheet.specs.Meanings.{Meaning, Lawful}
use Rattle.sheet.specs.Checks.{enter_check, pair_check, mark_check, strike_check}
use Rattle.sheet.specs.Calls.{put_state, put_mark, entered, marked, struck, Called}
use Rattle.sheet.proofs.Checking.{Clear, called_by, pair_clear, pair_open, pair_left}
use Rattle.layers.specs.Folders.{Account, filed_state, filed_states, filed_marks, seen, entered_in, marked_in, struck_in}

stands_there : (own : Bool) (s : State) → filed_state own s ≡ Standing → s ≡ Standing
stands_there own Absent e = cc
stands_there true Standing e = refl
stands_there false Standing e = refl
stands_there own Aside e = cc

-- a call that is told by what is filed is told by what is seen, if what is seen changes as asked
pub seen_called : {n : ℕ} {before changed after : Account} {wanted : Meaning} {r : Result (Unit {0}) Decline} → (n ≡ 0 → seen changed ≡ wanted)
    → Called n before changed after r → Called n (seen before) wanted (seen after) r
seen_called same c = called_by seen refl same c

-- a call on the sheet below that leaves the folder's set alone
pub below_called : {n k own still : ℕ} {before changed after : Meaning} {r : Result (Unit {0}) Decline} → still ≡ own → n ≡ k → Called n before changed after r
    → Called {A = Account} k (record { below = before; own = has own }) (record { below = changed; own = has own }) (record { below = after; own = has still }) r
below_called {k = k} {own = own} {before = before} {changed = changed} {after = after} {r = r} kept same c =
    subst (λ (w : ℕ). Called {A = Account} k (file before) (file changed) (record { below = after; own = has w }) r) (sym kept)
    (called_by file same (λ _. refl) c)
  where
    file : Meaning → Account
    file m = record { below = m; own = has own }

-- One changed mark is seen where both its records stand in the folder:
-- at that pair what is seen is the new answer, and every other pair is seen as before.
put_seen : (f : Account) (u v : ℕ) (b : Bool) → filed_states f u ≡ Standing → filed_states f v ≡ Standing
    → (λ x y. put_mark f.below.marks u v b x y && (is_standing (filed_states f x) && is_standing (filed_states f y))) ≡ put_mark (filed_marks f) u v b
unfolding put_mark
put_seen f u v b p q = fun_ext (λ x. fun_ext (λ y. go x y (eqb x u && eqb y v) refl))
  where
    both : (x y : ℕ) → (eqb x u && eqb y v) ≡ true → (is_standing (filed_states f x) && is_standing (filed_states f y)) ≡ true
    both x y e =
        let h = and_parts (eqb x u) (eqb y v) e in
        simp (eqb-true x u h.0, eqb-true y v h.1, p, q)

    go : (x y : ℕ) (t : Bool) → (eqb x u && eqb y v) ≡ t
        → (cond t b (f.below.marks x y) && (is_standing (filed_states f x) && is_standing (filed_states f y))) ≡ cond t b (filed_marks f x y)
    go x y true e = ap (λ (c : Bool). b && c) (both x y e) ∙ and-true b
    go x y false e = refl

pub mark_seen : (f : Account) (u v : ℕ) → mark_check (seen f) u v ≡ 0 → seen (marked_in f u v) ≡ marked (seen f) u v
mark_seen f u v e =
    let c = pair_clear u v (filed_states f u) (filed_states f v) _ e in
    λ i. record { states = filed_states f; marks = put_seen f u v true c.left c.right i; held = f.below.held + 1; capacity = f.below.capacity }

pub strike_seen : (f : Account) (u v : ℕ) → strike_check (seen f) u v ≡ 0 → seen (struck_in f u v) ≡ struck (seen f) u v
strike_seen f u v e =
    let c = pair_clear u v (filed_states f u) (filed_states f v) _ e in
    λ i. record { states = filed_states f; marks = put_seen f u v false c.left c.right i; held = f.below.held - 1; capacity = f.below.capacity }

-- a pair that fails a check of the folder, whose error is handed on by `?`: the account is left as it was
pub pair_failed : {before changed after : Account} {r : Result (Unit {0}) Decline} (u v k : ℕ) (d : Decline) → IsErrAnd r (λ e. e ≡ d) → after ≡ before
    → number_of d ≡ pair_check u v (filed_states before u) (filed_states before v) 0
    → Called (pair_check u v (filed_states before u) (filed_states before v) k) before changed after r
pair_failed {before = before} {changed = changed} {r = r} u v k d handed kept failed =
    subst (λ (a : Account). Called (pair_check u v (filed_states before u) (filed_states before v) k) before changed a r) (sym kept)
    (pair_left u v (filed_states before u) (filed_states before v) k r d handed failed)

-- a pair that passes the folder's checks is answered below as it is in the folder
pub pair_seen : (f : Account) (u v : ℕ) (k : Bool → ℕ) → Clear u v (filed_states f u) (filed_states f v)
    → pair_check u v (f.below.states u) (f.below.states v) (k (f.below.marks u v)) ≡ pair_check u v (filed_states f u) (filed_states f v) (k (filed_marks f u v))
pair_seen f u v k c =
    let below : Clear u v (f.below.states u) (f.below.states v) = record {
      low = c.low;
      apart = c.apart;
      left = stands_there (f.own u) (f.below.states u) c.left;
      right = stands_there (f.own v) (f.below.states v) c.right;
    } in
    pair_open u v (f.below.states u) (f.below.states v) (k (f.below.marks u v)) below
    ∙ ap k (marked_there (f.below.marks u v))
    ∙ sym (pair_open u v (filed_states f u) (filed_states f v) (k (filed_marks f u v)) c)
  where
    marked_there : (b : Bool) → b ≡ (b && (is_standing (filed_states f u) && is_standing (filed_states f v)))
    marked_there true = simp (c.left, c.right)
    marked_there false = refl

-- a number that passes the checks of enter is absent in the folder, and so it is below
enter_absent : (own : Bool) (s : State) (b : Bool)
    → ◌≡◌ {A = ℕ} (cond b 2 (cond (is_standing (filed_state own s)) 6 (cond (is_aside (filed_state own s)) 5 0))) 0 → s ≡ Absent
enter_absent own s true e = absurd (omega arith)
enter_absent own Absent false e = refl
enter_absent true Standing false e = absurd (omega arith)
enter_absent false Standing false e = absurd (omega arith)
enter_absent own Aside false e = absurd (omega arith)

states_entered : (f : Account) (u : ℕ) → filed_states (entered_in f u) ≡ put_state (filed_states f) u Standing
unfolding put put_state
states_entered f u = fun_ext (λ x. go (f.own x) (f.below.states x) (eqb x u))
  where
    go : (own : Bool) (s : State) (t : Bool) → filed_state (cond t false own) (cond t Standing s) ≡ cond t Standing (filed_state own s)
    go own s true = refl
    go own s false = refl

-- Marks are seen as before: a marked pair stands below, so the number that enters is in none.
marks_entered : (f : Account) (u : ℕ) → Lawful f.below → f.below.states u ≡ Absent → filed_marks (entered_in f u) ≡ filed_marks f
unfolding put_state
marks_entered f u l out = fun_ext (λ x. fun_ext (λ y. go x y (f.below.marks x y) refl))
  where
    other : (x : ℕ) → f.below.states x ≡ Standing → filed_states (entered_in f u) x ≡ filed_states f x
    other x e =
        let apart = ne_eqb x u (λ i. let h : f.below.states x ≡ Absent = ap f.below.states i ∙ out in cc) in
        ap (λ (g : ℕ → State). g x) (states_entered f u) ∙ ap (λ (t : Bool). cond t Standing (filed_states f x)) apart

    go : (x y : ℕ) (t : Bool) → f.below.marks x y ≡ t
        → (t && (is_standing (filed_states (entered_in f u) x) && is_standing (filed_states (entered_in f u) y)))
        ≡ (t && (is_standing (filed_states f x) && is_standing (filed_states f y)))
    go x y true e =
        let ends = l.ends x y e in
        λ i. is_standing (other x ends.0 i) && is_standing (other y ends.1 i)
    go x y false e = refl

pub enter_seen : (f : Account) (u : ℕ) → Lawful f.below → enter_check (seen f) u ≡ 0 → seen (entered_in f u) ≡ entered (seen f) u
enter_seen f u l e =
    let out = enter_absent (f.own u) (f.below.states u) (ltb 63 u) e in
    λ i. record { states = states_entered f u i; marks = marks_entered f u l out i; held = f.below.held; capacity = f.below.capacity }
