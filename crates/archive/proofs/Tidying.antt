-- What a folder shows is what the account tells, as long as no absent number is in the set; and no call puts one there.
-- Assumes nothing.
use Rattle.std.proofs.Common.{◌≡◌, ℕ, Bool, true, false, cond, eqb, ltb, sym, refl, ap, ◌∙◌, arith}
use mathlib.Core.Path.{fun_ext}
use Rattle.std.proofs.lemmas.Bool.{eqb-true}
use Rattle.model.specs.Sets.{put}
use Rattle.sheet.specs.declared.state.State.{State}
use Rattle.sheet.specs.declared.state.State.TheVariants.{Absent, Standing, Aside}
use Rattle.sheet.specs.States.{is_absent, is_aside, is_standing}
use Rattle.sheet.specs.Meanings.{Meaning}
use Rattle.sheet.specs.Checks.{enter_check}
use Rattle.sheet.specs.Calls.{put_state}
use Rattle.layers.specs.Folders.{Account, opened, standing_marks, filed_state, filed_states, seen, aside_check, entered_in, set_aside, brought_back}
use Rattle.model.proofs.Digits.{put_same}
use Rattle.archive.specs.Accounts.{told_states, told, noted}
use Rattle.archive.specs.Following.{Tidy}

-- the two tellings of a state differ only where an absent number is in the set
pub seen_told : (a : Account) → Tidy a → seen a ≡ told a
seen_told a tidy =
    let same : filed_states a ≡ told_states a = fun_ext (λ u. go (a.own u) (a.below.states u) (tidy u)) in
    λ i. record { states = same i; marks = standing_marks (same i) a.below.marks; held = a.below.held; capacity = a.below.capacity }
  where
    go : (own : Bool) (s : State) → (own ≡ true → s ≡ Absent → ⊥) → filed_state own s ≡ cond own Aside s
    go true Absent t = absurd (t refl refl)
    go false Absent t = refl
    go true Standing t = refl
    go false Standing t = refl
    go true Aside t = refl
    go false Aside t = refl

-- a number that passes the checks of enter is not in the set
enter_free : (own : Bool) (s : State) (above : Bool)
    → ◌≡◌ {A = ℕ} (cond above 2 (cond (is_standing (cond own Aside s)) 6 (cond (is_aside (cond own Aside s)) 5 0))) 0 → own ≡ false
enter_free own s true e = absurd (omega arith)
enter_free true s false e = absurd (omega arith)
enter_free false s false e = refl

-- so the folder, which takes it out of the set, leaves the set as it is
pub entered_noted : (a : Account) (u : ℕ) → enter_check (told a) u ≡ 0 → entered_in a u ≡ noted a u
entered_noted a u e =
    let free = enter_free (a.own u) (a.below.states u) (ltb 63 u) e in
    λ i. record { below = (noted a u).below; own = sym (put_same a.own u false free) i }

-- a number that passes the checks of set aside stands
aside_stands : (own : Bool) (s : State) (above : Bool)
    → ◌≡◌ {A = ℕ} (cond above 2 (cond (is_absent (cond own Aside s)) 4 (cond (is_aside (cond own Aside s)) 5 0))) 0 → s ≡ Standing
aside_stands own s true e = absurd (omega arith)
aside_stands true s false e = absurd (omega arith)
aside_stands false Absent false e = absurd (omega arith)
aside_stands false Standing false e = refl
aside_stands false Aside false e = absurd (omega arith)

-- at the opening the set is empty
pub opened_tidy : (m : Meaning) → Tidy (opened m)
opened_tidy m u own out = cc

-- each change keeps absent numbers out of the set
module _ (a : Account) (u : ℕ) (tidy : Tidy a) where
  pub tidy_noted : Tidy (noted a u)
  unfolding put_state
  tidy_noted x own = go (eqb x u)
    where
      go : (t : Bool) → cond t Standing (a.below.states x) ≡ Absent → ⊥
      go true e = cc
      go false e = tidy x own e

  pub tidy_aside : aside_check (told a) u ≡ 0 → Tidy (set_aside a u)
  unfolding put
  tidy_aside e x = go (eqb x u) refl
    where
      stands : a.below.states u ≡ Standing
      stands = aside_stands (a.own u) (a.below.states u) (ltb 63 u) e

      go : (t : Bool) → eqb x u ≡ t → cond t true (a.own x) ≡ true → a.below.states x ≡ Absent → ⊥
      go true i own out = let same : a.below.states x ≡ Standing = ap a.below.states (eqb-true x u i) ∙ stands in cc
      go false i own out = tidy x own out

  pub tidy_back : Tidy (brought_back a u)
  unfolding put
  tidy_back x = go (eqb x u)
    where
      go : (t : Bool) → cond t false (a.own x) ≡ true → a.below.states x ≡ Absent → ⊥
      go true own out = cc
      go false own out = tidy x own out
