-- Setting aside and bringing back, one after the other. Assumes nothing.
use Rattle.std.proofs.Common.{◌≡◌, ℕ, Bool, true, false, cond, eqb, ltb, sym, refl, ap, ◌∙◌, arith}
use mathlib.Core.Path.{fun_ext}
use Rattle.std.proofs.lemmas.Bool.{eq-eqb}
use Rattle.model.specs.Sets.{put}
use Rattle.model.proofs.Digits.{put_same}
use Rattle.sheet.specs.declared.state.State.{State}
use Rattle.sheet.specs.declared.state.State.TheVariants.{Absent, Standing, Aside}
use Rattle.sheet.specs.States.{is_absent, is_aside}
use Rattle.layers.specs.Folders.{filed_state}
use Rattle.layers.specs.Statements.{AsideAndBack}

-- a number that passes the checks of set aside is a record that stands in the folder
pub record Settable (own : Bool) (s : State) (above : Bool) : Type 0 where
  pub low : above ≡ false
  pub free : own ≡ false
  pub stands : s ≡ Standing

pub settable : (own : Bool) (s : State) (above : Bool)
    → ◌≡◌ {A = ℕ} (cond above 2 (cond (is_absent (filed_state own s)) 4 (cond (is_aside (filed_state own s)) 5 0))) 0 → Settable own s above
settable own s true e = absurd (omega arith)
settable own Absent false e = absurd (omega arith)
settable true Standing false e = absurd (omega arith)
settable false Standing false e = record { low = refl; free = refl; stands = refl }
settable own Aside false e = absurd (omega arith)

-- the second of two writes to one place is all that counts
put_twice : (f : ℕ → Bool) (u : ℕ) (b c : Bool) → put (put f u c) u b ≡ put f u b
unfolding put
put_twice f u b c = fun_ext (λ x. go (eqb x u) (f x))
  where
    go : (t d : Bool) → cond t b (cond t c d) ≡ cond t b d
    go true d = refl
    go false d = refl

put_here : (f : ℕ → Bool) (u : ℕ) (b : Bool) → put f u b u ≡ b
unfolding put
put_here f u b = ap (λ (t : Bool). cond t b (f u)) (eq-eqb u u refl)

pub aside_and_back : AsideAndBack
aside_and_back a u e =
    let s = settable (a.own u) (a.below.states u) (ltb 63 u) e in
    record {
      taken = simp (s.low, put_here a.own u true, s.stands);
      same = λ i. record { below = a.below; own = (put_twice a.own u false true ∙ sym (put_same a.own u false s.free)) i };
    }
