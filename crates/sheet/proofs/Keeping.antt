-- A make that keeps a word of present records and a table of marks: what its calls owe. Assumes nothing.
use Rattle.std.proofs.Common.{◌≡◌, ℕ, zero, suc, ◌+◌, ◌-◌, Bool, true, false, cond, eqb, Ok, IsErrAnd, Result, sym, refl, ap, ◌∙◌}
use mathlib.Core.Path.{fun_ext}
use Rattle.std.proofs.lemmas.Bool.{ne_eqb}
use Rattle.model.specs.declared.decline.Decline.{Decline}
use Rattle.model.specs.Refusals.{number_of}
use Rattle.model.specs.Sets.{has, put}
use Rattle.model.proofs.Digits.{put_more, has_zero}
use Rattle.sheet.specs.declared.state.State.TheVariants.{Absent, Standing}
use Rattle.sheet.specs.Meanings.{empty}
use Rattle.sheet.specs.Checks.{entry_check, enter_check, pair_check, mark_check, strike_check}
use Rattle.sheet.specs.Calls.{put_state, put_mark, entered, marked, struck, after_check, Called}
use Rattle.sheet.specs.Kept.{present_states, kept_meaning, Irreflexive, PresentFrom, PresentTo}
use Rattle.sheet.proofs.Checking.{Clear, called_by, call_taken, pair_clear, pair_open, pair_left}
use Rattle.sheet.proofs.Changes.{put_keeps, put_irreflexive}

present_stands : (b : Bool) → cond b Standing Absent ≡ Standing → b ≡ true
present_stands true e = refl
present_stands false e = cc

-- what such a make promises of its table, by the names of its ghost fields
pub record Promises (present : ℕ) (m : ℕ → ℕ → Bool) : Type 0 where
  pub irreflexive : Irreflexive m
  pub from : PresentFrom present m
  pub to : PresentTo present m

-- a make that is new: no bit in its word, no mark in its table
pub bare_empty : {present held : ℕ} {m : ℕ → ℕ → Bool} (capacity : ℕ) → present ≡ 0 → m ≡ (λ u v. false) → held ≡ 0 → kept_meaning present m held capacity ≡ empty capacity
bare_empty capacity none bare nil =
    let absent : present_states 0 ≡ (λ u. Absent) = fun_ext (λ u. ap (λ (b : Bool). cond b Standing Absent) (has_zero u)) in
    λ i. record { states = (ap present_states none ∙ absent) i; marks = bare i; held = nil i; capacity = capacity }

-- one bit more is one standing record more
states_put : (f : ℕ → Bool) (u : ℕ) → (λ x. cond (put f u true x) Standing Absent) ≡ put_state (λ x. cond (f x) Standing Absent) u Standing
unfolding put put_state
states_put f u = fun_ext (λ x. go (eqb x u) (f x))
  where
    go : (t b : Bool) → cond (cond t true b) Standing Absent ≡ cond t Standing (cond b Standing Absent)
    go true b = refl
    go false b = refl

-- a call that u enters, taken or not, on the word alone: whoever was there is still there
pub stays : {n : ℕ} {r : Result (Unit {0}) Decline} (present still u : ℕ) → Called n (has present) (put (has present) u true) (has still) r
    → (x : ℕ) → has present x ≡ true → has still x ≡ true
stays {n = n} present still u told x h = go n told.meaning
  where
    go : (n : ℕ) → has still ≡ after_check n (put (has present) u true) (has present) → has still x ≡ true
    go zero e = ap (λ f. f x) e ∙ put_more (has present) u x h
    go (suc k) e = ap (λ f. f x) e ∙ h

-- the same call, told by what the make means: only the states can change
pub enter_called : {r : Result (Unit {0}) Decline} (present still u : ℕ) (m : ℕ → ℕ → Bool) (held capacity : ℕ)
    → Called (entry_check u (present_states present u)) (has present) (put (has present) u true) (has still) r
    → Called (enter_check (kept_meaning present m held capacity) u) (kept_meaning present m held capacity) (entered (kept_meaning present m held capacity) u)
    (kept_meaning still m held capacity) r
enter_called present still u m held capacity told =
    called_by (λ (f : ℕ → Bool). record { states = λ x. cond (f x) Standing Absent; marks = m; held = held; capacity = capacity }) refl
    (λ e i. record { states = states_put (has present) u i; marks = m; held = held; capacity = capacity }) told

-- a pair that fails a check of such a make, whose error is handed on by `?`
pub kept_left : {A : Type 0} {before changed : A} {r : Result (Unit {0}) Decline} (present u v k : ℕ) (d : Decline)
    → IsErrAnd r (λ e. e ≡ d) → number_of d ≡ pair_check u v (present_states present u) (present_states present v) 0
    → Called (pair_check u v (present_states present u) (present_states present v) k) before changed before r
kept_left {r = r} present u v k d = pair_left u v (present_states present u) (present_states present v) k r d

-- a pair that passed the checks of such a make
pub passed_clear : (present u v : ℕ) → 0 ≡ pair_check u v (present_states present u) (present_states present v) 0 → Clear u v (present_states present u) (present_states present v)
passed_clear present u v e = pair_clear u v (present_states present u) (present_states present v) 0 (sym e)

-- the marks of a sheet before and after the answer at the pair of u and v is made b, where the pair passes the checks
pub record Written (present : ℕ) (m after : ℕ → ℕ → Bool) (u v : ℕ) (b : Bool) : Type 0 where
  pub clear : Clear u v (present_states present u) (present_states present v)
  pub marks : after ≡ put_mark m u v b

module _ {present : ℕ} {m after : ℕ → ℕ → Bool} {u v : ℕ} where
  -- What the make promises of its marks holds of them then:
  -- the one new mark leads from a standing record to another.
  pub written_keeps : {b : Bool} → Written present m after u v b → Irreflexive m → PresentFrom present m → PresentTo present m
      → Promises present after
  written_keeps {b = b} w free from to =
      let left = present_stands (has present u) w.clear.left in
      let right = present_stands (has present v) w.clear.right in
      record {
        irreflexive = λ x. ap (λ f. f x x) w.marks ∙ put_irreflexive m u v b w.clear.apart free x;
        from = λ x y h. put_keeps m u v b (λ p q. has present p ≡ true) left from x y (sym (ap (λ f. f x y) w.marks) ∙ h);
        to = λ x y h. put_keeps m u v b (λ p q. has present q ≡ true) right to x y (sym (ap (λ f. f x y) w.marks) ∙ h);
      }

  written_meaning : {b : Bool} → Written present m after u v b → (now held capacity : ℕ) → now ≡ held
      → kept_meaning present after now capacity ≡ kept_meaning present (put_mark m u v b) held capacity
  written_meaning w now held capacity e = λ i. record { states = present_states present; marks = w.marks i; held = e i; capacity = capacity }

  -- marking an unmarked pair is taken where there is room, and one mark more is held
  pub mark_taken : {now held capacity : ℕ} → Written present m after u v true → m u v ≡ false → (held ≡ capacity → ⊥) → now ≡ held + 1
      → Called (mark_check (kept_meaning present m held capacity) u v) (kept_meaning present m held capacity) (marked (kept_meaning present m held capacity) u v)
      (kept_meaning present after now capacity) (Ok tt)
  mark_taken {now = now} {held = held} {capacity = capacity} w bare room more =
      call_taken (Ok tt) refl (pair_open u v (present_states present u) (present_states present v) _ w.clear ∙ simp (bare, ne_eqb held capacity room))
      (written_meaning w now (held + 1) capacity more)

  -- striking a marked pair is taken, and one mark less is held
  pub strike_taken : {now held capacity : ℕ} → Written present m after u v false → m u v ≡ true → now ≡ held - 1
      → Called (strike_check (kept_meaning present m held capacity) u v) (kept_meaning present m held capacity) (struck (kept_meaning present m held capacity) u v)
      (kept_meaning present after now capacity) (Ok tt)
  strike_taken {now = now} {held = held} {capacity = capacity} w there less =
      call_taken (Ok tt) refl (pair_open u v (present_states present u) (present_states present v) _ w.clear ∙ simp there)
      (written_meaning w now (held - 1) capacity less)
