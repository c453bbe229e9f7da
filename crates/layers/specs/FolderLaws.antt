-- A folder over a sheet has the laws of a sheet. Assumes nothing.
use Rattle.std.specs.Prelude.{◌≡◌, ℕ, zero, suc, ◌≤◌, Bool, true, false, ◌&&◌, refl}
use Rattle.std.proofs.Common.{ap, zero-le, le_refl, arith}
use Rattle.std.proofs.lemmas.Bool.{and_parts}
use Rattle.model.specs.Rings.{bit, sum_to}
use Rattle.sheet.specs.declared.state.State.{State}
use Rattle.sheet.specs.declared.state.State.TheVariants.{Absent, Standing, Aside}
use Rattle.sheet.specs.States.{is_standing}
use Rattle.sheet.specs.Meanings.{Lawful, pairs}
use Rattle.layers.specs.Folders.{Account, filed_state, filed_states, filed_marks, seen}

is_standing_true : (s : State) → is_standing s ≡ true → s ≡ Standing
is_standing_true Absent e = cc
is_standing_true Standing e = refl
is_standing_true Aside e = cc

-- fewer marks, fewer pairs
bit_and : (x y : Bool) → bit (x && y) ≤ bit x
bit_and true true = le_refl 1
bit_and true false = zero-le
bit_and false y = zero-le

sum_le : (f g : ℕ → ℕ) (n : ℕ) → ((k : ℕ) → f k ≤ g k) → sum_to f n ≤ sum_to g n
unfolding sum_to
sum_le f g zero h = zero-le
sum_le f g (suc n) h = omega (arith, h n, sum_le f g n h)

pairs_le : (f : Account) → pairs (filed_marks f) ≤ pairs f.below.marks
unfolding pairs
pairs_le f =
    sum_le (λ u. sum_to (λ v. bit (filed_marks f u v)) 64) (λ u. sum_to (λ v. bit (f.below.marks u v)) 64) 64
    (λ u. sum_le (λ v. bit (filed_marks f u v)) (λ v. bit (f.below.marks u v)) 64
    (λ v. bit_and (f.below.marks u v) (is_standing (filed_states f u) && is_standing (filed_states f v))))

pub seen_lawful : (f : Account) → Lawful f.below → Lawful (seen f)
seen_lawful f l = record {
  beyond = λ u h. ap (filed_state (f.own u)) (l.beyond u h);
  ends = λ u v h.
      let p = and_parts (f.below.marks u v) (is_standing (filed_states f u) && is_standing (filed_states f v)) h in
      let q = and_parts (is_standing (filed_states f u)) (is_standing (filed_states f v)) p.1 in
      (is_standing_true (filed_states f u) q.0, is_standing_true (filed_states f v) q.1, (l.ends u v p.0).2);
  counted = omega (arith, pairs_le f, l.counted);
  room = l.room;
  least = l.least;
  most = l.most;
}
