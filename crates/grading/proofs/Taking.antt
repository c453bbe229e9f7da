-- A number taken out of a set: it is gone, and the others stay as they were. Assumes nothing.
use Rattle.std.proofs.Common.{◌≡◌, ℕ, Bool, true, false, ◌≢◌, sym, ap, ◌∙◌, subst}
use Rattle.model.specs.Sets.{has, Taken}
use Rattle.model.proofs.Digits.{put_here, put_other}
use Rattle.scale.proofs.Order.{clash}

module _ (rest rest' u : ℕ) (taken : Taken rest rest' u) where
  pub gone : has rest' u ≡ false
  gone = ap (λ (f : ℕ → Bool). f u) taken.rest ∙ put_here (has rest) u false

  pub stays : (v : ℕ) → v ≢ u → has rest' v ≡ has rest v
  stays v ne = ap (λ (f : ℕ → Bool). f v) taken.rest ∙ put_other (has rest) u v false ne

  -- what is left is another number, and was there before
  pub other : (v : ℕ) → has rest' v ≡ true → v ≢ u
  other v is e = clash (has rest' u) (subst (λ (x : ℕ). has rest' x ≡ true) e is) gone

  pub was : (v : ℕ) → has rest' v ≡ true → has rest v ≡ true
  was v is = sym (stays v (other v is)) ∙ is
