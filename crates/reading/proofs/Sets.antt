-- Records put into a set one after another, rising. Assumes nothing.
use Rattle.std.proofs.Common.{◌≡◌, ℕ, zero, suc, ◌+◌, ◌-◌, ◌<◌, ◌≤◌, ◌^◌, Bool, true, false, List, [], ◌∷◌, ◌++◌, length, refl, sym, ap, ap₂, ◌∙◌, arith, length-append, add-suc}
use Rattle.std.proofs.lemmas.List.{append-nil}
use Rattle.std.proofs.lemmas.Bool.{eq-eqb, ne_eqb}
use lib.Count.{ones}
use Rattle.model.specs.Rings.{bit, sum_to}
use Rattle.model.specs.Sets.{has, put}
use Rattle.model.specs.Views.{View}
use Rattle.model.proofs.Sums.{sum_suc, sum_none}
use Rattle.model.proofs.Digits.{has_zero, ones_count}
use Rattle.form.specs.Sections.{one_if, records_below}
use Rattle.form.proofs.Listing.{records_more}
use Rattle.reading.specs.Claims.{of_set, IsSet}

-- no records below a number above all of them
records_gap : (w : View) (low k : ℕ) → ((u : ℕ) → low ≤ u → w.stands u ≡ false) → records_below w (low + k) ≡ records_below w low
unfolding records_below
records_gap w low zero none = let e : low + 0 ≡ low = omega arith in ap (records_below w) e
records_gap w low (suc k) none =
    ap (records_below w) (add-suc low k)
    ∙ ap (λ b. records_below w (low + k) ++ one_if b (low + k)) (none (low + k) (omega arith))
    ∙ append-nil (records_below w (low + k))
    ∙ records_gap w low k none

-- so the records below any greater number are the same
pub records_upto : (w : View) (low n : ℕ) → low ≤ n → ((u : ℕ) → low ≤ u → w.stands u ≡ false) → records_below w n ≡ records_below w low
records_upto w low n l none = let e : n ≡ low + (n - low) = omega arith in ap (records_below w) e ∙ records_gap w low (n - low) none

-- the records below n are told by what stands below n
pub records_same : (v w : View) (n : ℕ) → ((u : ℕ) → u < n → v.stands u ≡ w.stands u) → records_below v n ≡ records_below w n
unfolding records_below
records_same v w zero same = refl
records_same v w (suc n) same =
    ap₂ (λ (xs : List ℕ) (b : Bool). xs ++ one_if b n) (records_same v w n (λ u l. same u (omega arith))) (same n (omega arith))

-- the records so far are those of the set, all below low
pub record Risen (set low : ℕ) (ys : List ℕ) : Type 0 where
  pub listed : ys ≡ records_below (of_set set) low
  pub none : (u : ℕ) → low ≤ u → has set u ≡ false

pub risen_none : Risen 0 0 []
unfolding records_below
risen_none = record { listed = refl; none = λ u _. has_zero u }

-- One record more, at least `low`: below it nothing has changed, between `low` and it nothing stands, and it stands itself.
-- So the records below the next `low` are those so far, and this one behind them.
pub risen_more : (set low b more : ℕ) (ys : List ℕ) → low ≤ b → has more ≡ put (has set) b true → Risen set low ys → Risen more (b + 1) (ys ++ b ∷ [])
unfolding put
risen_more set low b more ys l e r =
    let other : (u : ℕ) → (u ≡ b → ⊥) → has more u ≡ has set u = λ u ne. ap (λ (h : ℕ → Bool). h u) e ∙ rw (ne_eqb u b ne) refl in
    let here : has more b ≡ true = ap (λ (h : ℕ → Bool). h b) e ∙ rw (eq-eqb b b refl) refl in
    record {
      listed =
          ap (λ (xs : List ℕ). xs ++ b ∷ []) (r.listed ∙ sym (records_upto (of_set set) low b l r.none) ∙ records_same (of_set set) (of_set more) b (λ u k. sym (other u (omega arith))))
          ∙ ap (λ t. records_below (of_set more) b ++ one_if t b) (sym here)
          ∙ sym (records_more (of_set more) b);
      none = λ u k. other u (omega arith) ∙ r.none u (omega arith);
    }

pub risen_all : (set low : ℕ) → low ≤ 64 → (ys : List ℕ) → Risen set low ys → IsSet ys set
risen_all set low l ys r = r.listed ∙ sym (records_upto (of_set set) low 64 l r.none)

-- as many records as ones in the word
one_long : {X : Type 0} (b : Bool) (x : X) → length (one_if b x) ≡ bit b
one_long true x = refl
one_long false x = refl

records_long : (w : View) (n : ℕ) → length (records_below w n) ≡ sum_to (λ k. bit (w.stands k)) n
unfolding records_below
records_long w zero = sym (sum_none (λ k. bit (w.stands k)))
records_long w (suc n) =
    length-append (records_below w n) (one_if (w.stands n) n)
    ∙ ap₂ (λ (a b : ℕ). a + b) (records_long w n) (one_long (w.stands n) n)
    ∙ sym (sum_suc (λ k. bit (w.stands k)) n)

pub count_is : (set : ℕ) → set < 2 ^ 64 → ones set ≡ length (records_below (of_set set) 64)
count_is set l = ones_count set l ∙ sym (records_long (of_set set) 64)

pub records_count_is : (w : View) (set : ℕ) → set < 2 ^ 64 → ((u : ℕ) → u < 64 → has set u ≡ w.stands u) → ones set ≡ length (records_below w 64)
records_count_is w set l same = count_is set l ∙ ap length (records_same (of_set set) w 64 same)
