-- Bits collected one after another. Assumes nothing.
use Rattle.std.proofs.Common.{◌≡◌, ℕ, ◌+◌, ◌<◌, ◌≤◌, Bool, true, false, cond, not, ◌&&◌, ltb, Some, None, sym, refl, ap, ◌∙◌, ⊎_elim, arith}
use Rattle.std.proofs.lemmas.Bool.{cases_eq, cases_lt, lt-ltb, le-ltb, eq-eqb, ne_eqb}
use Rattle.model.specs.Sets.{has, put}
use Rattle.model.specs.Views.{View, two, step, is_mark, is_hop}
use Rattle.model.specs.declared.step.Step.TheVariants.{Mark, Hop}
use Rattle.model.specs.Views.{marks, hops}
use Rattle.model.proofs.Digits.{has_zero}
use Rattle.grading.specs.Rows.{Collected, both_in}

pub none_collected : (f : ℕ → Bool) → Collected f 0 0
none_collected f k = let l : 0 ≤ k = omega arith in has_zero k ∙ rw (le-ltb k 0 l)

-- a test below v + 1: below v, and at v
below_next : (f : ℕ → Bool) (v k : ℕ) → (k ≡ v → ⊥) → (ltb k (v + 1) && f k) ≡ (ltb k v && f k)
below_next f v k ne = ⊎_elim
    (λ (l : k < v). let m : k < v + 1 = omega arith in rw (lt-ltb k v l, lt-ltb k (v + 1) m))
    (λ (l : v ≤ k). let m : v + 1 ≤ k = omega arith in rw (le-ltb k v l, le-ltb k (v + 1) m))
    (cases_lt k v)

at_next : (f : ℕ → Bool) (v k : ℕ) → k ≡ v → (ltb k (v + 1) && f k) ≡ f v
at_next f v k e = let m : k < v + 1 = omega arith in rw (lt-ltb k (v + 1) m) (ap f e)

at_last : (f : ℕ → Bool) (v k : ℕ) → k ≡ v → (ltb k v && f k) ≡ false
at_last f v k e = let m : v ≤ k = omega arith in rw (le-ltb k v m)

pub collected_with : (f : ℕ → Bool) (v word more : ℕ) → has more ≡ put (has word) v true → true ≡ f v → Collected f v word → Collected f (v + 1) more
unfolding put
collected_with f v word more e is c k = ap (λ (h : ℕ → Bool). h k) e ∙ ⊎_elim
    (λ (i : k ≡ v). rw (eq-eqb k v i) (is ∙ sym (at_next f v k i)))
    (λ (ne : k ≡ v → ⊥). rw (ne_eqb k v ne) (c k ∙ sym (below_next f v k ne)))
    (cases_eq k v)

pub collected_without : (f : ℕ → Bool) (v word : ℕ) → false ≡ f v → Collected f v word → Collected f (v + 1) word
collected_without f v word is c k = c k ∙ ⊎_elim
    (λ (i : k ≡ v). at_last f v k i ∙ is ∙ sym (at_next f v k i))
    (λ (ne : k ≡ v → ⊥). sym (below_next f v k ne))
    (cases_eq k v)

pub collected_at : (f : ℕ → Bool) (word k : ℕ) → Collected f 64 word → k < 64 → has word k ≡ f k
collected_at f word k c l = c k ∙ rw (lt-ltb k 64 l)

-- the word that stands collects is asked by both_in
pub both_two : (w : View) (word u v : ℕ) → Collected w.stands 64 word → u < 64 → v < 64 → both_in word u v ≡ two w u v
unfolding two
both_two w word u v c a b = rw (collected_at w.stands word u c a, collected_at w.stands word v c b)

-- a mark, and a hop, by their tests
pub mark_by : (w : View) (u v : ℕ) → is_mark w u v ≡ (two w u v && w.marked u v)
unfolding step
mark_by w u v = go (two w u v) (w.marked u v) (w.marked v u)
  where
    go : (t a b : Bool) → marks (cond t (cond a (Some Mark) (cond b None (Some Hop))) None) ≡ (t && a)
    go true true b = refl
    go true false true = refl
    go true false false = refl
    go false a b = refl

pub hop_by : (w : View) (u v : ℕ) → is_hop w u v ≡ (two w u v && (not (w.marked u v) && not (w.marked v u)))
unfolding step
hop_by w u v = go (two w u v) (w.marked u v) (w.marked v u)
  where
    go : (t a b : Bool) → hops (cond t (cond a (Some Mark) (cond b None (Some Hop))) None) ≡ (t && (not a && not b))
    go true true b = refl
    go true false true = refl
    go true false false = refl
    go false a b = refl
