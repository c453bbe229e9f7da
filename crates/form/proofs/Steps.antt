-- Reading step by step: on after a value, and item after item. Assumes nothing.
use Rattle.std.proofs.Common.{◌≡◌, ℕ, suc, List, [], ◌∷◌, ◌++◌, sym, refl, ap}
use Rattle.std.proofs.lemmas.List.{append_assoc}
use Rattle.form.specs.Got.{Got, got, stop, then, front, many}

-- what was read before went well, and then the whole did
pub record Took {A B : Type 0} (g : Got A) (f : A → List ℕ → Got B) (b : B) (r : List ℕ) : Type 0 where
  pub value : A
  pub rest : List ℕ
  pub was : g ≡ got value rest
  pub on : f value rest ≡ got b r

pub then_got : {A B : Type 0} (g : Got A) (f : A → List ℕ → Got B) (b : B) (r : List ℕ) → then g f ≡ got b r → Took g f b r
then_got (got a s) f b r e = record { value = a; rest = s; was = refl; on = e }
then_got (stop k) f b r e = cc

pub then_is : {A B : Type 0} (g : Got A) (f : A → List ℕ → Got B) (a : A) (r : List ℕ) → g ≡ got a r → then g f ≡ f a r
then_is g f a r e = ap (λ w. then w f) e

pub then_stop : {A B : Type 0} (g : Got A) (f : A → List ℕ → Got B) (k : ℕ) → g ≡ stop k → then g f ≡ stop k
then_stop g f k e = ap (λ w. then w f) e

-- the list behind those in front
pub record Led {A : Type 0} (xs : List A) (g : Got (List A)) (ys : List A) (r : List ℕ) : Type 0 where
  pub value : List A
  pub was : g ≡ got value r
  pub whole : xs ++ value ≡ ys

pub front_got : {A : Type 0} (xs : List A) (g : Got (List A)) (ys : List A) (r : List ℕ) → front xs g ≡ got ys r → Led xs g ys r
front_got xs (got zs s) ys r e = let p : s ≡ r = cc in let q : xs ++ zs ≡ ys = cc in record { value = zs; was = ap (got zs) p; whole = q }
front_got xs (stop k) ys r e = cc

-- a list in front of a list in front
pub front_front : {A : Type 0} (xs ys : List A) (g : Got (List A)) → front xs (front ys g) ≡ front (xs ++ ys) g
front_front xs ys (got zs r) = ap (λ ws. got ws r) (sym (append_assoc xs ys zs))
front_front xs ys (stop n) = refl

pub front_none : {A : Type 0} (g : Got (List A)) → front [] g ≡ g
front_none (got zs r) = refl
front_none (stop n) = refl

module _ {S A : Type 0} (item : S → List ℕ → Got A) (next : S → A → S) where
  -- one item more, none, and the first broken rule
  pub many_more : (n m : ℕ) (s : S) (bs : List ℕ) (a : A) (r : List ℕ) → m ≡ suc n → item s bs ≡ got a r
      → many item next m s bs ≡ front (a ∷ []) (many item next n (next s a) r)
  unfolding many
  many_more n m s bs a r e h = rw (e, h) refl

  pub many_none : (n : ℕ) (s : S) (bs : List ℕ) → n ≡ 0 → many item next n s bs ≡ got [] bs
  unfolding many
  many_none n s bs e = rw e refl

  pub many_stop : (n m : ℕ) (s : S) (bs : List ℕ) (k : ℕ) → m ≡ suc n → item s bs ≡ stop k → many item next m s bs ≡ stop k
  unfolding many
  many_stop n m s bs k e h = rw (e, h) refl
