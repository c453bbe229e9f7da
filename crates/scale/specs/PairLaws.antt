-- The laws of the pair of two scales. Assumes nothing.
use Rattle.std.specs.Prelude.{◌≡◌, ℕ, Bool, true, false, cond, ◌⊎◌, refl}
use Rattle.std.proofs.Common.{ap, ap₂, sym, ◌∙◌, subst, inl, inr}
use Rattle.model.proofs.Steps.{clash}
use Rattle.model.specs.declared.thresholds.Thresholds.{Thresholds}
use Rattle.scale.specs.Laws.{Laws}
use Rattle.scale.specs.Pairs.{both, pair_plus, pair_less, pair_of, PairExtent}
use Rattle.scale.specs.declared.pair.Pair.{Pair}

module _ {X : Type 0} {xn : X} {xp xs : X → X → X} {xl : X → X → Bool} {xm xh : Thresholds → X} {xe : X → ℕ → Type 0} (lx : Laws xn xp xs xl xm xh xe)
    {Y : Type 0} {yn : Y} {yp ys : Y → Y → Y} {yl : Y → Y → Bool} {ym yh : Thresholds → Y} {ye : Y → ℕ → Type 0} (ly : Laws yn yp ys yl ym yh ye) where
  -- how a pair is less: by its first part, or by its second where the first parts are equal
  out : (a b : Pair X Y) → pair_less xl yl a b ≡ true → (xl a.first b.first ≡ true) ⊎ ((a.first ≡ b.first) × (yl a.second b.second ≡ true))
  out a b = go (xl a.first b.first) refl (xl b.first a.first) refl
    where
      go : (s : Bool) → xl a.first b.first ≡ s → (t : Bool) → xl b.first a.first ≡ t → cond s true (cond t false (yl a.second b.second)) ≡ true → (xl a.first b.first ≡ true) ⊎ ((a.first ≡ b.first) × (yl a.second b.second ≡ true))
      go true e t f p = inl e
      go false e true f p = absurd (clash false p refl)
      go false e false f p = inr (lx.total a.first b.first e f, p)

  in_first : (a b : Pair X Y) → xl a.first b.first ≡ true → pair_less xl yl a b ≡ true
  in_first a b e = ap (λ (s : Bool). cond s true (cond (xl b.first a.first) false (yl a.second b.second))) e

  in_second : (a b : Pair X Y) → a.first ≡ b.first → yl a.second b.second ≡ true → pair_less xl yl a b ≡ true
  in_second a b e f =
      let p : xl a.first b.first ≡ false = ap (λ (z : X). xl z b.first) e ∙ lx.irrefl b.first in
      let q : xl b.first a.first ≡ false = ap (λ (z : X). xl b.first z) e ∙ lx.irrefl b.first in
      ap₂ (λ (s t : Bool). cond s true (cond t false (yl a.second b.second))) p q ∙ f

  less_irrefl : (a : Pair X Y) → pair_less xl yl a a ≡ false
  less_irrefl a = ap₂ (λ (s t : Bool). cond s true (cond s false t)) (lx.irrefl a.first) (ly.irrefl a.second)

  less_trans : (a b c : Pair X Y) → pair_less xl yl a b ≡ true → pair_less xl yl b c ≡ true → pair_less xl yl a c ≡ true
  less_trans a b c p q = go (out a b p) (out b c q)
    where
      go : (xl a.first b.first ≡ true) ⊎ ((a.first ≡ b.first) × (yl a.second b.second ≡ true)) → (xl b.first c.first ≡ true) ⊎ ((b.first ≡ c.first) × (yl b.second c.second ≡ true)) → pair_less xl yl a c ≡ true
      go (inl e) (inl f) = in_first a c (lx.trans a.first b.first c.first e f)
      go (inl e) (inr f) = in_first a c (subst (λ (z : X). xl a.first z ≡ true) f.0 e)
      go (inr e) (inl f) = in_first a c (subst (λ (z : X). xl z c.first ≡ true) (sym e.0) f)
      go (inr e) (inr f) = in_second a c (e.0 ∙ f.0) (ly.trans a.second b.second c.second e.1 f.1)

  less_total : (a b : Pair X Y) → pair_less xl yl a b ≡ false → pair_less xl yl b a ≡ false → a ≡ b
  less_total a b = go (xl a.first b.first) refl (xl b.first a.first) refl
    where
      go : (s : Bool) → xl a.first b.first ≡ s → (t : Bool) → xl b.first a.first ≡ t → cond s true (cond t false (yl a.second b.second)) ≡ false → cond t true (cond s false (yl b.second a.second)) ≡ false → a ≡ b
      go true e t f p q = absurd (clash true refl p)
      go false e true f p q = absurd (clash true refl q)
      go false e false f p q = ap₂ both (lx.total a.first b.first e f) (ly.total a.second b.second p q)

  less_mono : (a b c : Pair X Y) → pair_less xl yl a b ≡ true → pair_less xl yl (pair_plus xp yp a c) (pair_plus xp yp b c) ≡ true
  less_mono a b c p = go (out a b p)
    where
      go : (xl a.first b.first ≡ true) ⊎ ((a.first ≡ b.first) × (yl a.second b.second ≡ true)) → pair_less xl yl (pair_plus xp yp a c) (pair_plus xp yp b c) ≡ true
      go (inl e) = in_first (pair_plus xp yp a c) (pair_plus xp yp b c) (lx.mono a.first b.first c.first e)
      go (inr e) = in_second (pair_plus xp yp a c) (pair_plus xp yp b c) (ap (λ (z : X). xp z c.first) e.0) (ly.mono a.second b.second c.second e.1)

  pub pair_laws : Laws (both xn yn) (pair_plus xp yp) (pair_plus xs ys) (pair_less xl yl) (pair_of xm ym) (pair_of xh yh) (PairExtent xe ye)
  pair_laws = record {
    comm = λ a b. ap₂ both (lx.comm a.first b.first) (ly.comm a.second b.second);
    assoc = λ a b c. ap₂ both (lx.assoc a.first b.first c.first) (ly.assoc a.second b.second c.second);
    neutral = λ a. ap₂ both (lx.neutral a.first) (ly.neutral a.second);
    irrefl = less_irrefl;
    trans = less_trans;
    total = less_total;
    mono = less_mono;
    nothing_extent = (lx.nothing_extent, ly.nothing_extent);
    mark_extent = λ t e. (lx.mark_extent t e, ly.mark_extent t e);
    hop_extent = λ t e. (lx.hop_extent t e, ly.hop_extent t e);
    more_extent = λ a k h. (lx.more_extent a.first k h.0, ly.more_extent a.second k h.1);
    sum_extent = λ a b j k p q l. (lx.sum_extent a.first b.first j k p.0 q.0 l, ly.sum_extent a.second b.second j k p.1 q.1 l);
    exact = λ a b j k p q l. ap₂ both (lx.exact a.first b.first j k p.0 q.0 l) (ly.exact a.second b.second j k p.1 q.1 l);
  }
