-- What the laws of a scale give of its order. Assumes nothing.
use Rattle.std.proofs.Common.{◌≡◌, Bool, true, false, sym, refl, ap, ◌∙◌, subst, ap₂}
use Rattle.scale.specs.declared.scale.Scale.{Ghosts}
use Rattle.scale.specs.Laws.{Laws}
pub use Rattle.std.proofs.lemmas.Bool.{true_from_ne_false as proved}
use Rattle.std.proofs.lemmas.Bool.{false_from_ne_true}
pub use Rattle.model.proofs.Steps.{clash}

-- the laws of a scale that is given by the ghost members of its trait
abbrev pub HasLaws : {V : Type 0} → Ghosts V → Type 0
HasLaws s = Laws s.nothing s.plus s.sum s.less s.mark s.hop s.extent

pub by_bool : {P : Type 0} (b : Bool) → (b ≡ true → P) → (b ≡ false → P) → P
by_bool {P} b f g = go b refl
  where
    go : (t : Bool) → b ≡ t → P
    go true e = f e
    go false e = g e

module _ {V : Type 0} (s : Ghosts V) (laws : HasLaws s) where
  abbrev nothing : V
  nothing = s.nothing

  abbrev plus : V → V → V
  plus = s.plus

  abbrev less : V → V → Bool
  less = s.less

  pub asym : (a b : V) → less a b ≡ true → less b a ≡ false
  asym a b p = go (less b a) refl
    where
      go : (t : Bool) → less b a ≡ t → t ≡ false
      go true e = absurd (clash (less a a) (laws.trans a b a p e) (laws.irrefl a))
      go false e = refl

  pub lt_le_trans : (a b c : V) → less a b ≡ true → less c b ≡ false → less a c ≡ true
  lt_le_trans a b c p q = by_bool (less b c) (λ e. laws.trans a b c p e) (λ e. subst (λ (z : V). less a z ≡ true) (laws.total b c e q) p)

  pub le_lt_trans : (a b c : V) → less b a ≡ false → less b c ≡ true → less a c ≡ true
  le_lt_trans a b c p q = by_bool (less a b) (λ e. laws.trans a b c e q) (λ e. subst (λ (z : V). less z c ≡ true) (sym (laws.total a b e p)) q)

  pub le_trans : (a b c : V) → less b a ≡ false → less c b ≡ false → less c a ≡ false
  le_trans a b c p q = false_from_ne_true (less c a) (λ e. clash (less c b) (lt_le_trans c a b e p) q)

  pub lt_plus : (a b c : V) → less a b ≡ true → less (plus c a) (plus c b) ≡ true
  lt_plus a b c p = ap₂ less (laws.comm c a) (laws.comm c b) ∙ laws.mono a b c p

  pub le_plus : (a b c : V) → less b a ≡ false → less (plus c b) (plus c a) ≡ false
  le_plus a b c p = by_bool (less a b)
      (λ e. asym (plus c a) (plus c b) (lt_plus a b c e))
      (λ e. ap (λ (z : V). less (plus c b) (plus c z)) (laws.total a b e p) ∙ laws.irrefl (plus c b))

  -- what leads from y to less than y is less than nothing
  pub falls : (a y : V) → less (plus a y) y ≡ true → less a nothing ≡ true
  falls a y p = proved (less a nothing) (λ e. clash (less y y) (le_lt_trans y (plus a y) y (at_least e) p) (laws.irrefl y))
    where
      at_least : less a nothing ≡ false → less (plus a y) y ≡ false
      at_least e = ap₂ less (laws.comm a y) (sym (laws.neutral y)) ∙ le_plus nothing a y e
