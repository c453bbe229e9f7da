-- What a release holds is a fact of one proof: so it can be kept in its type. Assumes nothing.
use Rattle.std.specs.Prelude.{ℕ, ◌⊎◌, List, length}
use Rattle.std.proofs.Common.{inl, inr, ap, arith}
use Rattle.std.proofs.Props.{props}
use Rattle.model.specs.Views.{View}
use Rattle.model.specs.Ratios.{Shows, NoRing, RingWith}
use Rattle.reading.specs.Told.{Told, Holds, Drawn}

pub drawn_prop : (w : View) → IsProp (Drawn w)
drawn_prop w = hlevel props

no_ring_prop : (e h : ℕ) (xs : List ℕ) → IsProp (NoRing e h xs)
no_ring_prop e h xs = hlevel props

ring_with_prop : (w : View) (e h : ℕ) (xs : List ℕ) → IsProp (RingWith w e h xs)
ring_with_prop w e h xs = hlevel props

either_prop : {P Q : Type 0} → IsProp P → IsProp Q → (P → Q → ⊥) → IsProp (P ⊎ Q)
either_prop p q not_both (inl a) (inl b) = ap inl (p a b)
either_prop p q not_both (inl a) (inr b) = absurd (not_both a b)
either_prop p q not_both (inr a) (inl b) = absurd (not_both b a)
either_prop p q not_both (inr a) (inr b) = ap inr (q a b)

-- a ring is not empty
shows_prop : (w : View) (e h : ℕ) (xs : List ℕ) → IsProp (Shows w e h xs)
shows_prop w e h xs = either_prop (no_ring_prop e h xs) (ring_with_prop w e h xs) (λ none ring. omega (arith, ap length none.empty, ring.ring.cycle.long))

pub holds_prop : (t : Told) → IsProp (Holds t)
holds_prop t = let s = shows_prop t.view t.marks t.hops t.ring in hlevel (props, s)
