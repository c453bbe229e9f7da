-- In which numbers, and by which ring, a least ratio is shown. Assumes nothing.
use Rattle.std.proofs.Common.{◌≡◌, ℕ, ◌*◌, ◌≤◌, Bool, true, ◌&&◌, List, eqb, leb, inl, inr, sym, refl, ◌∙◌, subst, subst₂, arith}
use Rattle.std.proofs.lemmas.Bool.{and_parts, eqb-true, eq-eqb, le-leb, and_from}
use Rattle.model.specs.Views.{View, Within}
use Rattle.model.specs.Rings.{marks_of, hops_of}
use Rattle.model.specs.Ratios.{RingWith, Shows, LeastRatio}
use Rattle.model.proofs.Ratios.{no_greater_ratio}
use Rattle.samples.proofs.Tests.{implies, implied, same_list, same_list_is}
use Rattle.samples.proofs.Covers.{Covers}
use Rattle.samples.proofs.Rings.{every_ring, ring_at}

same_view : (w : View) → Within w w
same_view w = record { stands = λ u e. e; marked = λ u v a b. refl }

-- two least ratios of one view bound each other
equal_ratios : (w : View) (e h f k : ℕ) (xs ys : List ℕ) → LeastRatio w e h xs → LeastRatio w f k ys → e * k ≡ f * h
equal_ratios w e h f k xs ys a b =
    let up = no_greater_ratio w w e h f k xs ys (same_view w) a b in
    let down = no_greater_ratio w w f k e h ys xs (same_view w) b a in
    omega arith

-- a ring with a mark and the quotient of e and h has these very numbers, and is the ring zs
abbrev is_this : View → ℕ → ℕ → List ℕ → List ℕ → Bool
is_this w e h zs xs = eqb (marks_of w xs) e && (eqb (hops_of w xs) h && same_list xs zs)

abbrev same_ratio : View → ℕ → ℕ → List ℕ → Bool
same_ratio w e h xs = eqb (e * hops_of w xs) (marks_of w xs * h) && leb 1 (marks_of w xs)

abbrev pub is_only : View → ℕ → ℕ → ℕ → List ℕ → Bool
is_only w n e h zs = every_ring w n (λ xs. implies (same_ratio w e h xs) (is_this w e h zs xs))

module _ (w : View) (n e h : ℕ) (zs : List ℕ) (covers : Covers w n) (a : LeastRatio w e h zs) (test : is_only w n e h zs ≡ true) where
  abbrev Same : ℕ → ℕ → List ℕ → Type 0
  Same f k xs = (f ≡ e) × (k ≡ h) × (xs ≡ zs)

  by_ring : (f k : ℕ) (xs : List ℕ) → RingWith w f k xs → e * k ≡ f * h → Same f k xs
  by_ring f k xs r same =
      let ratio = subst₂ (λ (x y : ℕ). e * y ≡ x * h) (sym r.marks) (sym r.hops) same in
      let some = subst (λ (x : ℕ). 1 ≤ x) (sym r.marks) r.some in
      let passes = and_from _ _ (eq-eqb (e * hops_of w xs) (marks_of w xs * h) ratio) (le-leb 1 (marks_of w xs) some) in
      let tried = ring_at w n (λ xs. implies (same_ratio w e h xs) (is_this w e h zs xs)) xs covers test r.ring in
      let p = and_parts (eqb (marks_of w xs) e) _ (implied (same_ratio w e h xs) (is_this w e h zs xs) tried passes) in
      let q = and_parts (eqb (hops_of w xs) h) (same_list xs zs) p.1 in
      (sym r.marks ∙ eqb-true (marks_of w xs) e p.0, sym r.hops ∙ eqb-true (hops_of w xs) h q.0, same_list_is xs zs q.1)

  -- Two least ratios have equal quotients. Where both have rings, the test has tried the second one's. Where one has none its e is 0,
  -- and so is that of the other.
  pub only_by_test : (f k : ℕ) (xs : List ℕ) → LeastRatio w f k xs → Same f k xs
  only_by_test f k xs b = go a.shown b.shown (equal_ratios w e h f k zs xs a b)
    where
      go : Shows w e h zs → Shows w f k xs → e * k ≡ f * h → Same f k xs
      go x (inr r) same = by_ring f k xs r same
      go (inl p) (inl q) same = (q.marks ∙ sym p.marks, q.hops ∙ sym p.hops, q.empty ∙ sym p.empty)
      go (inr r) (inl q) same =
          let some : 1 ≤ e = r.some in
          let none : e * 1 ≡ 0 * h = subst₂ (λ (x y : ℕ). e * y ≡ x * h) q.marks q.hops same in
          absurd (omega arith)
