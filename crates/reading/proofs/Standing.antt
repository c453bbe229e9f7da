-- From what the sections give to the whole: where it stops, and the contents that a claim stands for. Assumes nothing.
use Rattle.std.proofs.Common.{◌≡◌, ℕ, ◌<◌, ◌≤◌, Bool, true, false, cond, ◌&&◌, List, length, ltb, get_or, pos, neg_ℤ, ◌⊎◌, inl, inr, refl, sym, ap, ap₂, ◌∙◌}
use mathlib.Core.Path.{fun_ext}
use Rattle.std.proofs.lemmas.Bool.{cases_lt, lt-ltb, le-ltb}
use Rattle.model.specs.Sets.{has}
use Rattle.model.proofs.Digits.{has_beyond}
use Rattle.form.specs.Got.{Got, got, stop}
use Rattle.form.specs.Contents.{listed, paired, beside}
use Rattle.form.specs.Reading.{records_part, marks_part, depths_part, ring_part, ended, contents, release}
use Rattle.form.specs.Sections.{records_below}
use Rattle.form.proofs.Steps.{then_is, then_stop}
use Rattle.form.proofs.Back.{whole}
use Rattle.form.proofs.Lookups.{listed_below, beside_below}
use Rattle.reading.specs.declared.claim.Claim.{Claim}
use Rattle.reading.specs.Told.{told_by}
use Rattle.reading.specs.Claims.{row_marks, grade_of, claimed, of_set, IsSet, AreRows, ArePlaces, IsRing, StandsFor}
use Rattle.reading.proofs.Places.{depth_abs}

-- no bit above 63
below_only : (set u : ℕ) → (ltb u 64 && has set u) ≡ has set u
below_only set u = go (cases_lt u 64)
  where
    go : (u < 64) ⊎ (64 ≤ u) → (ltb u 64 && has set u) ≡ has set u
    go (inl l) = rw (lt-ltb u 64 l) refl
    go (inr l) = rw (le-ltb u 64 l) (sym (has_beyond set u l))

-- the set has just what is listed
pub set_listed : (rs : List ℕ) (set : ℕ) → IsSet rs set → listed rs ≡ has set
set_listed rs set is = fun_ext (λ u. ap (λ xs. listed xs u) is ∙ listed_below (of_set set) 64 u ∙ below_only set u)

-- the depth beside a record is the one at its place
beside_place : (rs ds depths : List ℕ) (set : ℕ) → IsSet rs set → ArePlaces set ds depths → (u : ℕ) → beside rs ds u ≡ get_or depths u 0
beside_place rs ds depths set is places u =
    ap₂ (λ (xs ys : List ℕ). beside xs ys u) is places.listed
    ∙ beside_below (of_set set) (grade_of depths) 64 u
    ∙ ap₂ (λ (b : Bool) (n : ℕ). cond b n 0) (below_only set u) (depth_abs (get_or depths u 0))
    ∙ go (has set u) (places.others u)
  where
    go : (b : Bool) → (b ≡ false → get_or depths u 0 ≡ 0) → cond b (get_or depths u 0) 0 ≡ get_or depths u 0
    go true none = refl
    go false none = sym (none refl)

-- the claim of what the sections gave stands for their contents
pub stands : (rs : List ℕ) (ms : List (ℕ × ℕ)) (ds ks : List ℕ) (claim : Claim)
    → IsSet rs claim.records → AreRows claim.records ms claim.marks → ArePlaces claim.records ds claim.depths → IsRing ks claim.ring → StandsFor (contents rs ms ds ks) claim
stands rs ms ds ks claim is rows places ring = record { tells = tells; drawn = rows.drawn }
  where
    records : has claim.records ≡ listed rs
    records = sym (set_listed rs claim.records is)

    marks : row_marks claim.marks ≡ paired ms
    marks = sym rows.paired

    grades : grade_of claim.depths ≡ (λ u. neg_ℤ (pos (beside rs ds u)))
    grades = fun_ext (λ u. ap (λ n. neg_ℤ (pos n)) (sym (beside_place rs ds claim.depths claim.records is places u)))

    numbers : claim.ring.items ≡ ks
    numbers = sym ring

    tells : (e h : ℕ) → claimed claim e h ≡ told_by (contents rs ms ds ks) e h
    tells e h i = record { view = record { stands = records i; marked = marks i }; grade = grades i; ring = numbers i; marks = e; hops = h }

-- The code has the set where the form has the list of the records. The two tests are the same, so each section of the form is the one
-- that the code read; and the form is read on from there.
module _ (bs r1 rs : List ℕ) (set : ℕ) (e1 : records_part bs ≡ got rs r1) (is : IsSet rs set) where
  marks_here : (g : Got (List (ℕ × ℕ))) → marks_part (has set) r1 ≡ g → marks_part (listed rs) r1 ≡ g
  marks_here g e = ap (λ (h : ℕ → Bool). marks_part h r1) (set_listed rs set is) ∙ e

  depths_here : (r : List ℕ) (g : Got (List ℕ)) → depths_part (length (records_below (of_set set) 64)) r ≡ g → depths_part (length rs) r ≡ g
  depths_here r g e = ap (λ xs. depths_part (length xs) r) is ∙ e

  pub stop_marks : (k : ℕ) → marks_part (has set) r1 ≡ stop k → release bs ≡ stop k
  stop_marks k e = then_is (records_part bs) _ rs r1 e1 ∙ then_stop (marks_part (listed rs) r1) _ k (marks_here _ e)

  module _ (ms : List (ℕ × ℕ)) (r2 : List ℕ) (e2 : marks_part (has set) r1 ≡ got ms r2) where
    pub stop_depths : (k : ℕ) → depths_part (length (records_below (of_set set) 64)) r2 ≡ stop k → release bs ≡ stop k
    stop_depths k e =
        then_is (records_part bs) _ rs r1 e1 ∙ then_is (marks_part (listed rs) r1) _ ms r2 (marks_here _ e2)
        ∙ then_stop (depths_part (length rs) r2) _ k (depths_here r2 _ e)

    module _ (ds r3 : List ℕ) (e3 : depths_part (length (records_below (of_set set) 64)) r2 ≡ got ds r3) where
      pub stop_ring : (k : ℕ) → ring_part r3 ≡ stop k → release bs ≡ stop k
      stop_ring k e =
          then_is (records_part bs) _ rs r1 e1 ∙ then_is (marks_part (listed rs) r1) _ ms r2 (marks_here _ e2)
          ∙ then_is (depths_part (length rs) r2) _ ds r3 (depths_here r2 _ e3) ∙ then_stop (ring_part r3) _ k e

      pub whole_of : (ks r4 : List ℕ) → ring_part r3 ≡ got ks r4 → release bs ≡ ended (contents rs ms ds ks) r4
      whole_of ks r4 e = whole bs rs r1 ms r2 ds r3 ks r4 e1 (marks_here _ e2) (depths_here r2 _ e3) e
