-- Depths put at the places of the records one after another. Assumes nothing.
use Rattle.std.proofs.Common.{◌≡◌, ℕ, zero, suc, ◌+◌, ◌-◌, ◌^◌, ◌<◌, ◌≤◌, ◌≢◌, Bool, true, false, cond, eqb, List, [], ◌∷◌, ◌++◌, length, get_or, replicate, slice_set, ℤ, pos, neg_ℤ, nat_abs, refl, sym, ap, ap₂, ◌∙◌, arith, get_or-set_same, get_or-set_other}
use Rattle.std.proofs.lemmas.List.{append-nil}
use Rattle.model.specs.Rings.{bit}
use Rattle.model.specs.Sets.{has}
use Rattle.model.specs.Views.{View}
use Rattle.form.specs.Got.{got, stop, then}
use Rattle.form.specs.Reading.{words, depths_part}
use Rattle.reading.specs.Giving.{byte_of}
use Rattle.form.specs.Sections.{one_if, records_below, depths_below}
use Rattle.form.proofs.Listing.{records_count, depths_next}
use Rattle.reading.specs.Claims.{of_set, grade_of, ArePlaces}
use Rattle.reading.proofs.Rows.{zeros}
use Rattle.reading.proofs.Sets.{count_is}
use lib.Count.{ones}

-- the depths below n are told by the grades below n
depths_same : (w : View) (g h : ℕ → ℤ) (n : ℕ) → ((u : ℕ) → u < n → g u ≡ h u) → depths_below w g n ≡ depths_below w h n
unfolding depths_below
depths_same w g h zero same = refl
depths_same w g h (suc n) same =
    ap₂ (λ (ds : List ℕ) (z : ℤ). ds ++ one_if (w.stands n) (nat_abs z)) (depths_same w g h n (λ u l. same u (omega arith))) (same n (omega arith))

pub depth_abs : (d : ℕ) → nat_abs (neg_ℤ (pos d)) ≡ d
depth_abs zero = refl
depth_abs (suc d) = refl

-- the depths so far are those of the records below u, and every other place has 0
pub record Placed (set u : ℕ) (depths ds : List ℕ) : Type 0 where
  pub listed : ds ≡ depths_below (of_set set) (grade_of depths) u
  pub later : (v : ℕ) → u ≤ v → get_or depths v 0 ≡ 0
  pub others : (v : ℕ) → has set v ≡ false → get_or depths v 0 ≡ 0

pub placed_none : (set : ℕ) → Placed set 0 (replicate 64 0) []
unfolding depths_below
placed_none set = record { listed = refl; later = λ v _. zeros v; others = λ v _. zeros v }

-- The depth of the record u, put at its place: no other place changes, so the depths of the records below u are as they were, and
-- this one comes behind them.
pub placed_with : (set u d : ℕ) (depths ds : List ℕ) → has set u ≡ true → u < length depths → Placed set u depths ds
    → Placed set (u + 1) (slice_set depths u d) (ds ++ d ∷ [])
placed_with set u d depths ds in_set l p =
    let w = of_set set in
    let after = slice_set depths u d in
    let other : (v : ℕ) → v ≢ u → get_or after v 0 ≡ get_or depths v 0 = λ v ne. get_or-set_other depths u v d 0 ne in
    let here : get_or after u 0 ≡ d = get_or-set_same depths u d 0 l in
    record {
      listed =
          ap (λ (xs : List ℕ). xs ++ d ∷ []) (p.listed ∙ depths_same w (grade_of depths) (grade_of after) u (λ v k. ap (λ n. neg_ℤ (pos n)) (sym (other v (omega arith)))))
          ∙ ap (λ n. depths_below w (grade_of after) u ++ n ∷ []) (sym (depth_abs d) ∙ ap (λ n. nat_abs (neg_ℤ (pos n))) (sym here))
          ∙ ap (λ b. depths_below w (grade_of after) u ++ one_if b (nat_abs (grade_of after u))) (sym in_set)
          ∙ sym (depths_next w (grade_of after) u);
      later = λ v k. other v (omega arith) ∙ p.later v (omega arith);
      others = λ v out. other v (λ e. clash (ap (has set) e ∙ in_set) out) ∙ p.others v out;
    }
  where
    clash : {b : Bool} → b ≡ true → b ≡ false → ⊥
    clash a b = cc

pub placed_without : (set u : ℕ) (depths ds : List ℕ) → has set u ≡ false → Placed set u depths ds → Placed set (u + 1) depths ds
placed_without set u depths ds out p =
    let w = of_set set in
    record {
      listed =
          p.listed
          ∙ sym (append-nil (depths_below w (grade_of depths) u))
          ∙ ap (λ b. depths_below w (grade_of depths) u ++ one_if b (nat_abs (grade_of depths u))) (sym out)
          ∙ sym (depths_next w (grade_of depths) u);
      later = λ v k. p.later v (omega arith);
      others = p.others;
    }

pub placed_all : (set : ℕ) (depths ds : List ℕ) → Placed set 64 depths ds → ArePlaces set ds depths
placed_all set depths ds p = record { listed = p.listed; others = p.others }

-- how many records are left to read from u on: none after the last number, and one less after a record
records_grow : (w : View) (n k : ℕ) → length (records_below w n) ≤ length (records_below w (n + k))
records_grow w n zero = let e : n + 0 ≡ n = omega arith in omega (arith, ap (λ m. length (records_below w m)) e)
records_grow w n (suc k) =
    let e : n + suc k ≡ n + k + 1 = omega arith in
    omega (arith, ap (λ m. length (records_below w m)) e, records_grow w n k, records_count w (n + k))

abbrev pub left_from : ℕ → ℕ → ℕ
left_from set u = length (records_below (of_set set) 64) - length (records_below (of_set set) u)

-- a record below 64 is one of all, so one at least is left to read
pub left_less : (set u : ℕ) → u < 64 → has set u ≡ true → left_from set u ≡ suc (left_from set (u + 1))
left_less set u l in_set =
    let w = of_set set in
    let e : (u + 1) + (64 - (u + 1)) ≡ 64 = omega arith in
    omega (arith, records_count w u, ap bit in_set, records_grow w (u + 1) (64 - (u + 1)), ap (λ m. length (records_below w m)) e)

pub left_same : (set u : ℕ) → has set u ≡ false → left_from set u ≡ left_from set (u + 1)
left_same set u out = omega (arith, records_count (of_set set) u, ap bit out)

pub left_none : (set : ℕ) → left_from set 64 ≡ 0
left_none set = omega arith

pub left_all : (set n : ℕ) → set < 2 ^ 64 → n ≡ ones set → n ≡ left_from set 0
unfolding records_below
left_all set n l e = omega (arith, count_is set l)

-- the depths after their count
pub depths_by : (k : ℕ) (bs : List ℕ) → depths_part k bs ≡ then (byte_of k bs) (λ n r. words n r)
depths_by k [] = refl
depths_by k (b ∷ bs) = go (eqb b k)
  where
    go : (t : Bool) → cond t (words b bs) (stop 15) ≡ then (cond t (got b bs) (stop 15)) (λ n r. words n r)
    go true = refl
    go false = refl
