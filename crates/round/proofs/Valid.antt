-- What a finding has of a drawn view meets the rules of the form. Assumes nothing.
use Rattle.std.proofs.Common.{◌≡◌, ℕ, zero, suc, ◌<◌, ◌≤◌, Bool, true, false, ◌&&◌, List, ◌++◌, length, eqb, ltb, leb, get_or, ℤ, nat_abs, ◌⊎◌, inl, inr, refl, sym, ◌∙◌, subst, arith, append_assoc}
use Rattle.std.proofs.lemmas.List.{append-nil}
use Rattle.std.proofs.lemmas.Bool.{lt-ltb, le-leb, eq-eqb, or_left, or_right, and_from}
use Rattle.model.specs.Views.{View}
use Rattle.form.specs.Contents.{listed}
use Rattle.form.specs.Reading.{above, later, any, not_before}
use Rattle.form.specs.Laid.{Chain, RecordNumber, NumberFrom, Word, PairFrom, Valid}
use Rattle.form.specs.Sections.{one_if, records_below, marks_from, marks_below, depths_below, finding}
use Rattle.form.proofs.Chains.{behind, behind_none, behind_more, chain_more, chain_each}
use Rattle.form.proofs.Lookups.{listed_below}
use Rattle.form.proofs.Lengths.{marks_few}
use Rattle.form.proofs.Listing.{depths_long}
use Rattle.reading.specs.Told.{Drawn}

-- ---- records: those below n rise to n at most
record Risen (n : ℕ) (rs : List ℕ) : Type 0 where
  chain : Chain NumberFrom above 0 rs
  low : behind NumberFrom above 0 rs ≤ n

risen_one : (b : Bool) (n : ℕ) (rs : List ℕ) → n < 64 → Risen n rs → Risen (suc n) (rs ++ one_if b n)
risen_one true n rs l r = record {
  chain = chain_more NumberFrom above 0 rs n r.chain (r.low, omega arith);
  low = omega (arith, behind_more NumberFrom above 0 rs n);
}
risen_one false n rs l r = subst (λ (xs : List ℕ). Risen (suc n) xs) (sym (append-nil rs)) (record { chain = r.chain; low = omega (arith, r.low) })

risen : (w : View) (n : ℕ) → n ≤ 64 → Risen n (records_below w n)
unfolding records_below
risen w zero l = record { chain = tt; low = omega (arith, behind_none NumberFrom above 0) }
risen w (suc n) l = risen_one (w.stands n) n (records_below w n) (omega arith) (risen w n (omega arith))

-- ---- marks: those from below u, and from u to below n, come before the pair u, n
Before : (ℕ × ℕ) → ℕ → ℕ → Type 0
Before p u n = (p.0 < u) ⊎ ((p.0 ≡ u) × (p.1 ≤ n))

in_order : (p : ℕ × ℕ) (u n : ℕ) → Before p u n → not_before p.0 p.1 u n ≡ true
unfolding Before
in_order p u n (inl l) = or_left (ltb p.0 u) (eqb p.0 u && leb p.1 n) (lt-ltb p.0 u l)
in_order p u n (inr s) = or_right (ltb p.0 u) (eqb p.0 u && leb p.1 n) (and_from (eqb p.0 u) (leb p.1 n) (eq-eqb p.0 u s.0) (le-leb p.1 n s.1))

module _ (w : View) (drawn : Drawn w) where
  rs : List ℕ
  rs = records_below w 64

  is_listed : (u : ℕ) → w.stands u ≡ true → listed rs u ≡ true
  unfolding rs
  is_listed u s = listed_below w 64 u ∙ and_from (ltb u 64) (w.stands u) (lt-ltb u 64 (drawn.below u s)) s

  record Paired (u n : ℕ) (ms : List (ℕ × ℕ)) : Type 0 where
    chain : Chain (PairFrom rs) later (0, 0) ms
    last : Before (behind (PairFrom rs) later (0, 0) ms) u n

  -- One pair more: it comes after every pair from below u, and after those from u to below n; and the view is drawn, so it joins
  -- two different records.
  paired_one : (b : Bool) (u n : ℕ) (ms : List (ℕ × ℕ)) → w.marked u n ≡ b → Paired u n ms → Paired u (suc n) (ms ++ one_if b (u, n))
  unfolding Before
  paired_one true u n ms m p = record {
    chain = chain_more (PairFrom rs) later (0, 0) ms (u, n) p.chain (record {
      from_record = is_listed u (drawn.from u n m);
      to_record = is_listed n (drawn.to u n m);
      apart = drawn.apart u n m;
      order = in_order (behind (PairFrom rs) later (0, 0) ms) u n p.last;
    });
    last = subst (λ (s : ℕ × ℕ). Before s u (suc n)) (sym (behind_more (PairFrom rs) later (0, 0) ms (u, n))) (inr (refl, omega arith));
  }
  paired_one false u n ms m p = subst (λ (xs : List (ℕ × ℕ)). Paired u (suc n) xs) (sym (append-nil ms)) (record { chain = p.chain; last = on p.last })
    where
      on : Before (behind (PairFrom rs) later (0, 0) ms) u n → Before (behind (PairFrom rs) later (0, 0) ms) u (suc n)
      on (inl l) = inl l
      on (inr s) = inr (s.0, omega (arith, s.1))

  paired_from : (u n : ℕ) (ms : List (ℕ × ℕ)) → Paired u 0 ms → Paired u n (ms ++ marks_from w u n)
  unfolding marks_from
  paired_from u zero ms p = subst (λ (xs : List (ℕ × ℕ)). Paired u 0 xs) (sym (append-nil ms)) p
  paired_from u (suc n) ms p =
      subst (λ (xs : List (ℕ × ℕ)). Paired u (suc n) xs) (append_assoc ms (marks_from w u n) (one_if (w.marked u n) (u, n)))
      (paired_one (w.marked u n) u n (ms ++ marks_from w u n) refl (paired_from u n ms p))

  paired_below : (n : ℕ) → Paired n 0 (marks_below w n)
  unfolding marks_below Before
  paired_below zero = record { chain = tt; last = subst (λ (s : ℕ × ℕ). Before s 0 0) (sym (behind_none (PairFrom rs) later (0, 0))) (inr (refl, omega arith)) }
  paired_below (suc n) =
      let p = paired_from n 64 (marks_below w n) (paired_below n) in
      record { chain = p.chain; last = on p.last }
    where
      on : Before (behind (PairFrom rs) later (0, 0) (marks_below w n ++ marks_from w n 64)) n 64
          → Before (behind (PairFrom rs) later (0, 0) (marks_below w n ++ marks_from w n 64)) (suc n) 0
      on (inl l) = inl (omega arith)
      on (inr s) = inl (omega (arith, s.0))

  -- ---- depths: each fits two bytes where the grades of what stands do
  depths_fit : (g : ℕ → ℤ) → ((u : ℕ) → u < 64 → w.stands u ≡ true → nat_abs (g u) < 65536) → (n : ℕ) → n ≤ 64 → Chain Word any 0 (depths_below w g n)
  unfolding depths_below
  depths_fit g fits zero l = tt
  depths_fit g fits (suc n) l = one (depths_fit g fits n (omega arith)) (w.stands n) refl
    where
      one : Chain Word any 0 (depths_below w g n) → (b : Bool) → w.stands n ≡ b → Chain Word any 0 (depths_below w g n ++ one_if b (nat_abs (g n)))
      one before true s = chain_more Word any 0 (depths_below w g n) (nat_abs (g n)) before (fits n (omega arith) s)
      one before false s = subst (λ (xs : List ℕ). Chain Word any 0 xs) (sym (append-nil (depths_below w g n))) before

  pub valid : (g : ℕ → ℤ) (xs : List ℕ) → ((u : ℕ) → u < 64 → w.stands u ≡ true → nat_abs (g u) < 65536)
      → length xs < 256 → ((i : ℕ) → i < length xs → get_or xs i 0 < 64) → Valid (finding w g xs)
  unfolding rs
  valid g xs fits short low = record {
    records = (risen w 64 (omega arith)).chain;
    marks = (paired_below 64).chain;
    mark_count = omega (arith, marks_few w 64);
    depth_count = depths_long w g 64;
    depths = depths_fit g fits 64 (omega arith);
    ring = chain_each RecordNumber any 0 xs (λ t i l. omega (arith, low i l));
    ring_count = short;
  }
