-- What is laid out by the rules is read back. Assumes nothing.
use Rattle.std.proofs.Common.{◌≡◌, ℕ, ◌+◌, ◌*◌, ◌/◌, ◌%◌, true, not, ◌&&◌, List, [], ◌∷◌, ◌++◌, length, eqb, leb, refl, ap, ◌∙◌, arith}
use Rattle.std.proofs.lemmas.Bool.{and_from, le-leb, eq-eqb, ne_eqb, not_from_false, cond-true}
use Rattle.std.proofs.lemmas.List.{append_assoc}
use Rattle.std.specs.List.{flat_map}
use Rattle.form.specs.Got.{Got, got, stop, front, many}
use Rattle.form.specs.Contents.{Contents, listed}
use Rattle.form.specs.Reading.{two_bytes, number, number_from, pair_from, fits, not_before, above, later, any, rising_pairs, words, records_part, marks_part, depths_part, ring_part, ended, contents, release}
use Rattle.form.specs.Laid.{alone, of_pair, of_two, laid_out, Chain, RecordNumber, NumberFrom, Word, PairFrom, Valid}
use Rattle.form.proofs.Steps.{many_more, many_none, then_is}

-- If each good item is read back from its bytes, then so is a chain of them: by induction on the items.
module _ {S A : Type 0} (item : S → List ℕ → Got A) (next : S → A → S) (bytes : A → List ℕ) (Good : S → A → Type 0) where
  pub many_back : ((s : S) (a : A) (r : List ℕ) → Good s a → item s (bytes a ++ r) ≡ got a r) → (s : S) (xs : List A) (r : List ℕ)
      → Chain Good next s xs → many item next (length xs) s (flat_map bytes xs ++ r) ≡ got xs r
  many_back law s [] r h = many_none item next 0 s r refl
  many_back law s (x ∷ xs) r h =
      ap (many item next (length (x ∷ xs)) s) (append_assoc (bytes x) (flat_map bytes xs) r)
      ∙ many_more item next (length xs) (length (x ∷ xs)) s (bytes x ++ (flat_map bytes xs ++ r)) x (flat_map bytes xs ++ r) refl (law s x (flat_map bytes xs ++ r) h.0)
      ∙ ap (front (x ∷ [])) (many_back law (next s x) xs r h.1)

-- the items one by one
low_and_high : (d : ℕ) → d % 256 + 256 * (d / 256) ≡ d
low_and_high d = omega arith

number_back : (s a : ℕ) (r : List ℕ) → RecordNumber s a → number (alone a ++ r) ≡ got a r
number_back s a r h = cond-true (leb a 63) (got a r) (stop 15) (le-leb a 63 h)

number_from_back : (s a : ℕ) (r : List ℕ) → NumberFrom s a → number_from s (alone a ++ r) ≡ got a r
number_from_back s a r h = cond-true (leb s a && leb a 63) (got a r) (stop 15) (and_from (leb s a) (leb a 63) (le-leb s a h.0) (le-leb a 63 h.1))

word_back : (s d : ℕ) (r : List ℕ) → Word s d → two_bytes (of_two d ++ r) ≡ got d r
word_back s d r h = ap (λ w. got w r) (low_and_high d)

pair_fits : (rs : List ℕ) (s p : ℕ × ℕ) → PairFrom rs s p → fits (listed rs) s.0 s.1 p.0 p.1 ≡ true
pair_fits rs s p h =
    and_from (listed rs p.0 && (listed rs p.1 && not (eqb p.0 p.1))) (not_before s.0 s.1 p.0 p.1)
    (and_from (listed rs p.0) (listed rs p.1 && not (eqb p.0 p.1)) h.from_record
    (and_from (listed rs p.1) (not (eqb p.0 p.1)) h.to_record (not_from_false (eqb p.0 p.1) (ne_eqb p.0 p.1 h.apart))))
    h.order

pair_back : (rs : List ℕ) (s p : ℕ × ℕ) (r : List ℕ) → PairFrom rs s p → pair_from (listed rs) s (of_pair p ++ r) ≡ got p r
pair_back rs s p r h = cond-true (fits (listed rs) s.0 s.1 p.0 p.1) (got (p.0, p.1) r) (stop 15) (pair_fits rs s p h)

-- the sections
records_back : (rs r : List ℕ) → Chain NumberFrom above 0 rs → records_part (length rs ∷ (flat_map alone rs ++ r)) ≡ got rs r
records_back rs r h = many_back number_from above alone NumberFrom number_from_back 0 rs r h

marks_back : (rs : List ℕ) (ms : List (ℕ × ℕ)) (r : List ℕ) → Chain (PairFrom rs) later (0, 0) ms
    → marks_part (listed rs) (of_two (length ms) ++ (flat_map of_pair ms ++ r)) ≡ got ms r
marks_back rs ms r h =
    ap (λ n. rising_pairs (listed rs) n (flat_map of_pair ms ++ r)) (low_and_high (length ms))
    ∙ many_back (pair_from (listed rs)) later of_pair (PairFrom rs) (pair_back rs) (0, 0) ms r h

depths_back : (k : ℕ) (ds r : List ℕ) → length ds ≡ k → Chain Word any 0 ds → depths_part k (length ds ∷ (flat_map of_two ds ++ r)) ≡ got ds r
depths_back k ds r e h =
    cond-true (eqb (length ds) k) (words (length ds) (flat_map of_two ds ++ r)) (stop 15) (eq-eqb (length ds) k e)
    ∙ many_back {S = ℕ} (λ _. two_bytes) any of_two Word word_back 0 ds r h

ring_back : (ks r : List ℕ) → Chain RecordNumber any 0 ks → ring_part (length ks ∷ (flat_map alone ks ++ r)) ≡ got ks r
ring_back ks r h = many_back {S = ℕ} (λ _. number) any alone RecordNumber number_back 0 ks r h

-- the whole from its sections
pub whole : (bs rs r1 : List ℕ) (ms : List (ℕ × ℕ)) (r2 ds r3 ks r4 : List ℕ) → records_part bs ≡ got rs r1 → marks_part (listed rs) r1 ≡ got ms r2
    → depths_part (length rs) r2 ≡ got ds r3 → ring_part r3 ≡ got ks r4 → release bs ≡ ended (contents rs ms ds ks) r4
whole bs rs r1 ms r2 ds r3 ks r4 h1 h2 h3 h4 =
    then_is (records_part bs) _ rs r1 h1 ∙ then_is (marks_part (listed rs) r1) _ ms r2 h2 ∙ then_is (depths_part (length rs) r2) _ ds r3 h3 ∙ then_is (ring_part r3) _ ks r4 h4

pub reads_back : (c : Contents) → Valid c → release (laid_out c) ≡ got c []
reads_back c v =
    whole (laid_out c) c.records _ c.marks _ c.depths _ c.ring []
    (records_back c.records _ v.records)
    (marks_back c.records c.marks _ v.marks)
    (depths_back (length c.records) c.depths _ v.depth_count v.depths)
    (ring_back c.ring [] v.ring)
