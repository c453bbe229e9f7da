-- Only what is laid out by the rules is read. Assumes nothing.
use Rattle.std.proofs.Common.{◌≡◌, ℕ, zero, suc, ◌+◌, ◌*◌, ◌/◌, ◌%◌, ◌<◌, Bool, true, false, cond, not, ◌&&◌, List, [], ◌∷◌, ◌++◌, length, eqb, leb, sym, refl, ap, ◌∙◌, subst, arith}
use Rattle.std.proofs.lemmas.Bool.{and_parts, leb-true, eqb-true, eqb-false, not-true}
use Rattle.std.proofs.lemmas.List.{append_assoc}
use Rattle.std.specs.List.{flat_map}
use Rattle.form.specs.Got.{Got, got, stop, then, front, many}
use Rattle.form.specs.Contents.{Contents, listed}
use Rattle.form.specs.Reading.{byte, two_bytes, number, number_from, pair_from, fits, not_before, above, later, any, rising, rising_pairs, words, numbers, records_part, marks_part, depths_part, ring_part, ended, contents, release}
use Rattle.form.specs.Laid.{alone, of_pair, of_two, laid_out, Chain, RecordNumber, NumberFrom, Word, PairFrom, Valid}
use Rattle.form.specs.Statements.{Bytes}
use Rattle.form.proofs.Steps.{then_got, front_got}

-- n items that are read lie at the front, each in its bytes
record Lie {S A : Type 0} (next : S → A → S) (bytes : A → List ℕ) (Good : S → A → Type 0) (n : ℕ) (s : S) (bs : List ℕ) (xs : List A) (r : List ℕ) : Type 0 where
  laid : bs ≡ flat_map bytes xs ++ r
  chain : Chain Good next s xs
  long : length xs ≡ n
  rest : Bytes r

-- If each item that is read lies at the front in its bytes and is good, then n of them lie there as a chain: by induction on n.
module _ {S A : Type 0} (item : S → List ℕ → Got A) (next : S → A → S) (bytes : A → List ℕ) (Good : S → A → Type 0) where
  many_only : ((s : S) (bs : List ℕ) (a : A) (r : List ℕ) → Bytes bs → item s bs ≡ got a r → (bs ≡ bytes a ++ r) × Good s a × Bytes r)
      → (n : ℕ) (s : S) (bs : List ℕ) (xs : List A) (r : List ℕ) → Bytes bs → many item next n s bs ≡ got xs r → Lie next bytes Good n s bs xs r
  unfolding many
  many_only law zero s bs xs r p e =
      let x : [] ≡ xs = cc in
      let y : bs ≡ r = cc in
      subst (λ (w : List A). Lie next bytes Good 0 s bs w r) x (record { laid = y; chain = tt; long = refl; rest = subst Bytes y p })
  many_only law (suc n) s bs xs r p e =
      let t = then_got (item s bs) (λ a q. front (a ∷ []) (many item next n (next s a) q)) xs r e in
      let f = front_got (t.value ∷ []) (many item next n (next s t.value) t.rest) xs r t.on in
      let i = law s bs t.value t.rest p t.was in
      let b = many_only law n (next s t.value) t.rest f.value r i.2 f.was in
      subst (λ (w : List A). Lie next bytes Good (suc n) s bs w r) f.whole
      (record {
        laid = i.0 ∙ ap (λ w. bytes t.value ++ w) b.laid ∙ sym (append_assoc (bytes t.value) (flat_map bytes f.value) r);
        chain = (i.1, b.chain);
        long = ap suc b.long;
        rest = b.rest;
      })

-- a byte, a test that was passed
byte_got : (bs : List ℕ) (b : ℕ) (r : List ℕ) → byte bs ≡ got b r → bs ≡ b ∷ r
byte_got [] b r e = cc
byte_got (x ∷ xs) b r e = cc

record Passed {A : Type 0} (t : Bool) (g : Got A) (b : A) (q : List ℕ) : Type 0 where
  test : t ≡ true
  was : g ≡ got b q

cond_got : {A : Type 0} (t : Bool) (g : Got A) (b : A) (q : List ℕ) (k : ℕ) → cond t g (stop k) ≡ got b q → Passed t g b q
cond_got true g b q k e = record { test = refl; was = e }
cond_got false g b q k e = cc

tail_bytes : (bs : List ℕ) (b : ℕ) (r : List ℕ) → bs ≡ b ∷ r → Bytes bs → Bytes r
tail_bytes bs b r e p i = subst Bytes e p (suc i)

head_byte : (bs : List ℕ) (b : ℕ) (r : List ℕ) → bs ≡ b ∷ r → Bytes bs → b < 256
head_byte bs b r e p = subst Bytes e p 0

-- the items one by one
number_only : (s : ℕ) (bs : List ℕ) (a : ℕ) (r : List ℕ) → Bytes bs → number bs ≡ got a r → (bs ≡ alone a ++ r) × RecordNumber s a × Bytes r
number_only s bs a r p e =
    let t = then_got (byte bs) (λ b q. cond (leb b 63) (got b q) (stop 15)) a r e in
    let c = cond_got (leb t.value 63) (got t.value t.rest) a r 15 t.on in
    let y = byte_got bs t.value t.rest t.was in
    let high = leb-true t.value 63 c.test in
    let va : t.value ≡ a = cc (c.was) in
    let ra : t.rest ≡ r = cc (c.was) in
    let w : bs ≡ alone a ++ r = cc (y, va, ra) in
    (w, omega arith, tail_bytes bs a r w p)

number_from_only : (s : ℕ) (bs : List ℕ) (a : ℕ) (r : List ℕ) → Bytes bs → number_from s bs ≡ got a r → (bs ≡ alone a ++ r) × NumberFrom s a × Bytes r
number_from_only s bs a r p e =
    let t = then_got (byte bs) (λ b q. cond (leb s b && leb b 63) (got b q) (stop 15)) a r e in
    let c = cond_got (leb s t.value && leb t.value 63) (got t.value t.rest) a r 15 t.on in
    let y = byte_got bs t.value t.rest t.was in
    let l = and_parts (leb s t.value) (leb t.value 63) c.test in
    let low = leb-true s t.value l.0 in
    let high = leb-true t.value 63 l.1 in
    let va : t.value ≡ a = cc (c.was) in
    let ra : t.rest ≡ r = cc (c.was) in
    let w : bs ≡ alone a ++ r = cc (y, va, ra) in
    (w, (omega arith, omega arith), tail_bytes bs a r w p)

halves : (low high d : ℕ) → low < 256 → high < 256 → low + 256 * high ≡ d → (low ≡ d % 256) × (high ≡ d / 256) × (d < 65536)
halves low high d l h e = (omega arith, omega arith, omega arith)

word_only : (s : ℕ) (bs : List ℕ) (d : ℕ) (r : List ℕ) → Bytes bs → two_bytes bs ≡ got d r → (bs ≡ of_two d ++ r) × Word s d × Bytes r
word_only s bs d r p e =
    let t = then_got (byte bs) (λ low q. then (byte q) (λ high o. got (low + 256 * high) o)) d r e in
    let u = then_got (byte t.rest) (λ high o. got (t.value + 256 * high) o) d r t.on in
    let x = byte_got bs t.value t.rest t.was in
    let y = byte_got t.rest u.value u.rest u.was in
    let v : t.value + 256 * u.value ≡ d = cc (u.on) in
    let q : u.rest ≡ r = cc (u.on) in
    let p1 = tail_bytes bs t.value t.rest x p in
    let n = halves t.value u.value d (head_byte bs t.value t.rest x p) (head_byte t.rest u.value u.rest y p1) v in
    (cc (x, y, q, n.0, n.1), n.2, subst Bytes q (tail_bytes t.rest u.value u.rest y p1))

fits_pair : (rs : List ℕ) (s : ℕ × ℕ) (u v : ℕ) → fits (listed rs) s.0 s.1 u v ≡ true → PairFrom rs s (u, v)
fits_pair rs s u v e =
    let a = and_parts (listed rs u && (listed rs v && not (eqb u v))) (not_before s.0 s.1 u v) e in
    let b = and_parts (listed rs u) (listed rs v && not (eqb u v)) a.0 in
    let c = and_parts (listed rs v) (not (eqb u v)) b.1 in
    record { from_record = b.0; to_record = c.0; apart = eqb-false u v (not-true (eqb u v) c.1); order = a.1 }

pair_only : (rs : List ℕ) (s : ℕ × ℕ) (bs : List ℕ) (a : ℕ × ℕ) (r : List ℕ) → Bytes bs → pair_from (listed rs) s bs ≡ got a r
    → (bs ≡ of_pair a ++ r) × PairFrom rs s a × Bytes r
pair_only rs s bs a r p e =
    let t = then_got (byte bs) (λ u o. then (byte o) (λ v q. cond (fits (listed rs) s.0 s.1 u v) (got (u, v) q) (stop 15))) a r e in
    let u = then_got (byte t.rest) (λ v q. cond (fits (listed rs) s.0 s.1 t.value v) (got (t.value, v) q) (stop 15)) a r t.on in
    let c = cond_got (fits (listed rs) s.0 s.1 t.value u.value) (got (t.value, u.value) u.rest) a r 15 u.on in
    let x = byte_got bs t.value t.rest t.was in
    let y = byte_got t.rest u.value u.rest u.was in
    let va : ◌≡◌ {A = ℕ × ℕ} (t.value, u.value) a = cc (c.was) in
    let ra : u.rest ≡ r = cc (c.was) in
    let p1 = tail_bytes bs t.value t.rest x p in
    let w : bs ≡ t.value ∷ u.value ∷ u.rest = x ∙ ap (λ k. t.value ∷ k) y in (
      w ∙ ap (λ k. t.value ∷ u.value ∷ k) ra ∙ ap (λ (z : ℕ × ℕ). z.0 ∷ z.1 ∷ r) va,
      subst (PairFrom rs s) va (fits_pair rs s t.value u.value c.test),
      subst Bytes ra (tail_bytes t.rest u.value u.rest y p1),
    )

-- the sections
records_only : (bs rs r : List ℕ) → Bytes bs → records_part bs ≡ got rs r → (bs ≡ length rs ∷ (flat_map alone rs ++ r)) × Chain NumberFrom above 0 rs × Bytes r
records_only bs rs r p e =
    let t = then_got (byte bs) (λ n q. rising n q) rs r e in
    let y = byte_got bs t.value t.rest t.was in
    let m = many_only number_from above alone NumberFrom number_from_only t.value 0 t.rest rs r (tail_bytes bs t.value t.rest y p) t.on in
    (cc (y, m.laid, m.long), m.chain, m.rest)

marks_only : (rs bs : List ℕ) (ms : List (ℕ × ℕ)) (r : List ℕ) → Bytes bs → marks_part (listed rs) bs ≡ got ms r
    → (bs ≡ of_two (length ms) ++ (flat_map of_pair ms ++ r)) × Chain (PairFrom rs) later (0, 0) ms × (length ms < 65536) × Bytes r
marks_only rs bs ms r p e =
    let t = then_got (two_bytes bs) (λ n q. rising_pairs (listed rs) n q) ms r e in
    let y = word_only 0 bs t.value t.rest p t.was in
    let m = many_only (pair_from (listed rs)) later of_pair (PairFrom rs) (pair_only rs) t.value (0, 0) t.rest ms r y.2 t.on in
    let n : t.value ≡ length ms = sym m.long in
    let z = y.1 in
    (y.0 ∙ ap (λ k. of_two k ++ t.rest) n ∙ ap (λ k. of_two (length ms) ++ k) m.laid, m.chain, omega arith, m.rest)

depths_only : (k : ℕ) (bs ds r : List ℕ) → Bytes bs → depths_part k bs ≡ got ds r
    → (bs ≡ length ds ∷ (flat_map of_two ds ++ r)) × (length ds ≡ k) × Chain Word any 0 ds × Bytes r
depths_only k bs ds r p e =
    let t = then_got (byte bs) (λ n q. cond (eqb n k) (words n q) (stop 15)) ds r e in
    let y = byte_got bs t.value t.rest t.was in
    let c = cond_got (eqb t.value k) (words t.value t.rest) ds r 15 t.on in
    let q = eqb-true t.value k c.test in
    let m = many_only {S = ℕ} (λ _. two_bytes) any of_two Word word_only t.value 0 t.rest ds r (tail_bytes bs t.value t.rest y p) c.was in
    (cc (y, m.laid, m.long), cc (m.long, q), m.chain, m.rest)

ring_only : (bs ks r : List ℕ) → Bytes bs → ring_part bs ≡ got ks r
    → (bs ≡ length ks ∷ (flat_map alone ks ++ r)) × Chain RecordNumber any 0 ks × (length ks < 256) × Bytes r
ring_only bs ks r p e =
    let t = then_got (byte bs) (λ n q. numbers n q) ks r e in
    let y = byte_got bs t.value t.rest t.was in
    let m = many_only {S = ℕ} (λ _. number) any alone RecordNumber number_only t.value 0 t.rest ks r (tail_bytes bs t.value t.rest y p) t.on in
    let h = head_byte bs t.value t.rest y p in
    let l = m.long in
    (cc (y, m.laid, m.long), m.chain, omega arith, m.rest)

ended_got : (c : Contents) (r : List ℕ) (d : Contents) (q : List ℕ) → ended c r ≡ got d q → (r ≡ []) × (c ≡ d)
ended_got c [] d q e = (refl, cc)
ended_got c (x ∷ xs) d q e = cc

pub reads_only : (bs : List ℕ) (c : Contents) → Bytes bs → release bs ≡ got c [] → (bs ≡ laid_out c) × Valid c
reads_only bs c p e =
    let t1 = then_got (records_part bs) (λ rs r1. then (marks_part (listed rs) r1) (λ ms r2. then (depths_part (length rs) r2) (λ ds r3. then (ring_part r3) (λ ks r4. ended (contents rs ms ds ks) r4)))) c [] e in
    let rs = t1.value in
    let t2 = then_got (marks_part (listed rs) t1.rest) (λ ms r2. then (depths_part (length rs) r2) (λ ds r3. then (ring_part r3) (λ ks r4. ended (contents rs ms ds ks) r4))) c [] t1.on in
    let ms = t2.value in
    let t3 = then_got (depths_part (length rs) t2.rest) (λ ds r3. then (ring_part r3) (λ ks r4. ended (contents rs ms ds ks) r4)) c [] t2.on in
    let ds = t3.value in
    let t4 = then_got (ring_part t3.rest) (λ ks r4. ended (contents rs ms ds ks) r4) c [] t3.on in
    let ks = t4.value in
    let z = ended_got (contents rs ms ds ks) t4.rest c [] t4.on in
    let a = records_only bs rs t1.rest p t1.was in
    let b = marks_only rs t1.rest ms t2.rest a.2 t2.was in
    let d = depths_only (length rs) t2.rest ds t3.rest b.3 t3.was in
    let f = ring_only t3.rest ks t4.rest d.3 t4.was in
    subst (λ (w : Contents). (bs ≡ laid_out w) × Valid w) z.1 (
      a.0
          ∙ ap (λ w. length rs ∷ (flat_map alone rs ++ w)) (b.0
          ∙ ap (λ w. of_two (length ms) ++ (flat_map of_pair ms ++ w)) (d.0
          ∙ ap (λ w. length ds ∷ (flat_map of_two ds ++ w)) (f.0
          ∙ ap (λ w. length ks ∷ (flat_map alone ks ++ w)) z.0))),
      record { records = a.1; marks = b.1; mark_count = b.2; depth_count = d.1; depths = d.2; ring = f.1; ring_count = f.2 },
    )
