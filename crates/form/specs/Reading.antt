-- How a release is read, from left to right up to the first broken rule: 14 where a needed byte is missing, 15 where the form is
-- broken. Assumes nothing.
use Rattle.std.specs.Prelude.{ℕ, ◌+◌, ◌*◌, Bool, cond, not, ◌&&◌, ◌||◌, List, [], ◌∷◌, length, ◌==◌, nat_le, nat_lt}
use Rattle.form.specs.Got.{Got, got, stop, then, many}
use Rattle.form.specs.Contents.{Contents, listed}

abbrev pub byte : List ℕ → Got ℕ
byte [] = stop 14
byte (b ∷ bs) = got b bs

-- two bytes as a number, the low one first
abbrev pub two_bytes : List ℕ → Got ℕ
two_bytes bs = then (byte bs) (λ low r. then (byte r) (λ high q. got (low + 256 * high) q))

-- the number of a record: at most 63
abbrev pub number : List ℕ → Got ℕ
number bs = then (byte bs) (λ b r. cond (nat_le b 63) (got b r) (stop 15))

-- the number of a record that is at least `low`
abbrev pub number_from : ℕ → List ℕ → Got ℕ
number_from low bs = then (byte bs) (λ b r. cond (nat_le low b && nat_le b 63) (got b r) (stop 15))

-- the pair u, v does not come before the pair a, b
abbrev pub not_before : ℕ → ℕ → ℕ → ℕ → Bool
not_before a b u v = nat_lt a u || (a == u && nat_le b v)

-- u and v are two different records, and the pair does not come before a, b
abbrev pub fits : (ℕ → Bool) → ℕ → ℕ → ℕ → ℕ → Bool
fits is a b u v = (is u && (is v && not (u == v))) && not_before a b u v

-- a pair, judged whole
abbrev pub pair_from : (ℕ → Bool) → (ℕ × ℕ) → List ℕ → Got (ℕ × ℕ)
pair_from is low bs = then (byte bs) (λ u r. then (byte r) (λ v q. cond (fits is low.0 low.1 u v) (got (u, v) q) (stop 15)))

-- the least that may come next: after a record a greater one, after a pair a later one
abbrev pub above : ℕ → ℕ → ℕ
above _ b = b + 1

abbrev pub later : (ℕ × ℕ) → (ℕ × ℕ) → (ℕ × ℕ)
later _ p = (p.0, p.1 + 1)

-- where any may come next
abbrev pub any : {A : Type 0} → ℕ → A → ℕ
any s _ = s

-- n records, n pairs, n numbers of two bytes, n numbers of records in any order
abbrev pub rising : ℕ → List ℕ → Got (List ℕ)
rising n bs = many number_from above n 0 bs

abbrev pub rising_pairs : (ℕ → Bool) → ℕ → List ℕ → Got (List (ℕ × ℕ))
rising_pairs is n bs = many (pair_from is) later n (0, 0) bs

abbrev pub words : ℕ → List ℕ → Got (List ℕ)
words n bs = many {S = ℕ} (λ _. two_bytes) any n 0 bs

abbrev pub numbers : ℕ → List ℕ → Got (List ℕ)
numbers n bs = many {S = ℕ} (λ _. number) any n 0 bs

-- the four sections, each after its count: records; marks between the records `is`; depths for k records; ring
abbrev pub records_part : List ℕ → Got (List ℕ)
records_part bs = then (byte bs) (λ n r. rising n r)

abbrev pub marks_part : (ℕ → Bool) → List ℕ → Got (List (ℕ × ℕ))
marks_part is bs = then (two_bytes bs) (λ n r. rising_pairs is n r)

abbrev pub depths_part : ℕ → List ℕ → Got (List ℕ)
depths_part k bs = then (byte bs) (λ n r. cond (n == k) (words n r) (stop 15))

abbrev pub ring_part : List ℕ → Got (List ℕ)
ring_part bs = then (byte bs) (λ n r. numbers n r)

-- nothing may be left over
abbrev pub ended : Contents → List ℕ → Got Contents
ended c [] = got c []
ended c (_ ∷ _) = stop 15

-- the whole
abbrev pub contents : List ℕ → List (ℕ × ℕ) → List ℕ → List ℕ → Contents
contents rs ms ds ks = record { records = rs; marks = ms; depths = ds; ring = ks }

abbrev pub release : List ℕ → Got Contents
release bs =
    then (records_part bs) (λ rs r1.
    then (marks_part (listed rs) r1) (λ ms r2.
    then (depths_part (length rs) r2) (λ ds r3.
    then (ring_part r3) (λ ks r4.
    ended (contents rs ms ds ks) r4))))
