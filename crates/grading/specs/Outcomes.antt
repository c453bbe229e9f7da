-- What a grading call answers, and what it leaves in the memory that was brought. Assumes nothing.
use Rattle.std.specs.Prelude.{◌≡◌, ℕ, ◌<◌, ◌≤◌, Bool, false, ◌&&◌, List, length, get_or, take, drop, Ok, Err, MatchBool, Result, nat_le, slice_index, slice_index_or}
use Rattle.model.specs.declared.decline.Decline.{Decline}
use Rattle.model.specs.declared.thresholds.Thresholds.{Thresholds}
use Rattle.model.specs.Limits.{within_limits}
use Rattle.model.specs.Refusals.{number_of, ring_length, answer_number}
use Rattle.model.specs.Views.{View}
use Rattle.scale.specs.declared.scale.Scale.{Ghosts}
use Rattle.paths.specs.Bests.{Best, Forbids}
use Rattle.grading.specs.declared.memory.Memory.{Memory as Lent}
use Rattle.grading.specs.declared.forbidden.Forbidden.{Forbidden}

-- grades, ring bytes, scratch values and scratch bytes
pub record Memory (V : Type 0) : Type 0 where
  pub grades : List V
  pub ring : List ℕ
  pub values : List V
  pub bytes : List ℕ

abbrev pub memory : {V : Type 0} → List V → List ℕ → List V → List ℕ → Memory V
memory grades ring values bytes = record { grades = grades; ring = ring; values = values; bytes = bytes }

-- what lies in memory that is lent
abbrev pub brought : {V : Type 0} → Lent V → Memory V
brought m = memory m.grades.now m.ring.now m.values.now m.bytes.now

-- what lies past the stated sizes is kept, also where scratch is free
pub record PastKept {V : Type 0} (before after : Memory V) : Type 0 where
  pub grades : drop 64 after.grades ≡ drop 64 before.grades
  pub ring : drop 64 after.ring ≡ drop 64 before.ring
  pub values : drop 4160 after.values ≡ drop 4160 before.values
  pub bytes : drop 4160 after.bytes ≡ drop 4160 before.bytes

-- the same memory is lent after a call as before, and is as long: its owner finds there what the call left
pub record SameLent {V : Type 0} (before after : Lent V) : Type 0 where
  pub grades : (after.grades.ghost_name ≡ before.grades.ghost_name) × (length after.grades.now ≡ length before.grades.now)
  pub ring : (after.ring.ghost_name ≡ before.ring.ghost_name) × (length after.ring.now ≡ length before.ring.now)
  pub values : (after.values.ghost_name ≡ before.values.ghost_name) × (length after.values.now ≡ length before.values.now)
  pub bytes : (after.bytes.ghost_name ≡ before.bytes.ghost_name) × (length after.bytes.now ≡ length before.bytes.now)
  pub past : PastKept (brought before) (brought after)

-- 64 grades, 64 ring bytes, 4,160 values and 4,160 bytes
abbrev pub enough : ℕ → ℕ → ℕ → ℕ → Bool
enough grades ring values bytes = nat_le 64 grades && (nat_le 64 ring && (nat_le 4160 values && nat_le 4160 bytes))

abbrev pub suffices : {V : Type 0} → Memory V → Bool
suffices m = enough (length m.grades) (length m.ring) (length m.values) (length m.bytes)

-- declined by a number, with all memory kept, scratch too
pub record Declined {V : Type 0} (number : ℕ) (before after : Memory V) (r : Result (Unit {0}) Decline) : Type 0 where
  pub answer : answer_number r ≡ number
  pub kept : after ≡ before

-- the grades of the standing records are as asked for; all other places, and the ring, are kept
pub record Given {V : Type 0} (w : View) (asked : (ℕ → V) → Type 0) (none : V) (before after : Memory V) : Type 0 where
  pub grades : asked (λ u. get_or after.grades u none)
  pub others : (u : ℕ) → (u < 64 → w.stands u ≡ false) → slice_index_or after.grades u none ≡ slice_index_or before.grades u none
  pub ring : after.ring ≡ before.ring

-- the first k ring bytes are a ring that forbids; the bytes past them, and all grades, are kept
pub record Shown {V : Type 0} (forbids : List ℕ → Type 0) (k : ℕ) (before after : Memory V) : Type 0 where
  pub short : k ≤ 64
  pub ring : forbids (take k after.ring)
  pub past : (i : ℕ) → k ≤ i → slice_index after.ring i ≡ slice_index before.ring i
  pub grades : after.grades ≡ before.grades

-- grades as asked for, or a ring that forbids them; what scratch holds is free
abbrev pub Attempt : {V : Type 0} → View → ((ℕ → V) → Type 0) → V → (List ℕ → Type 0) → Memory V → Memory V → Result (Unit {0}) Forbidden → Type 0
Attempt w asked none forbids before after (Ok x) = Given w asked none before after
Attempt w asked none forbids before after (Err f) = Shown forbids f.ring before after

-- grades as asked for, or declined by 13 with a ring that forbids them; what scratch holds is free
abbrev pub Solved : {V : Type 0} → View → ((ℕ → V) → Type 0) → V → (List ℕ → Type 0) → Memory V → Memory V → Result (Unit {0}) Decline → Type 0
Solved w asked none forbids before after (Ok x) = Given w asked none before after
Solved w asked none forbids before after (Err d) = (number_of d ≡ 13) × Shown forbids (ring_length d) before after

-- the checks in their order: 1, 11, and then 13 or grades
abbrev pub Outcome : {V : Type 0} → View → Thresholds → ((ℕ → V) → Type 0) → V → (List ℕ → Type 0) → Memory V → Memory V → Result (Unit {0}) Decline → Type 0
Outcome w t asked none forbids before after r =
    MatchBool (suffices before)
    (MatchBool (within_limits t) (Solved w asked none forbids before after r) (Declined 11 before after r))
    (Declined 1 before after r)

-- grading on a scale: the best values, or a ring whose sum is below nothing
abbrev pub Grades : {V : Type 0} → Ghosts V → View → Thresholds → Memory V → Memory V → Result (Unit {0}) Decline → Type 0
Grades s w t before after r = Outcome w t (Best s w t) s.nothing (Forbids s w t) before after r
