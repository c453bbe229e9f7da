-- The text of an answer, and what printing it does. Assumes nothing.
use Rattle.std.specs.Prelude.{◌≡◌, ℕ, ◌<◌, ◌≤◌, cond, List, [], ◌++◌, length, drop, Ok, Err, codes, decimal, Result, ◌==◌}
use Rattle.std.specs.Fmt.{signed_decimal}
use Rattle.std.specs.List.{flat_map}
use Rattle.model.specs.Refusals.{number_of}
use Rattle.model.specs.declared.decline.Decline.{Decline}
use Rattle.model.specs.declared.decline.Decline.TheVariants.{TooLittleMemory}
use Rattle.archive.specs.declared.answer.Graded.{Graded}
use Rattle.archive.specs.declared.answer.StrictGrade.{StrictGrade}
use Rattle.archive.specs.declared.answer.Answer.{Answer}
use Rattle.archive.specs.declared.answer.Answer.TheVariants.{Taken, Declined, Forced, Wholes, Pairs, Units, Ratio}
use Rattle.script.specs.Numbers.{field}

-- a strict grade: "-2/-1"
abbrev pub strict_text : StrictGrade → List ℕ
strict_text g = signed_decimal g.a ++ (codes "/" ++ signed_decimal g.b)

-- an entry: " 0:-2"
abbrev pub entry_text : {V : Type 0} → (V → List ℕ) → Graded V → List ℕ
entry_text text g = field g.«record» ++ (codes ":" ++ text g.grade)

-- a ratio: " 1/2"
abbrev pub ratio_text : ℕ → ℕ → List ℕ
ratio_text e h = field e ++ (codes "/" ++ decimal h)

-- a ring: " ring 0 2 1", and nothing where it has no records
abbrev pub ring_text : List ℕ → List ℕ
ring_text xs = cond (length xs == 0) [] (codes " ring" ++ flat_map field xs)

-- "ok", "no 4", "no 13 ring 0 1 2", "ok 0:-2 1:0", "ok 1/2 ring 0 2 1", "ok 0/1"
abbrev pub text_of : Answer → List ℕ
text_of Taken = codes "ok"
text_of (Declined d) = codes "no" ++ field (number_of d)
text_of (Forced d ring) = codes "no" ++ (field (number_of d) ++ ring_text ring.items)
text_of (Wholes v) = codes "ok" ++ flat_map (entry_text signed_decimal) v.items
text_of (Pairs v) = codes "ok" ++ flat_map (entry_text strict_text) v.items
text_of (Units v) = codes "ok" ++ flat_map (entry_text signed_decimal) v.items
text_of (Ratio e h ring v) = codes "ok" ++ (ratio_text e h ++ ring_text ring.items)

-- byte 10 ends the line
abbrev pub line_of : Answer → List ℕ
line_of a = text_of a ++ codes "\n"

-- the line stands at the front, of n bytes, and all past it is kept
pub record LinePut (a : Answer) (before after : List ℕ) (n : ℕ) : Type 0 where
  pub room : 2048 ≤ length before
  pub long : n ≡ length (line_of a)
  pub short : n ≤ 2048
  pub bytes : after ≡ line_of a ++ drop n before

-- declined by 1, only where the bytes are too few, and all is kept
pub record LineDeclined (before after : List ℕ) (d : Decline) : Type 0 where
  pub by : d ≡ TooLittleMemory
  pub few : length before < 2048
  pub kept : after ≡ before

-- what printing does to the bytes, by what it answers
abbrev pub Printed : Answer → List ℕ → List ℕ → Result ℕ Decline → Type 0
Printed a before after (Ok n) = LinePut a before after n
Printed a before after (Err d) = LineDeclined before after d
