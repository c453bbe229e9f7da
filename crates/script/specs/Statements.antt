-- What is proved of lines. Assumes nothing.
use Rattle.std.specs.Prelude.{◌≡◌, ℕ, ◌<◌, ◌≤◌, List, length}
use Rattle.archive.specs.declared.call.Call.{Call}
use Rattle.archive.specs.declared.call.Call.TheVariants.{Wrong}
use Rattle.script.specs.Lines.{IsLine}
use Rattle.script.specs.Cuts.{LineCall}

-- the bytes of a line are those of one call only
abbrev pub ReadOneWay : Type 0
ReadOneWay = (bytes : List ℕ) (c d : Call) → IsLine bytes c → IsLine bytes d → c ≡ d

-- a line of the form has at most 17 bytes
abbrev pub LinesShort : Type 0
LinesShort = (bytes : List ℕ) (c : Call) → IsLine bytes c → length bytes ≤ 17

-- a line of more than 80 bytes stands for no call
abbrev pub LongLinesWrong : Type 0
LongLinesWrong = (bytes : List ℕ) (c : Call) → 80 < length bytes → LineCall bytes c → c ≡ Wrong
