-- What a whole script is answered by. Assumes nothing.
use Rattle.std.specs.Prelude.{◌≡◌, ℕ, ◌<◌, List, [], ◌++◌, length, codes}
use Rattle.std.specs.List.{flat_map}
use Rattle.sheet.specs.Meanings.{Meaning}
use Rattle.layers.specs.Folders.{opened}
use Rattle.archive.specs.declared.call.Call.{Call}
use Rattle.archive.specs.declared.answer.Answer.{Answer}
use Rattle.archive.specs.Right.{AllRight}
use Rattle.archive.specs.Lessening.{Lessens}
use Rattle.script.specs.Cuts.{lines_of, Spoken}
use Rattle.script.specs.Makes.{Opening, NoOpening, new_sheet}
use Rattle.script.specs.Text.{line_of}
use Rattle.script.specs.declared.make.Make.{Make}

-- the opening's line, and then the line of one right answer to each line's call, in a new folder over a sheet that means m at first;
-- and settings aside alone made no ratio greater
pub record Opened (m : Meaning) (script bytes : List ℕ) : Type 0 where
  pub calls : List Call
  pub answers : List Answer
  pub spoken : Spoken (lines_of script) calls
  pub right : AllRight (opened m) calls answers
  pub lessens : Lessens (opened m) calls answers
  pub printed : bytes ≡ codes "ok\n" ++ flat_map line_of answers

-- an empty script; one that opens with a make; and any other
pub data Judged (script bytes : List ℕ) : Type 0 where
  nothing : length script ≡ 0 → bytes ≡ [] → Judged script bytes
  opening : (m : Make) (rest : List ℕ) → Opening script m rest → Opened (new_sheet m) rest bytes → Judged script bytes
  wrong : 0 < length script → NoOpening script → bytes ≡ codes "no 17\n" → Judged script bytes
