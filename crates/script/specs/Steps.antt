-- One line of a script after another. Assumes nothing.
use Rattle.std.specs.Prelude.{◌≡◌, ℕ, ◌<◌, List, ◌++◌, length, Ok, Err, Result}
use Rattle.model.specs.declared.decline.Decline.{Decline}
use Rattle.model.specs.declared.decline.Decline.TheVariants.{TooLittleMemory}
use Rattle.sheet.specs.Meanings.{Meaning}
use Rattle.layers.specs.Folders.{Account, opened, seen}
use Rattle.archive.specs.Accounts.{told, run}
use Rattle.archive.specs.declared.call.Call.{Call}
use Rattle.archive.specs.declared.answer.Answer.{Answer}
use Rattle.archive.specs.Following.{Answered}
use Rattle.script.specs.Cuts.{bare_of, lines_of, LineCall, Spoken}
use Rattle.script.specs.Text.{line_of, LinePut}

-- the line stands for a call, which took the account from a to b; and the line of its right answer was put
pub record Stepped (a b : Account) (line before after : List ℕ) (n : ℕ) : Type 0 where
  pub call : Call
  pub answer : Answer
  pub spoken : LineCall (bare_of line) call
  pub taken : Answered a call b answer
  pub put : LinePut answer before after n

-- by what a step gives; declined by 1 where there are too few bytes, and then all is kept
abbrev pub Step : Account → Account → List ℕ → List ℕ → List ℕ → Result ℕ Decline → Type 0
Step a b line before after (Ok n) = Stepped a b line before after n
Step a b line before after (Err d) = (d ≡ TooLittleMemory) × (length before < 2048) × (b ≡ a) × (after ≡ before)

-- the same with the answer's line at the end of a list
pub record Lengthened (a b : Account) (line before after : List ℕ) : Type 0 where
  pub call : Call
  pub answer : Answer
  pub spoken : LineCall (bare_of line) call
  pub taken : Answered a call b answer
  pub put : after ≡ before ++ line_of answer

-- b has what the account has after the calls of all lines, in a new folder over a sheet that means m
pub record Left (m : Meaning) (lines : List ℕ) (b : Account) : Type 0 where
  pub calls : List Call
  pub spoken : Spoken (lines_of lines) calls
  pub account : b ≡ run (opened m) calls
  pub questions : seen b ≡ told (run (opened m) calls)
