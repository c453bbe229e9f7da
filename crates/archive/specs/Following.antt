-- A folder follows the account. Assumes nothing.
use Rattle.std.specs.Prelude.{◌≡◌, ℕ, Bool, true, false, List, ◌≢◌, Option, Result, MatchOption}
use Rattle.model.specs.declared.decline.Decline.{Decline}
use Rattle.sheet.specs.declared.state.State.TheVariants.{Absent}
use Rattle.sheet.specs.declared.meaning.Sheet.{Ghosts}
use Rattle.layers.specs.declared.folder.Folder.{Folder}
use Rattle.layers.specs.Folders.{Account}
use Rattle.archive.specs.declared.call.Call.{Call}
use Rattle.archive.specs.declared.call.Call.TheVariants.{Enter, Mark, Strike, SetAside, BringBack, Loose, Strict, Unit as Units, Ratio, Wrong}
use Rattle.archive.specs.declared.answer.Answer.{Answer}
use Rattle.archive.specs.declared.answer.Answer.TheVariants.{Taken}
use Rattle.archive.specs.Accounts.{next}
use Rattle.archive.specs.Histories.{StepBy, Upheld}
use Rattle.archive.specs.Right.{Tells, Right}
use Rattle.archive.specs.Lessening.{AnswerTells}

-- no absent number is in the set: so it is at the opening, and after every call
abbrev pub Tidy : Account → Type 0
Tidy a = (u : ℕ) → a.own u ≡ true → a.below.states u ≢ Absent

-- one call takes a folder's account a to b
pub record Followed (a : Account) (c : Call) (b : Account) : Type 0 where
  pub account : b ≡ next a c
  pub tidy : Tidy b

-- the call takes the account from a to b, and what it gave is right, if no absent number is in the set before the call
pub record Tended {X : Type 0} (rightly : Account → Call → X → Type 0) (a : Account) (c : Call) (b : Account) (x : X) : Type 0 where
  pub follows : Tidy a → Followed a c b
  pub right : Tidy a → rightly a c x

-- the call takes the account from a to b, and the answer x is right
abbrev pub Answered : Account → Call → Account → Answer → Type 0
Answered = StepBy Right

-- the questions: gradings and the least ratio
abbrev pub asks : Call → Bool
asks (Enter u) = false
asks (Mark u v) = false
asks (Strike u v) = false
asks (SetAside u) = false
asks (BringBack u) = false
asks (Loose t) = true
asks (Strict t) = true
asks Units = true
asks Ratio = true
asks Wrong = false

-- a call that asks nothing gives a result: each answer that tells just that is the call's. A question gives none, and the account is kept
abbrev pub ChangeBy : (Account → Call → Account → Answer → Type 0) → Account → Call → Account → Option (Result (Unit {0}) Decline) → Type 0
ChangeBy answered a c b r = MatchOption r ((asks c ≡ true) × (b ≡ a)) (λ made. (asks c ≡ false) × ((x : Answer) → Tells made x → answered a c b x))

-- a new folder over the sheet `below`, after all calls, each of which was answered
abbrev pub Replayed : {S : Type 0} → Ghosts S → S → List Call → Folder S → List Answer → Type 0
Replayed s = Upheld s Right AnswerTells Taken
