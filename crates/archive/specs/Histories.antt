-- Calls made one after another, by whatever each gave. Assumes nothing.
use Rattle.std.specs.Prelude.{◌≡◌, ℕ, ◌<◌, List, [], ◌∷◌, length, take, slice_index_or}
use Rattle.sheet.specs.declared.meaning.Sheet.{Ghosts}
use Rattle.sheet.specs.Views.{meaning_of}
use Rattle.layers.specs.declared.folder.Folder.{Folder}
use Rattle.layers.specs.Folders.{Account, opened, seen}
use Rattle.layers.specs.FolderCalls.{account_of}
use Rattle.archive.specs.declared.call.Call.{Call}
use Rattle.archive.specs.declared.call.Call.TheVariants.{Enter}
use Rattle.archive.specs.Accounts.{told, next, run}
use Rattle.archive.specs.Lessening.{LessensBy}

-- what calls give is an X: `rightly a c x` says that x is right for the call c where the account tells a
-- the call c takes the account from a to b, and what it gave is right
pub record StepBy {X : Type 0} (rightly : Account → Call → X → Type 0) (a : Account) (c : Call) (b : Account) (x : X) : Type 0 where
  pub account : b ≡ next a c
  pub right : rightly a c x

-- calls, and what each gave, that took an account step by step from a to b
pub data History {X : Type 0} (rightly : Account → Call → X → Type 0) : Account → List Call → List X → Account → Type 0 where
  begun : {a : Account} → History rightly a [] [] a
  more : {a b d : Account} {c : Call} {x : X} {cs : List Call} {xs : List X} → StepBy rightly a c b x → History rightly b cs xs d → History rightly a (c ∷ cs) (x ∷ xs) d

-- one thing given by each call, right by the account after the calls before it; `none` stands past the end
pub record AllRightBy {X : Type 0} (rightly : Account → Call → X → Type 0) (none : X) (a : Account) (calls : List Call) (given : List X) : Type 0 where
  pub long : length given ≡ length calls
  pub each : (k : ℕ) → k < length calls → rightly (run a (take k calls)) (slice_index_or calls k (Enter 0)) (slice_index_or given k none)

-- a new folder over the sheet `below`, after all calls: it has what the account has, and answers each question as the account
-- tells it; what each call gave was right at its step; and settings aside alone made no ratio greater
pub record Upheld {S X : Type 0} (s : Ghosts S) (rightly : Account → Call → X → Type 0) (tells : X → ℕ → ℕ → Type 0) (none : X)
    (below : S) (calls : List Call) (folder : Folder S) (given : List X) : Type 0 where
  pub account : account_of s folder ≡ run (opened (meaning_of s below)) calls
  pub questions : seen (account_of s folder) ≡ told (run (opened (meaning_of s below)) calls)
  pub all_right : AllRightBy rightly none (opened (meaning_of s below)) calls given
  pub lessens : LessensBy tells none (opened (meaning_of s below)) calls given
