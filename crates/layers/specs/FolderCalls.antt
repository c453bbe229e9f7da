-- The account of a folder over a sheet of any make, and what the folder's calls make of it. Assumes nothing.
use Rattle.std.specs.Prelude.{ℕ, Result}
use Rattle.model.specs.declared.decline.Decline.{Decline}
use Rattle.model.specs.Sets.{has}
use Rattle.sheet.specs.declared.meaning.Sheet.{Ghosts}
use Rattle.sheet.specs.Checks.{enter_check, mark_check, strike_check}
use Rattle.sheet.specs.Calls.{Called}
use Rattle.sheet.specs.Views.{meaning_of}
use Rattle.layers.specs.Folders.{Account, seen, aside_check, back_check, entered_in, marked_in, struck_in, set_aside, brought_back}
use Rattle.layers.specs.declared.folder.Folder.{Folder}

abbrev pub account_of : {S : Type 0} → Ghosts S → Folder S → Account
account_of s f = record { below = meaning_of s f.below; own = has f.aside }

-- the five calls on a folder f that becomes g: checks are asked of what is seen, changes are told of the account
abbrev pub EntersIn : {S : Type 0} → Ghosts S → ℕ → Folder S → Folder S → Result (Unit {0}) Decline → Type 0
EntersIn s u f g r =
    let a = account_of s f in
    Called (enter_check (seen a) u) a (entered_in a u) (account_of s g) r

abbrev pub MarksIn : {S : Type 0} → Ghosts S → ℕ → ℕ → Folder S → Folder S → Result (Unit {0}) Decline → Type 0
MarksIn s u v f g r =
    let a = account_of s f in
    Called (mark_check (seen a) u v) a (marked_in a u v) (account_of s g) r

abbrev pub StrikesIn : {S : Type 0} → Ghosts S → ℕ → ℕ → Folder S → Folder S → Result (Unit {0}) Decline → Type 0
StrikesIn s u v f g r =
    let a = account_of s f in
    Called (strike_check (seen a) u v) a (struck_in a u v) (account_of s g) r

abbrev pub SetsAside : {S : Type 0} → Ghosts S → ℕ → Folder S → Folder S → Result (Unit {0}) Decline → Type 0
SetsAside s u f g r =
    let a = account_of s f in
    Called (aside_check (seen a) u) a (set_aside a u) (account_of s g) r

abbrev pub BringsBack : {S : Type 0} → Ghosts S → ℕ → Folder S → Folder S → Result (Unit {0}) Decline → Type 0
BringsBack s u f g r =
    let a = account_of s f in
    Called (back_check (seen a) a.own u) a (brought_back a u) (account_of s g) r
