-- What a replay gives back, and what becomes of the places for answers. Assumes nothing.
use Rattle.std.specs.Prelude.{◌≡◌, ◌<◌, ◌≤◌, List, length, take, drop, Ok, Err, Result}
use Rattle.model.specs.declared.decline.Decline.{Decline}
use Rattle.model.specs.declared.decline.Decline.TheVariants.{TooLittleMemory}
use Rattle.sheet.specs.declared.meaning.Sheet.{Ghosts}
use Rattle.archive.specs.declared.call.Call.{Call}
use Rattle.archive.specs.declared.answer.Answer.{Answer}
use Rattle.archive.specs.declared.desk.Desk.{Desk}
use Rattle.archive.specs.Following.{Replayed}

-- the answers stand in the first places, one to each call, and the places past them are kept; with too few places it is declined by 1,
-- and all of them are kept
abbrev pub ReplayedIn : {S : Type 0} (s : Ghosts S) → S → List Call → List Answer → List Answer → Result (Desk S s) Decline → Type 0
ReplayedIn s below calls before after (Ok desk) = (length calls ≤ length before) × Replayed s below calls desk.folder (take (length calls) after) × (drop (length calls) after ≡ drop (length calls) before)
ReplayedIn s below calls before after (Err d) = (d ≡ TooLittleMemory) × (length before < length calls) × (after ≡ before)
