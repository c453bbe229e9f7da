-- Calls made one after another on a folder, each told by its own contract alone. Assumes nothing.
use Rattle.std.specs.Prelude.{◌≡◌, ℕ, List, [], ◌∷◌, pos, Ok, Err, Result}
use Rattle.model.specs.declared.decline.Decline.{Decline}
use Rattle.model.specs.declared.thresholds.Thresholds.{Thresholds}
use Rattle.model.specs.Refusals.{number_of}
use Rattle.model.specs.Views.{View}
use Rattle.scale.specs.declared.whole.Whole.{Whole}
use Rattle.scale.specs.declared.unit.Unit.{Unit as UnitValue}
use Rattle.scale.specs.declared.pair.Pair.{Pair}
use Rattle.scale.specs.Wholes.{of_whole}
use Rattle.scale.specs.Units.{of_unit}
use Rattle.scale.specs.Pairs.{both}
use Rattle.sheet.specs.declared.meaning.Sheet.{Ghosts}
use Rattle.sheet.specs.Views.{view_in, meaning_of}
use Rattle.layers.specs.declared.folder.Folder.{Folder}
use Rattle.layers.specs.Folders.{Account, opened, seen}
use Rattle.layers.specs.FolderCalls.{account_of, EntersIn, MarksIn, StrikesIn, SetsAside, BringsBack}
use Rattle.grading.specs.declared.ratio.Ratio.{Ratio as Finding}
use Rattle.grading.specs.Kinds.{loose_asked, strict_asked, unit_asked, loose_forbidden, strict_forbidden, unit_forbidden}
use Rattle.grading.specs.Outcomes.{Memory, PastKept, Outcome}
use Rattle.grading.specs.Ratios.{RatioFound}
use Rattle.archive.specs.declared.call.Call.{Call}
use Rattle.archive.specs.declared.call.Call.TheVariants.{Enter, Mark, Strike, SetAside, BringBack, Loose, Strict, Unit as Units, Ratio}
use Rattle.archive.specs.declared.answer.Answer.{Answer}
use Rattle.archive.specs.declared.answer.Answer.TheVariants.{Taken, Declined}
use Rattle.archive.specs.Accounts.{stands_in}
use Rattle.archive.specs.Right.{Right}
use Rattle.archive.specs.Histories.{Upheld}

-- what a call gave: a result, and from a grading or a least ratio also the memory that was brought, as it was before and after. Unit
-- grading was given thresholds too: its grades do not go by them, but those outside the limits are declined
pub data Reply : Type 0 where
  change : Result (Unit {0}) Decline → Reply
  loosely : (before after : Memory Whole) → Result (Unit {0}) Decline → Reply
  strictly : (before after : Memory (Pair Whole UnitValue)) → Result (Unit {0}) Decline → Reply
  in_units : Thresholds → (before after : Memory UnitValue) → Result (Unit {0}) Decline → Reply
  in_ratio : (before after : Memory Whole) → Result Finding Decline → Reply

-- what a grading, or the least ratio, of what stands in w gives, in whatever memory, and what it leaves there; past the stated sizes all is kept
pub data Finds (w : View) : Call → Reply → Type 0 where
  loose : (t : Thresholds) (before after : Memory Whole) (r : Result (Unit {0}) Decline)
      → Outcome w t (loose_asked w t) (of_whole (pos 0)) (loose_forbidden w t) before after r → PastKept before after → Finds w (Loose t) (loosely before after r)
  strict : (t : Thresholds) (before after : Memory (Pair Whole UnitValue)) (r : Result (Unit {0}) Decline)
      → Outcome w t (strict_asked w t) (both (of_whole (pos 0)) (of_unit (pos 0))) (strict_forbidden w t) before after r → PastKept before after → Finds w (Strict t) (strictly before after r)
  unit : (t : Thresholds) (before after : Memory UnitValue) (r : Result (Unit {0}) Decline)
      → Outcome w t (unit_asked w t) (of_unit (pos 0)) (unit_forbidden w t) before after r → PastKept before after → Finds w Units (in_units t before after r)
  ratio : (before after : Memory Whole) (r : Result Finding Decline) → RatioFound w before after r → PastKept before after → Finds w Ratio (in_ratio before after r)

-- what is seen to stand in a folder
abbrev pub shown_in : {S : Type 0} → Ghosts S → Folder S → View
shown_in s f = view_in (seen (account_of s f))

-- one call on a folder f that leaves g, by its own contract and no other
pub data Made {S : Type 0} (s : Ghosts S) (f : Folder S) : Call → Reply → Folder S → Type 0 where
  enter : (u : ℕ) (g : Folder S) (r : Result (Unit {0}) Decline) → EntersIn s u f g r → Made s f (Enter u) (change r) g
  mark : (u v : ℕ) (g : Folder S) (r : Result (Unit {0}) Decline) → MarksIn s u v f g r → Made s f (Mark u v) (change r) g
  strike : (u v : ℕ) (g : Folder S) (r : Result (Unit {0}) Decline) → StrikesIn s u v f g r → Made s f (Strike u v) (change r) g
  aside : (u : ℕ) (g : Folder S) (r : Result (Unit {0}) Decline) → SetsAside s u f g r → Made s f (SetAside u) (change r) g
  back : (u : ℕ) (g : Folder S) (r : Result (Unit {0}) Decline) → BringsBack s u f g r → Made s f (BringBack u) (change r) g
  asked : (c : Call) (x : Reply) → Finds (shown_in s f) c x → Made s f c x f

-- calls made one after another, from the folder f to the folder that they leave
pub data Direct {S : Type 0} (s : Ghosts S) : Folder S → List Call → List Reply → Folder S → Type 0 where
  idle : {f : Folder S} → Direct s f [] [] f
  then : {f g h : Folder S} {c : Call} {x : Reply} {cs : List Call} {xs : List Reply} → Made s f c x g → Direct s g cs xs h → Direct s f (c ∷ cs) (x ∷ xs) h

-- what a change gives back, as an answer
abbrev pub change_answer : Result (Unit {0}) Decline → Answer
change_answer (Ok x) = Taken
change_answer (Err d) = Declined d

-- by the account: a change is taken, or declined by its first failed check; a grading and a least ratio are of what the account says stands
pub data RightReply (a : Account) : Call → Reply → Type 0 where
  changed : (c : Call) (r : Result (Unit {0}) Decline) → Right a c (change_answer r) → RightReply a c (change r)
  found : (c : Call) (x : Reply) → Finds (stands_in a) c x → RightReply a c x

-- the ratio that a call gave, or a circle as 1 to 0
pub data ReplyTells : Reply → ℕ → ℕ → Type 0 where
  given : (before after : Memory Whole) (r : Finding) → ReplyTells (in_ratio before after (Ok r)) r.marks r.hops
  circle : (before after : Memory Whole) (d : Decline) → number_of d ≡ 12 → ReplyTells (in_ratio before after (Err d)) 1 0

-- every list of direct calls on a new folder over a sheet upholds the account
abbrev pub DirectUpheld : {S : Type 0} → Ghosts S → Type 0
DirectUpheld {S} s = (below : S) (f g : Folder S) (calls : List Call) (replies : List Reply) → account_of s f ≡ opened (meaning_of s below)
    → Direct s f calls replies g → Upheld s RightReply ReplyTells (change (Ok tt)) below calls g replies

-- a new folder over a sheet, in which u was entered and which was then graded loosely, with what both calls gave
abbrev pub EnteredAndGraded : {S : Type 0} → Ghosts S → S → ℕ → Thresholds → (before after : Memory Whole) → Folder S × Result (Unit {0}) Decline × Result (Unit {0}) Decline → Type 0
EnteredAndGraded s below u t before after (folder, first, second) =
    Upheld s RightReply ReplyTells (change (Ok tt)) below (Enter u ∷ Loose t ∷ []) folder (change first ∷ loosely before after second ∷ [])
