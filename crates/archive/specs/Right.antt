-- The right answers to calls, each by what the account tells when it is asked. Assumes nothing.
use Rattle.std.specs.Prelude.{◌≡◌, ℕ, List, Ok, Err, Result}
use Rattle.model.specs.declared.decline.Decline.{Decline}
use Rattle.model.specs.Refusals.{number_of}
use Rattle.sheet.specs.Checks.{enter_check, mark_check, strike_check}
use Rattle.layers.specs.Folders.{Account, aside_check, back_check}
use Rattle.archive.specs.declared.call.Call.{Call}
use Rattle.archive.specs.declared.call.Call.TheVariants.{Enter, Mark, Strike, SetAside, BringBack, Loose, Strict, Unit as Units, Ratio, Wrong}
use Rattle.archive.specs.declared.answer.Answer.{Answer}
use Rattle.archive.specs.declared.answer.Answer.TheVariants.{Taken, Declined}
use Rattle.archive.specs.Told.{LooseTold, StrictTold, UnitTold, RatioTold}
use Rattle.archive.specs.Accounts.{told, stands_in}
use Rattle.archive.specs.Histories.{AllRightBy}

-- the answer that has no more to tell than a result does
abbrev pub Tells : {X : Type 0} → Result X Decline → Answer → Type 0
Tells (Ok x) a = a ≡ Taken
Tells (Err d) a = a ≡ Declined d

-- the answer to a call whose first failed check is `number`
pub data Plain (number : ℕ) : Answer → Type 0 where
  taken : number ≡ 0 → Plain number Taken
  declined : (d : Decline) → number_of d ≡ number → Plain number (Declined d)

abbrev pub Right : Account → Call → Answer → Type 0
Right a (Enter u) x = Plain (enter_check (told a) u) x
Right a (Mark u v) x = Plain (mark_check (told a) u v) x
Right a (Strike u v) x = Plain (strike_check (told a) u v) x
Right a (SetAside u) x = Plain (aside_check (told a) u) x
Right a (BringBack u) x = Plain (back_check (told a) a.own u) x
Right a (Loose t) x = LooseTold (stands_in a) t x
Right a (Strict t) x = StrictTold (stands_in a) t x
Right a Units x = UnitTold (stands_in a) x
Right a Ratio x = RatioTold (stands_in a) x
Right a Wrong x = Plain 17 x

-- one answer to each call, right by the account after the calls before it
abbrev pub AllRight : Account → List Call → List Answer → Type 0
AllRight = AllRightBy Right Taken
