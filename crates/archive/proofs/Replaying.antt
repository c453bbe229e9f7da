-- Answers by the account, and a history of them. Assumes nothing.
use Rattle.std.proofs.Common.{ℕ, List, arith}
use Rattle.sheet.specs.declared.meaning.Sheet.{Ghosts}
use Rattle.sheet.specs.Views.{meaning_of}
use Rattle.layers.specs.Folders.{Account, opened}
use Rattle.layers.specs.FolderCalls.{account_of}
use Rattle.archive.specs.declared.call.Call.{Call}
use Rattle.archive.specs.declared.call.Call.TheVariants.{Enter, Mark, Strike, SetAside, BringBack, Loose, Strict, Unit as Units, Ratio, Wrong}
use Rattle.archive.specs.declared.answer.Answer.{Answer}
use Rattle.archive.specs.declared.answer.Answer.TheVariants.{Taken}
use Rattle.archive.specs.declared.desk.Desk.{Desk}
use Rattle.archive.specs.Accounts.{stands_in}
use Rattle.archive.specs.Told.{circled, found}
use Rattle.archive.specs.Told as told
use Rattle.archive.specs.Right.{Plain, taken, declined, Right}
use Rattle.archive.specs.Lessening.{AnswerTells, ratio, circle}
use Rattle.archive.specs.Histories.{History}
use Rattle.archive.specs.Following.{Replayed}
use Rattle.archive.proofs.Lessening.{RatioOf}
use Rattle.archive.proofs.Lessening as lessening
use Rattle.archive.proofs.Histories.{upheld}

-- a change tells none
plain_none : (n : ℕ) (x : Answer) (e h : ℕ) → Plain n x → AnswerTells x e h → ⊥
plain_none n x e h (taken is) t = elim t [ ]
plain_none n x e h (declined d is) t = elim t [ ]

-- the ratio that a right answer tells is one of what stands
pub answer_ratio : (a : Account) (c : Call) (x : Answer) (e h : ℕ) → Right a c x → AnswerTells x e h → RatioOf (stands_in a) e h
answer_ratio a Ratio x e h (found m n ring v g least best is) (ratio p q xs ys) = lessening.least ring.items least
answer_ratio a Ratio x e h (circled d ring n long c) (circle b xs m) = lessening.circle ring.items c
answer_ratio a (Loose u) x e h (told.outside d n l) t = elim t [ ]
answer_ratio a (Loose u) x e h (told.forced d ring n long l f) (circle b xs m) = absurd (omega arith)
answer_ratio a (Loose u) x e h (told.given v g l p q) t = elim t [ ]
answer_ratio a (Strict u) x e h (told.outside d n l) t = elim t [ ]
answer_ratio a (Strict u) x e h (told.forced d ring n long l f) (circle b xs m) = absurd (omega arith)
answer_ratio a (Strict u) x e h (told.given v g l p q) t = elim t [ ]
answer_ratio a Units x e h (told.outside d n l) t = elim t [ ]
answer_ratio a Units x e h (told.forced d ring n long l f) (circle b xs m) = absurd (omega arith)
answer_ratio a Units x e h (told.given v g l p q) t = elim t [ ]
answer_ratio a (Enter u) x e h p t = absurd (plain_none _ x e h p t)
answer_ratio a (Mark u v) x e h p t = absurd (plain_none _ x e h p t)
answer_ratio a (Strike u v) x e h p t = absurd (plain_none _ x e h p t)
answer_ratio a (SetAside u) x e h p t = absurd (plain_none _ x e h p t)
answer_ratio a (BringBack u) x e h p t = absurd (plain_none _ x e h p t)
answer_ratio a Wrong x e h p t = absurd (plain_none _ x e h p t)

pub replayed : {S : Type 0} (s : Ghosts S) (below : S) (desk : Desk S s) (cs : List Call) (xs : List Answer)
    → History Right (opened (meaning_of s below)) cs xs (account_of s desk.folder) → Replayed s below cs desk.folder xs
replayed s below desk cs xs history = upheld Right s AnswerTells Taken answer_ratio below desk.folder cs xs desk.tidy history
