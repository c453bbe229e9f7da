-- Settings aside alone never make the least ratio greater. Assumes nothing.
use Rattle.std.specs.Prelude.{◌≡◌, ℕ, ◌*◌, ◌<◌, ◌≤◌, List, length, take, slice_index_or, ℤ}
use Rattle.arrayvec.specs.ArrayVec.{ArrayVec}
use Rattle.model.specs.declared.decline.Decline.{Decline}
use Rattle.model.specs.Refusals.{number_of}
use Rattle.model.specs.Views.{View}
use Rattle.model.specs.Ratios.{NoCircle, LeastRatio}
use Rattle.layers.specs.Folders.{Account}
use Rattle.archive.specs.declared.call.Call.{Call}
use Rattle.archive.specs.declared.call.Call.TheVariants.{Enter, SetAside}
use Rattle.archive.specs.declared.answer.Answer.{Answer}
use Rattle.archive.specs.declared.answer.Answer.TheVariants.{Taken, Forced, Ratio}
use Rattle.archive.specs.declared.answer.Graded.{Graded}
use Rattle.archive.specs.Accounts.{stands_in, next, run}

-- a call that sets a record aside, or one that changes nothing: a question, or a call that is declined
pub data AsideOrIdle (a : Account) (c : Call) : Type 0 where
  aside : (u : ℕ) → c ≡ SetAside u → AsideOrIdle a c
  idle : next a c ≡ a → AsideOrIdle a c

-- from the moment before the call i to the moment before the call j there are such calls alone
abbrev pub OnlyAside : Account → List Call → ℕ → ℕ → Type 0
OnlyAside a calls i j = (k : ℕ) → i ≤ k → k < j → AsideOrIdle (run a (take k calls)) (slice_index_or calls k (Enter 0))

-- the least ratio of w is no greater than that of v; a circle counts as above every ratio
pub record NoGreater (v w : View) : Type 0 where
  pub circleless : NoCircle v → NoCircle w
  pub ratio : (e h f k : ℕ) (xs ys : List ℕ) → LeastRatio v e h xs → LeastRatio w f k ys → f * h ≤ e * k

-- between any two moments with settings aside alone the least ratio is no greater at the second; and so are the ratios that were told then,
-- where `tells x e h` says that x tells a ratio of e to h, or a circle as 1 to 0
pub record LessensBy {X : Type 0} (tells : X → ℕ → ℕ → Type 0) (none : X) (a : Account) (calls : List Call) (given : List X) : Type 0 where
  pub moments : (i j : ℕ) → i ≤ j → j ≤ length calls → OnlyAside a calls i j
      → NoGreater (stands_in (run a (take i calls))) (stands_in (run a (take j calls)))
  pub told : (i j e h f k : ℕ) → i ≤ j → j < length calls → OnlyAside a calls i j
      → tells (slice_index_or given i none) e h → tells (slice_index_or given j none) f k → f * h ≤ e * k

-- the ratio that an answer tells
pub data AnswerTells : Answer → ℕ → ℕ → Type 0 where
  ratio : (e h : ℕ) (ring : ArrayVec ℕ) (v : ArrayVec (Graded ℤ)) → AnswerTells (Ratio e h ring v) e h
  circle : (d : Decline) (ring : ArrayVec ℕ) → number_of d ≡ 12 → AnswerTells (Forced d ring) 1 0

abbrev pub Lessens : Account → List Call → List Answer → Type 0
Lessens = LessensBy AnswerTells Taken
