-- From the result of a change to its answer. Assumes nothing.
use Rattle.std.proofs.Common.{◌≡◌, ℕ, Ok, Err, Result, sym, subst}
use Rattle.model.specs.declared.decline.Decline.{Decline}
use Rattle.model.specs.Refusals.{answer_number}
use Rattle.archive.specs.declared.answer.Answer.{Answer}
use Rattle.archive.specs.Right.{Plain, taken, declined, Tells}

pub plainly : {X : Type 0} (r : Result X Decline) {n : ℕ} {a : Answer} → answer_number r ≡ n → Tells r a → Plain n a
plainly (Ok x) number is = subst (Plain _) (sym is) (taken (sym number))
plainly (Err d) number is = subst (Plain _) (sym is) (declined d number)
