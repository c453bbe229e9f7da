-- Calls made directly on a folder keep to the account. Assumes nothing.
use Rattle.std.proofs.Common.{◌≡◌, ℕ, Bool, true, false, List, take, Ok, Err, MatchBool, Result, sym, refl, subst, arith}
use Rattle.model.specs.declared.decline.Decline.{Decline}
use Rattle.model.specs.Refusals.{number_of, ring_length}
use Rattle.model.specs.Views.{View}
use Rattle.scale.specs.declared.whole.Whole.{Whole}
use Rattle.sheet.specs.declared.meaning.Sheet.{Ghosts}
use Rattle.sheet.specs.Views.{meaning_of}
use Rattle.layers.specs.declared.folder.Folder.{Folder}
use Rattle.layers.specs.Folders.{Account}
use Rattle.layers.specs.FolderCalls.{account_of}
use Rattle.grading.specs.declared.ratio.Ratio.{Ratio as Finding}
use Rattle.grading.specs.Outcomes.{Memory, suffices, Declined}
use Rattle.grading.specs.Ratios.{valueless, RatioOrCircle, RatioFound}
use Rattle.archive.specs.declared.call.Call.{Call}
use Rattle.archive.specs.declared.call.Call.TheVariants.{Enter, Mark, Strike, SetAside, BringBack, Loose, Strict, Unit as Units, Ratio}
use Rattle.archive.specs.Accounts.{stands_in}
use Rattle.archive.specs.Right.{Tells}
use Rattle.archive.specs.Histories.{History, begun, more}
use Rattle.archive.specs.Following.{Tidy, Tended}
use Rattle.archive.specs.Direct.{Reply, change, loosely, strictly, in_units, in_ratio, Finds, loose, strict, unit, ratio, Made, enter, mark, strike, aside, back, asked, Direct, idle, then, change_answer, RightReply, changed, found, ReplyTells, given, circle, shown_in, DirectUpheld}
use Rattle.archive.proofs.Plainly.{plainly}
use Rattle.archive.proofs.Following.{enter_tended, mark_tended, strike_tended, aside_tended, back_tended, asking_tended}
use Rattle.archive.proofs.Lessening.{RatioOf}
use Rattle.archive.proofs.Lessening as lessening
use Rattle.archive.proofs.Histories.{upheld}
use Rattle.archive.proofs.Tidying.{opened_tidy}

tells : (r : Result (Unit {0}) Decline) → Tells r (change_answer r)
tells (Ok x) = refl
tells (Err d) = refl

-- what asks of a view asks of the view that the account tells
asked_right : {S : Type 0} (s : Ghosts S) (f : Folder S) (c : Call) (x : Reply) → Finds (shown_in s f) c x → Tended RightReply (account_of s f) c (account_of s f) x
asked_right s f c x (loose t before after r o m) = asking_tended (Loose t) (λ w. Finds w (Loose t) (loosely before after r)) refl (found (Loose t) (loosely before after r)) (loose t before after r o m)
asked_right s f c x (strict t before after r o m) = asking_tended (Strict t) (λ w. Finds w (Strict t) (strictly before after r)) refl (found (Strict t) (strictly before after r)) (strict t before after r o m)
asked_right s f c x (unit t before after r o m) = asking_tended Units (λ w. Finds w Units (in_units t before after r)) refl (found Units (in_units t before after r)) (unit t before after r o m)
asked_right s f c x (ratio before after r o m) = asking_tended Ratio (λ w. Finds w Ratio (in_ratio before after r)) refl (found Ratio (in_ratio before after r)) (ratio before after r o m)

made_right : {S : Type 0} (s : Ghosts S) (f g : Folder S) (c : Call) (x : Reply) → Made s f c x g → Tended RightReply (account_of s f) c (account_of s g) x
made_right s f h c x (enter u g r p) = enter_tended (λ n. changed (Enter u) r (plainly r n (tells r))) p
made_right s f h c x (mark u v g r p) = mark_tended (λ n. changed (Mark u v) r (plainly r n (tells r))) p
made_right s f h c x (strike u v g r p) = strike_tended (λ n. changed (Strike u v) r (plainly r n (tells r))) p
made_right s f h c x (aside u g r p) = aside_tended (λ n. changed (SetAside u) r (plainly r n (tells r))) p
made_right s f h c x (back u g r p) = back_tended (λ n. changed (BringBack u) r (plainly r n (tells r))) p
made_right s f h c x (asked d y p) = asked_right s f d y p

-- a history of them, and no absent number in the set at its end
record Led {S : Type 0} (s : Ghosts S) (a : Account) (cs : List Call) (xs : List Reply) (h : Folder S) : Type 0 where
  pub history : History RightReply a cs xs (account_of s h)
  pub tidy : Tidy (account_of s h)

led : {S : Type 0} (s : Ghosts S) (f h : Folder S) (cs : List Call) (xs : List Reply) → Direct s f cs xs h → Tidy (account_of s f) → Led s (account_of s f) cs xs h
led s f h cs xs idle tidy = record { history = begun; tidy = tidy }
led s f h cs xs (then {g = g} {c = c} {x = x} {cs = ds} {xs = ys} one rest) tidy =
    let first = made_right s f g c x one in
    let followed = first.follows tidy in
    let later = led s g h ds ys rest followed.tidy in
    record { history = more (record { account = followed.account; right = first.right tidy }) later.history; tidy = later.tidy }

-- the ratio that a right reply tells is one of what stands
module _ (w : View) (before after : Memory Whole) where
  least_found : (r : Finding) → RatioFound w before after (Ok r) → RatioOf w r.marks r.hops
  least_found r o = go (suffices before) o
    where
      go : (b : Bool) → MatchBool b (RatioOrCircle w before after (Ok r)) (Declined 1 before after (valueless (Ok r))) → RatioOf w r.marks r.hops
      go true s = lessening.least (take r.ring after.ring) s.least
      go false s = absurd (omega (arith, s.answer))

  circle_found : (d : Decline) → number_of d ≡ 12 → RatioFound w before after (Err d) → RatioOf w 1 0
  circle_found d n o = go (suffices before) o
    where
      go : (b : Bool) → MatchBool b (RatioOrCircle w before after (Err d)) (Declined 1 before after (valueless {X = Finding} (Err d))) → RatioOf w 1 0
      go true s = lessening.circle (take (ring_length d) after.ring) s.1.ring
      go false s = absurd (omega (arith, n, s.answer))

reply_ratio : (a : Account) (c : Call) (x : Reply) (e h : ℕ) → RightReply a c x → ReplyTells x e h → RatioOf (stands_in a) e h
reply_ratio a c x e h (changed d r p) t = elim t [ ]
reply_ratio a c x e h (found d y (loose u before after r o m)) t = elim t [ ]
reply_ratio a c x e h (found d y (strict u before after r o m)) t = elim t [ ]
reply_ratio a c x e h (found d y (unit u before after r o m)) t = elim t [ ]
reply_ratio a c x e h (found d y (ratio before after r o m)) (given p q n) = least_found (stands_in a) before after _ o
reply_ratio a c x e h (found d y (ratio before after r o m)) (circle p q b is) = circle_found (stands_in a) before after _ is o

pub direct_upheld : {S : Type 0} (s : Ghosts S) → DirectUpheld s
direct_upheld s below f g cs xs start direct =
    let all = led s f g cs xs direct (subst Tidy (sym start) (opened_tidy (meaning_of s below))) in
    upheld RightReply s ReplyTells (change (Ok tt)) reply_ratio below g cs xs all.tidy
    (subst (λ (a : Account). History RightReply a cs xs (account_of s g)) start all.history)
