-- A folder follows the account, call by call. Assumes nothing.
use Rattle.std.proofs.Common.{◌≡◌, ℕ, zero, suc, Result, Ok, Err, Option, None, Some, sym, refl, ap, ◌∙◌, subst}
use Rattle.model.specs.declared.decline.Decline.{Decline}
use Rattle.model.specs.Refusals.{answer_number}
use Rattle.model.specs.Views.{View}
use Rattle.sheet.specs.Meanings.{Meaning}
use Rattle.sheet.specs.Checks.{enter_check, mark_check, strike_check}
use Rattle.sheet.specs.Calls.{after_check, Called}
use Rattle.sheet.specs.Views.{view_in}
use Rattle.sheet.proofs.Checking.{called_by}
use Rattle.layers.specs.Folders.{Account, seen, aside_check, back_check, entered_in, marked_in, struck_in, set_aside, brought_back}
use Rattle.archive.specs.declared.call.Call.{Call}
use Rattle.archive.specs.declared.call.Call.TheVariants.{Enter, Mark, Strike, SetAside, BringBack, Loose, Strict, Unit as Units, Ratio, Wrong}
use Rattle.archive.specs.declared.answer.Answer.{Answer}
use Rattle.archive.specs.Accounts.{told, stands_in, next}
use Rattle.archive.specs.declared.answer.Answer.TheVariants.{Taken, Declined}
use Rattle.model.specs.declared.decline.Decline.TheVariants.{WrongLine}
use Rattle.model.specs.declared.thresholds.Thresholds.{Thresholds}
use Rattle.archive.specs.Told.{LooseTold, StrictTold, UnitTold, RatioTold}
use Rattle.archive.specs.Right.{Tells, Plain, declined, Right}
use Rattle.archive.specs.Following.{Tidy, Tended, Answered, ChangeBy}
use Rattle.archive.proofs.Plainly.{plainly}
use Rattle.archive.proofs.Tidying.{seen_told, entered_noted, tidy_noted, tidy_aside, tidy_back}

-- A call told by what is seen: with a tidy account it is told by the account too, since both tell the same.
-- `check` is its first failed check by either, `changed` what the folder makes of the account, and `wanted` what the rules ask.
module _ {a b changed wanted : Account} {r : Result (Unit {0}) Decline} (check : Meaning → ℕ) where
  by_account : Called (check (seen a)) a changed b r → (check (told a) ≡ 0 → changed ≡ wanted) → Tidy a → Called (check (told a)) a wanted b r
  by_account called agrees tidy =
      let same = ap check (seen_told a tidy) in
      called_by (λ (d : Account). d) same (λ e. agrees (sym same ∙ e)) called

  tended : {X : Type 0} {c : Call} {right : Account → Call → X → Type 0} {x : X} → next a c ≡ after_check (check (told a)) wanted a
      → (check (told a) ≡ 0 → changed ≡ wanted) → (Tidy a → check (told a) ≡ 0 → Tidy wanted)
      → Called (check (seen a)) a changed b r → (answer_number r ≡ check (told a) → right a c x) → Tended right a c b x
  tended steps agrees keeps called rightly = record {
    follows = λ tidy.
        let now = by_account called agrees tidy in
        record { account = now.meaning ∙ sym steps; tidy = subst Tidy (sym now.meaning) (go (check (told a)) tidy (keeps tidy)) };
    right = λ tidy. rightly (by_account called agrees tidy).answer;
  }
    where
      go : (n : ℕ) → Tidy a → (n ≡ 0 → Tidy wanted) → Tidy (after_check n wanted a)
      go zero tidy h = h refl
      go (suc n) tidy h = tidy

-- the five calls that may change a folder, by whatever is right where the number of the first failed check is known
module _ {X : Type 0} {right : Account → Call → X → Type 0} {a b : Account} {r : Result (Unit {0}) Decline} {x : X} where
  pub enter_tended : {u : ℕ} → (answer_number r ≡ enter_check (told a) u → right a (Enter u) x) → Called (enter_check (seen a) u) a (entered_in a u) b r → Tended right a (Enter u) b x
  enter_tended {u = u} rightly called = tended (λ m. enter_check m u) refl (entered_noted a u) (λ tidy e. tidy_noted a u tidy) called rightly

  pub mark_tended : {u v : ℕ} → (answer_number r ≡ mark_check (told a) u v → right a (Mark u v) x) → Called (mark_check (seen a) u v) a (marked_in a u v) b r → Tended right a (Mark u v) b x
  mark_tended {u = u} {v = v} rightly called = tended (λ m. mark_check m u v) refl (λ e. refl) (λ tidy e. tidy) called rightly

  pub strike_tended : {u v : ℕ} → (answer_number r ≡ strike_check (told a) u v → right a (Strike u v) x) → Called (strike_check (seen a) u v) a (struck_in a u v) b r → Tended right a (Strike u v) b x
  strike_tended {u = u} {v = v} rightly called = tended (λ m. strike_check m u v) refl (λ e. refl) (λ tidy e. tidy) called rightly

  pub aside_tended : {u : ℕ} → (answer_number r ≡ aside_check (told a) u → right a (SetAside u) x) → Called (aside_check (seen a) u) a (set_aside a u) b r → Tended right a (SetAside u) b x
  aside_tended {u = u} rightly called = tended (λ m. aside_check m u) refl (λ e. refl) (λ tidy e. tidy_aside a u tidy e) called rightly

  pub back_tended : {u : ℕ} → (answer_number r ≡ back_check (told a) a.own u → right a (BringBack u) x) → Called (back_check (seen a) a.own u) a (brought_back a u) b r → Tended right a (BringBack u) b x
  back_tended {u = u} rightly called = tended (λ m. back_check m a.own u) refl (λ e. refl) (λ tidy e. tidy_back a u tidy) called rightly

-- a call that asks of what is seen to stand asks of what the account says stands, and changes nothing
module _ {X : Type 0} {right : Account → Call → X → Type 0} {a : Account} {x : X} where
  pub asking_tended : (c : Call) (P : View → Type 0) → next a c ≡ a → (P (stands_in a) → right a c x) → P (view_in (seen a)) → Tended right a c a x
  asking_tended c P same rights found = record {
    follows = λ tidy. record { account = sym same; tidy = tidy };
    right = λ tidy. rights (subst (λ (m : Meaning). P (view_in m)) (seen_told a tidy) found);
  }

-- the answers at a desk
module _ {a b : Account} {r : Result (Unit {0}) Decline} {x : Answer} {c : Call} where
  pub enter_answered : {u : ℕ} → c ≡ Enter u → Called (enter_check (seen a) u) a (entered_in a u) b r → Tells r x → Tended Right a c b x
  enter_answered is called tells = subst (λ (k : Call). Tended Right a k b x) (sym is) (enter_tended (λ n. plainly r n tells) called)

  pub mark_answered : {u v : ℕ} → c ≡ Mark u v → Called (mark_check (seen a) u v) a (marked_in a u v) b r → Tells r x → Tended Right a c b x
  mark_answered is called tells = subst (λ (k : Call). Tended Right a k b x) (sym is) (mark_tended (λ n. plainly r n tells) called)

  pub strike_answered : {u v : ℕ} → c ≡ Strike u v → Called (strike_check (seen a) u v) a (struck_in a u v) b r → Tells r x → Tended Right a c b x
  strike_answered is called tells = subst (λ (k : Call). Tended Right a k b x) (sym is) (strike_tended (λ n. plainly r n tells) called)

  pub aside_answered : {u : ℕ} → c ≡ SetAside u → Called (aside_check (seen a) u) a (set_aside a u) b r → Tells r x → Tended Right a c b x
  aside_answered is called tells = subst (λ (k : Call). Tended Right a k b x) (sym is) (aside_tended (λ n. plainly r n tells) called)

  pub back_answered : {u : ℕ} → c ≡ BringBack u → Called (back_check (seen a) a.own u) a (brought_back a u) b r → Tells r x → Tended Right a c b x
  back_answered is called tells = subst (λ (k : Call). Tended Right a k b x) (sym is) (back_tended (λ n. plainly r n tells) called)

module _ {a : Account} {c : Call} {x : Answer} where
  grading_answered : (kind : Call) (P : View → Answer → Type 0) → c ≡ kind → next a kind ≡ a → (P (stands_in a) x → Right a kind x) → P (view_in (seen a)) x → Tended Right a c a x
  grading_answered kind P is same rights found = subst (λ (k : Call). Tended Right a k a x) (sym is) (asking_tended kind (λ w. P w x) same rights found)

  pub loose_answered : {t : Thresholds} → c ≡ Loose t → LooseTold (view_in (seen a)) t x → Tended Right a c a x
  loose_answered {t = t} is = grading_answered (Loose t) (λ w. LooseTold w t) is refl (λ m. m)

  pub strict_answered : {t : Thresholds} → c ≡ Strict t → StrictTold (view_in (seen a)) t x → Tended Right a c a x
  strict_answered {t = t} is = grading_answered (Strict t) (λ w. StrictTold w t) is refl (λ m. m)

  pub units_answered : c ≡ Units → UnitTold (view_in (seen a)) x → Tended Right a c a x
  units_answered is = grading_answered Units UnitTold is refl (λ m. m)

  pub ratio_answered : c ≡ Ratio → RatioTold (view_in (seen a)) x → Tended Right a c a x
  ratio_answered is = grading_answered Ratio RatioTold is refl (λ m. m)

-- a wrong line
pub wrong_answered : {a : Account} {c : Call} {x : Answer} → c ≡ Wrong → x ≡ Declined WrongLine → Tended Right a c a x
wrong_answered {a} {c} {x} is told = record {
  follows = λ tidy. record { account = ap (next a) (sym is); tidy = tidy };
  right = λ tidy. subst (λ (k : Call). Right a k x) (sym is) (subst (Plain 17) (sym told) (declined WrongLine refl));
}

-- the answer that a result has
abbrev pub answer_of : Result (Unit {0}) Decline → Answer
answer_of (Ok x) = Taken
answer_of (Err d) = Declined d

pub tells_of : (r : Result (Unit {0}) Decline) → Tells r (answer_of r)
tells_of (Ok x) = refl
tells_of (Err d) = refl

-- a call that asks nothing, or none: the account stays tidy, and each answer that tells the result is one to the call
module _ (a b : Account) (c : Call) where
  pub changed_tidy : (r : Option (Result (Unit {0}) Decline)) → ChangeBy (Tended Right) a c b r → Tidy a → Tidy b
  changed_tidy None kept tidy = subst Tidy (sym kept.1) tidy
  changed_tidy (Some made) p tidy = ((p.1 (answer_of made) (tells_of made)).follows tidy).tidy

  pub changed_answered : (r : Option (Result (Unit {0}) Decline)) → ChangeBy (Tended Right) a c b r → Tidy a → ChangeBy Answered a c b r
  changed_answered None kept tidy = kept
  changed_answered (Some made) p tidy = (p.0, λ x tells. record { account = ((p.1 x tells).follows tidy).account; right = (p.1 x tells).right tidy })
