-- A history of calls keeps to the account, whatever they give. Assumes nothing.
use Rattle.std.proofs.Common.{◌≡◌, ℕ, zero, suc, ◌<◌, List, [], ◌∷◌, ◌++◌, length, get_or, take, refl, ap, ◌∙◌, subst, arith}
use Rattle.sheet.specs.declared.meaning.Sheet.{Ghosts}
use Rattle.sheet.specs.Views.{meaning_of}
use Rattle.layers.specs.declared.folder.Folder.{Folder}
use Rattle.layers.specs.Folders.{Account, opened}
use Rattle.layers.specs.FolderCalls.{account_of}
use Rattle.archive.specs.declared.call.Call.{Call}
use Rattle.archive.specs.declared.call.Call.TheVariants.{Enter}
use Rattle.archive.specs.Accounts.{told, stands_in, next, run}
use Rattle.archive.specs.Histories.{StepBy, History, begun, more, AllRightBy, Upheld}
use Rattle.archive.specs.Following.{Tidy}
use Rattle.archive.proofs.Lessening.{RatioOf, lessens}
use Rattle.archive.proofs.Tidying.{seen_told}

module _ {X : Type 0} (right : Account → Call → X → Type 0) where
  -- a call and what it gave in front of others
  right_first : (none : X) (a b : Account) (c : Call) (x : X) (cs : List Call) (xs : List X) → b ≡ next a c → right a c x → AllRightBy right none b cs xs
      → (k : ℕ) → k < length (c ∷ cs) → right (run a (take k (c ∷ cs))) (get_or (c ∷ cs) k (Enter 0)) (get_or (x ∷ xs) k none)
  unfolding run
  right_first none a b c x cs xs is one all zero h = one
  right_first none a b c x cs xs is one all (suc k) h =
      subst (λ (d : Account). right (run d (take k cs)) (get_or cs k (Enter 0)) (get_or xs k none)) is (all.each k (omega arith))

  pub record Kept (none : X) (a : Account) (cs : List Call) (xs : List X) (b : Account) : Type 0 where
    pub account : b ≡ run a cs
    pub all_right : AllRightBy right none a cs xs

  -- through a history the account is kept to, and what each call gave is right
  pub kept : (none : X) {a b : Account} {cs : List Call} {xs : List X} → History right a cs xs b → Kept none a cs xs b
  unfolding run
  kept none begun = record { account = refl; all_right = record { long = refl; each = λ k h. absurd (omega arith) } }
  kept none (more {a = a} {b = b} {d = d} {c = c} {x = x} {cs = cs} {xs = xs} one rest) =
      let all = kept none rest in
      record {
        account = all.account ∙ ap (λ (e : Account). run e cs) one.account;
        all_right = record { long = ap suc all.all_right.long; each = right_first none a b c x cs xs one.account one.right all.all_right };
      }

  -- one call more at the end
  pub one_more : {a b d : Account} {cs : List Call} {xs : List X} (c : Call) (x : X) → History right a cs xs b → StepBy right b c d x → History right a (cs ++ (c ∷ [])) (xs ++ (x ∷ [])) d
  one_more c x begun last = more last begun
  one_more c x (more one rest) last = more one (one_more c x rest last)

  -- of a new folder over a sheet: all that is promised
  pub upheld : {S : Type 0} (s : Ghosts S) (tells : X → ℕ → ℕ → Type 0) (none : X)
      → ((a : Account) (c : Call) (x : X) (e h : ℕ) → right a c x → tells x e h → RatioOf (stands_in a) e h)
      → (below : S) (folder : Folder S) (cs : List Call) (xs : List X) → Tidy (account_of s folder)
      → History right (opened (meaning_of s below)) cs xs (account_of s folder) → Upheld s right tells none below cs folder xs
  upheld s tells none of below folder cs xs tidy history =
      let all = kept none history in
      record {
        account = all.account;
        questions = seen_told (account_of s folder) tidy ∙ ap told all.account;
        all_right = all.all_right;
        lessens = lessens right tells none of (opened (meaning_of s below)) cs xs all.all_right;
      }
