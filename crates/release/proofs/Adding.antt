-- Texts put into a draft, one after another. Assumes nothing.
use Rattle.std.proofs.Common.{◌≡◌, ℕ, ◌+◌, List, [], ◌∷◌, ◌++◌, length, sym, ap, ◌∙◌, arith, length-append}
use Rattle.std.proofs.lemmas.List.{append_assoc, append-nil}
use Rattle.arrayvec.specs.ArrayVec.{ArrayVec}
use Rattle.release.specs.Drafts.{Adds}

pub adds_none : (d : ArrayVec ℕ) → Adds d [] d
adds_none d = record { long = omega arith; bytes = sym (append-nil d.items) }

pub adds_then : {a b c : ArrayVec ℕ} {xs ys : List ℕ} → Adds a xs b → Adds b ys c → Adds a (xs ++ ys) c
adds_then {a = a} {xs = xs} {ys = ys} p q = record {
  long = q.long ∙ omega (arith, p.long, length-append xs ys);
  bytes = q.bytes ∙ ap (λ (zs : List ℕ). zs ++ ys) p.bytes ∙ append_assoc a.items xs ys;
}

pub adds_as : {a b : ArrayVec ℕ} {xs : List ℕ} (ys : List ℕ) → xs ≡ ys → Adds a xs b → Adds a ys b
adds_as ys e p = rw (← e) p

-- one byte more
pub pushed : {a b : ArrayVec ℕ} {x : ℕ} → b.items ≡ a.items ++ (x ∷ []) → length b.items ≡ length a.items + 1 → Adds a (x ∷ []) b
pushed items len = record { long = len; bytes = items }

-- one item more of a section
pub adds_more : {a b c : ArrayVec ℕ} (f : ℕ → List ℕ) (n : ℕ) {text : List ℕ} → f (n + 1) ≡ f n ++ text → Adds a (f n) b → Adds b text c → Adds a (f (n + 1)) c
adds_more f n e p q = adds_as (f (n + 1)) (sym e) (adds_then p q)
