-- What stands in a sample folder is below the number of its records. Assumes nothing.
use Rattle.std.proofs.Common.{◌≡◌, ℕ, ◌<◌, Bool, true, false, cond, ◌&&◌, List, [], ◌∷◌, eqb, ltb, refl, sym, subst}
use Rattle.std.specs.List.{fold}
use Rattle.std.proofs.lemmas.Bool.{and_parts, eqb-true, ltb-true}
use Rattle.model.specs.Views.{View}
use Rattle.model.proofs.Steps.{clash}
use Rattle.sheet.specs.declared.state.State.{State}
use Rattle.sheet.specs.declared.state.State.TheVariants.{Absent, Standing, Aside}
use Rattle.sheet.specs.States.{is_standing}
use Rattle.sheet.specs.Meanings.{Meaning, empty}
use Rattle.sheet.specs.Calls.{put_state, entered, marked}
use Rattle.layers.specs.Folders.{filed_state}
use Rattle.samples.specs.Folders.{sheet, view}

-- all that stands is below n
abbrev pub Covers : View → ℕ → Type 0
Covers w n = (u : ℕ) → w.stands u ≡ true → u < n

-- each number of a list is below n
abbrev pub all_below : ℕ → List ℕ → Bool
all_below n [] = true
all_below n (x ∷ xs) = ltb x n && all_below n xs

-- all that stands on a sheet is below n
abbrev Under : ℕ → Meaning → Type 0
Under n m = (u : ℕ) → is_standing (m.states u) ≡ true → u < n

enter_under : (n : ℕ) (m : Meaning) (x : ℕ) → x < n → Under n m → Under n (entered m x)
unfolding put_state
enter_under n m x l under u = go (eqb u x) refl
  where
    go : (b : Bool) → eqb u x ≡ b → is_standing (cond b Standing (m.states u)) ≡ true → u < n
    go true e h = subst (λ (k : ℕ). k < n) (sym (eqb-true u x e)) l
    go false e h = under u h

entries_under : (n : ℕ) (rs : List ℕ) (m : Meaning) → all_below n rs ≡ true → Under n m → Under n (fold entered m rs)
entries_under n [] m e under = under
entries_under n (x ∷ xs) m e under =
    let p = and_parts (ltb x n) (all_below n xs) e in
    entries_under n xs (entered m x) p.1 (enter_under n m x (ltb-true x n p.0) under)

-- marks leave the states as they are
marks_under : (n : ℕ) (ms : List (ℕ × ℕ)) (m : Meaning) → Under n m → Under n (fold (λ m p. marked m p.0 p.1) m ms)
marks_under n [] m under = under
marks_under n (p ∷ ps) m under = marks_under n ps (marked m p.0 p.1) under

-- what stands in a folder stands below, whatever is set aside
filed_stands : (own : Bool) (s : State) → is_standing (filed_state own s) ≡ true → is_standing s ≡ true
filed_stands own Absent e = e
filed_stands true Standing e = refl
filed_stands false Standing e = refl
filed_stands own Aside e = e

-- only records that were entered stand
pub covers : (n : ℕ) (rs : List ℕ) (ms : List (ℕ × ℕ)) (own : ℕ → Bool) → all_below n rs ≡ true → Covers (view (record { below = sheet rs ms; own = own })) n
covers n rs ms own e u h =
    marks_under n ms (fold entered (empty 4032) rs) (entries_under n rs (empty 4032) e (λ x e. absurd (clash false e refl)))
    u (filed_stands (own u) ((sheet rs ms).states u) h)
