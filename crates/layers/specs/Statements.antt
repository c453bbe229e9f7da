-- What is proved of setting aside: the statement that theorems.rt names. Assumes nothing.
use Rattle.std.specs.Prelude.{◌≡◌, ℕ}
use Rattle.layers.specs.Folders.{Account, seen, aside_check, back_check, set_aside, brought_back}

-- bringing u back is taken, and then all is as it was before u was set aside, the marks of u too
pub record Undone (a : Account) (u : ℕ) : Type 0 where
  pub taken : back_check (seen (set_aside a u)) (set_aside a u).own u ≡ 0
  pub same : brought_back (set_aside a u) u ≡ a

abbrev pub AsideAndBack : Type 0
AsideAndBack = (a : Account) (u : ℕ) → aside_check (seen a) u ≡ 0 → Undone a u
