-- One record more of a list of grades. Assumes nothing.
use Rattle.std.proofs.Common.{◌≡◌, ℕ, ◌+◌, ◌++◌, refl, add-one}
use Rattle.model.specs.Views.{View}
use Rattle.archive.specs.Entries.{entry, entries_below}

pub entries_more : {V : Type 0} (w : View) (g : ℕ → V) (n : ℕ) → entries_below w g (n + 1) ≡ entries_below w g n ++ entry (w.stands n) n (g n)
unfolding entries_below
entries_more w g n = rw (add-one n) refl
