-- A make that keeps a word of present records and a table of marks is a sheet. Assumes nothing.
use Rattle.std.specs.Prelude.{ℕ, ◌≤◌, Bool, cond, List}
use Rattle.std.proofs.Common.{sym, ap, ◌∙◌, le_refl, arith}
use Rattle.std.proofs.lemmas.Bool.{both_ways}
use Rattle.model.proofs.Digits.{has_beyond}
use Rattle.sheet.specs.declared.state.State.TheVariants.{Absent, Standing}
use Rattle.sheet.specs.Meanings.{Lawful, pairs}
use Rattle.sheet.specs.Kept.{kept_meaning, Irreflexive, PresentFrom, PresentTo}
use Rattle.sheet.specs.Rows.{row_marks, rows_meaning}
use Rattle.sheet.specs.Counts.{pairs_room}

-- the laws of a sheet, from what such a make promises of its table
pub kept_lawful : (present : ℕ) (m : ℕ → ℕ → Bool) (held capacity : ℕ) → Irreflexive m → PresentFrom present m → PresentTo present m
    → pairs m ≤ held → held ≤ capacity → 512 ≤ capacity → capacity ≤ 4032 → Lawful (kept_meaning present m held capacity)
kept_lawful present m held capacity free from to counted room least most =
    let state = λ (b : Bool). cond b Standing Absent in
    record {
      beyond = λ u h. ap state (has_beyond present u h);
      ends = λ u v h. (ap state (from u v h), ap state (to u v h), λ e. both_ways (m u v) (ap (m u) (sym e) ∙ free u) h);
      counted = counted;
      room = room;
      least = least;
      most = most;
    }

-- those of a bit sheet: at most as many pairs as there are places beside the diagonal
pub rows_lawful : (present : ℕ) (rows : List ℕ) → Irreflexive (row_marks rows) → PresentFrom present (row_marks rows) → PresentTo present (row_marks rows)
    → Lawful (rows_meaning present rows)
rows_lawful present rows free from to =
    let m = row_marks rows in
    kept_lawful present m (pairs m) 4032 free from to (le_refl (pairs m)) (pairs_room m free) (omega arith) (omega arith)
