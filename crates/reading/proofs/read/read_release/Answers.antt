use Rattle.std.proofs.Common.{ℕ, sym, subst}
use Rattle.form.specs.Got.{Got}
use Rattle.form.specs.Contents.{Contents}
use mathlib.Core.Path.{fun_ext}
use Rattle.reading.specs.Told.{Told}
use Rattle.reading.specs.Reads.{HoldsOrNot, FormFirst}
use Rattle.reading.proofs.read.read_release.Goals as goal

pub returns : goal.returns
returns c =
    let read = c.in_ok-read_claim.ensures in
    subst (λ (g : Got Contents). FormFirst g c.of.result) (sym read.1)
    (subst (λ (what : ℕ → ℕ → Told). HoldsOrNot what c.of.result) (fun_ext (λ e. fun_ext (λ h. read.2.tells e h))) c.of.ensures)
