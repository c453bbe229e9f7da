use Rattle.std.proofs.Common.{◌≡◌, ℕ, length}
use Rattle.form.specs.Reading.{two_bytes, any, depths_part}
use Rattle.form.specs.Sections.{records_below}
use Rattle.reading.specs.Claims.{of_set}
use Rattle.reading.proofs.Progress.{Progress}
use Rattle.reading.proofs.Places.{Placed, left_from}
use Rattle.reading.proofs.sections.read_depths.Given as goal

abbrev pub invariant-loop-u : goal.invariant-loop-u
invariant-loop-u l =
    (length l.depths ≡ 64)
    × Progress {S = ℕ} (λ _. two_bytes) any (depths_part (length (records_below (of_set l.records) 64)) l.fn.reader.rest.now)
    (left_from l.records l.u) 0 l.reader.rest.now (Placed l.records l.u l.depths)
