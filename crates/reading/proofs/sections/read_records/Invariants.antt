use Rattle.std.proofs.Common.{◌-◌, ◌≤◌}
use Rattle.form.specs.Reading.{number_from, above, records_part}
use Rattle.reading.proofs.Progress.{Progress}
use Rattle.reading.proofs.Sets.{Risen}
use Rattle.reading.proofs.sections.read_records.Given as goal

abbrev pub invariant-loop : goal.invariant-loop
invariant-loop l = (l.low ≤ 64) × Progress number_from above (records_part l.fn.reader.rest.now) (l.end - l.counter) l.low l.reader.rest.now (Risen l.records l.low)
