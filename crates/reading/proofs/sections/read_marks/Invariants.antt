use Rattle.std.proofs.Common.{◌≡◌, length, ◌-◌}
use Rattle.model.specs.Sets.{has}
use Rattle.form.specs.Reading.{pair_from, later, marks_part}
use Rattle.reading.specs.Claims.{AreRows}
use Rattle.reading.proofs.Progress.{Progress}
use Rattle.reading.proofs.sections.read_marks.Given as goal

abbrev pub invariant-loop : goal.invariant-loop
invariant-loop l =
    (length l.rows ≡ 64)
    × Progress (pair_from (has l.records)) later (marks_part (has l.records) l.fn.reader.rest.now) (l.end - l.counter) l.low l.reader.rest.now (λ ms. AreRows l.records ms l.rows)
