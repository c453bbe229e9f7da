use Rattle.std.proofs.Common.{◌≡◌, ℕ, ◌-◌}
use Rattle.arrayvec.specs.ArrayVec.{array_vec_len}
use Rattle.form.specs.Reading.{number, any, ring_part}
use Rattle.reading.proofs.Progress.{Progress}
use Rattle.reading.proofs.sections.read_ring.Given as goal

abbrev pub invariant-loop : goal.invariant-loop
invariant-loop l =
    (array_vec_len l.ring ≡ l.counter)
    × Progress {S = ℕ} (λ _. number) any (ring_part l.fn.reader.rest.now) (l.end - l.counter) 0 l.reader.rest.now (λ ys. ys ≡ l.ring.items)
