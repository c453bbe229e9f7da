use Rattle.std.proofs.Common.{◌≡◌, ℕ, ◌-◌, ◌≤◌, ◌++◌, length, take, sym, refl, subst, arith, rules}
use Rattle.paths.specs.Bests.{Forbids}
use Rattle.grading.proofs.Ends.{end_kept, end_behind}
use Rattle.grading.proofs.Spelling.{enough_parts, best_made, others_kept, forbids_shown}
use Rattle.grading.proofs.solve.solve.Goals as goal

pub returns-in-Ok-clause-past : goal.returns-in-Ok-clause-past
returns-in-Ok-clause-past g c = record {
  grades = end_kept g.V.Scale.nothing 64 c.args.grades.now c.copy_values.new.to (omega arith) (λ i l. c.copy_values.ensures.outside i (λ small. absurd (omega arith)));
  ring = refl;
  values = end_behind 4160 (c.settle_in_bytes.new.old ++ (c.settle_in_bytes.new.new ++ c.split_at_mut-new.result.1.now)) c.split_at_mut-values.result.1.now c.args.values.now c.split_at_mut-values.ensures.back (grind arith);
  bytes = end_behind 4160 c.settle_in_bytes.new.bytes c.split_at_mut-bytes.result.1.now c.args.bytes.now c.split_at_mut-bytes.ensures.back (search rules);
}

pub returns-in-Err-clause-past : goal.returns-in-Err-clause-past
returns-in-Err-clause-past g c =
    let top : c.in-Err.span.high ≤ 64 = c.in-Err.ensures.again.within in
    let long : c.write_ring.result ≡ c.in-Err.span.high - c.in-Err.span.low = c.write_ring.ensures.long in
    record {
      grades = refl;
      ring = end_kept 0 64 c.args.ring.now c.write_ring.new.ring (omega arith) (λ i l. c.write_ring.ensures.kept i (omega arith));
      values = end_behind 4160 (c.settle_in_bytes.new.old ++ (c.settle_in_bytes.new.new ++ c.split_at_mut-new.result.1.now)) c.split_at_mut-values.result.1.now c.args.values.now c.split_at_mut-values.ensures.back (grind arith);
      bytes = end_behind 4160 c.settle_in_bytes.new.bytes c.split_at_mut-bytes.result.1.now c.args.bytes.now c.split_at_mut-bytes.ensures.back (search rules);
    }

pub copy_values-requires : goal.copy_values-requires
copy_values-requires g c =
    let room : 64 ≤ length c.args.grades.now = (enough_parts (length c.args.grades.now) (length c.args.ring.now) (length c.args.values.now) (length c.args.bytes.now) c.requires.room).grades_64 in
    (omega arith, room)

pub write_ring-requires : goal.write_ring-requires
write_ring-requires g c =
    let room : 64 ≤ length c.args.ring.now = (enough_parts (length c.args.grades.now) (length c.args.ring.now) (length c.args.values.now) (length c.args.bytes.now) c.requires.room).ring_64 in
    room

pub returns-in-Ok-clause-solved : goal.returns-in-Ok-clause-solved
returns-in-Ok-clause-solved g c w t spells =
    let s = g.V.Scale in
    let laws = g.met.V.Scale.lawful in
    let p = c.args.problem.now in
    record {
      grades = best_made s laws w t p spells c.settle_in_bytes.new.old c.args.grades.now c.copy_values.new.to c.in-Ok.ensures c.copy_values.ensures;
      others = others_kept s laws w t p spells c.settle_in_bytes.new.old c.args.grades.now c.copy_values.new.to c.in-Ok.ensures c.copy_values.ensures;
      ring = refl;
    }

pub returns-in-Err-clause-solved : goal.returns-in-Err-clause-solved
returns-in-Err-clause-solved g c w t spells =
    let s = g.V.Scale in
    let laws = g.met.V.Scale.lawful in
    let p = c.args.problem.now in
    let loop = c.in-Err.ensures in
    let low = c.in-Err.span.low in
    let high = c.in-Err.span.high in
    let top : c.in-Err.span.high ≤ 64 = loop.again.within in
    let long : c.write_ring.result ≡ c.in-Err.span.high - c.in-Err.span.low = c.write_ring.ensures.long in
    let room : 64 ≤ length c.write_ring.new.ring = omega (arith, (enough_parts (length c.args.grades.now) (length c.args.ring.now) (length c.args.values.now) (length c.args.bytes.now) c.requires.room).ring_64) in
    record {
      short = omega arith;
      ring = subst (λ (k : ℕ). Forbids s w t (take k c.write_ring.new.ring)) (sym long) (forbids_shown s laws w t p spells c.settle_in_bytes.new.walk c.write_ring.new.ring low high loop c.write_ring.ensures.written room);
      past = c.write_ring.ensures.kept;
      grades = refl;
    }
