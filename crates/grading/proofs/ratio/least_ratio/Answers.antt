use Rattle.std.proofs.Common.{ℕ, ◌≤◌, List, ◌++◌, length, drop, sym, refl, ap, subst, arith, rules, length-take-le}
use Rattle.std.proofs.lemmas.Slice.{drop-append-drop}
use Rattle.sheet.specs.Views.{view_of}
use Rattle.grading.specs.Outcomes.{memory, brought, suffices}
use Rattle.grading.specs.Ratios.{RatioFound}
use Rattle.grading.proofs.Checked.{when_true}
use Rattle.grading.proofs.Climbing.{answered}
use Rattle.grading.proofs.Spelling.{enough_parts}
use Rattle.grading.proofs.ratio.least_ratio.Goals as goal

pub returns-clause-found : goal.returns-clause-found
returns-clause-found g c =
    let w = view_of g.S.Sheet c.args.sheet.now in
    let before = brought c.args.memory.now in
    let climbed = c.climb_beside-best in
    let rest = drop climbed.result.ring before.ring in
    let after = memory climbed.new.grades (c.copy_from_slice.new.self ++ rest) climbed.new.values climbed.new.bytes in
    let room : 64 ≤ length climbed.new.ring = omega arith in
    subst (RatioFound w before after) (sym c.answer.ensures)
    (when_true (suffices before) _ _ (sym c.if-not-is_enough.ensures)
    (answered w before after climbed.new.ring climbed.result room climbed.ensures.climbed (ap (λ (xs : List ℕ). xs ++ rest) c.copy_from_slice.ensures.after)))

pub returns-clause-same : goal.returns-clause-same
returns-clause-same g c =
    let ring = c.args.memory.now.ring.now in
    let k = c.climb_beside-best.result.ring in
    let past = c.climb_beside-best.ensures.past in
    let short : k ≤ 64 = c.climb_beside-best.ensures.climbed.held.short in
    let room : 64 ≤ length ring = (enough_parts (length c.args.memory.now.grades.now) (length ring) (length c.args.memory.now.values.now) (length c.args.memory.now.bytes.now) (sym c.if-not-is_enough.ensures)).ring_64 in
    let fits : k ≤ length ring = omega arith in
    record {
      grades = search rules;
      ring = (refl, grind arith);
      values = search rules;
      bytes = search rules;
      past = record {
        grades = past.grades;
        ring = drop-append-drop k ring c.copy_from_slice.new.self 64 short (omega (arith, length-take-le k ring fits));
        values = past.values;
        bytes = past.bytes;
      };
    }
