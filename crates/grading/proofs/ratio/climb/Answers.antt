use Rattle.std.proofs.Common.{ℕ, ltb, List, sym, ap, ◌∙◌, subst}
use Rattle.model.specs.declared.thresholds.Thresholds.{Thresholds}
use Rattle.scale.specs.declared.whole.Whole.{Whole}
use Rattle.paths.specs.Numbers.{BestLoose}
use Rattle.grading.specs.Ratios.{grade_at, Held}
use Rattle.grading.proofs.Checked.{when_true}
use Rattle.sheet.specs.Views.{view_of}
use Rattle.grading.proofs.Climbing.{room_next}
use Rattle.grading.proofs.ratio.climb.Goals as goal

pub loop-graph-smaller : goal.loop-graph-smaller
loop-graph-smaller g c =
    let w = view_of g.S.Sheet c.args.sheet.now in
    let found = c.in-Err.ensures.solved w c.read-graph.ensures in
    room_next w c.loop-graph.best c.of-best.result c.thresholds.result c.thresholds.ensures c.solve_loosely.new.memory.ring.now c.in-Err.found.ring found.short found.ring
    c.count_steps.result c.count_steps.ensures.few (rw (← c.shown.ensures) (c.count_steps.ensures.counted w c.read-graph.ensures)) c.of-best.ensures
    (sym c.loop-graph-test.ensures) c.loop-graph.invariant.held.few_hops

pub returns-in-Ok-clause-climbed : goal.returns-in-Ok-clause-climbed
returns-in-Ok-clause-climbed g c =
    let w = view_of g.S.Sheet c.args.sheet.now in
    let given = c.in-Ok.ensures.solved w c.read-graph.ensures in
    let best = c.loop-graph.best in
    let after = c.solve_loosely.new.memory.grades.now in
    record {
      held = subst (λ (xs : List ℕ). Held w xs best) (sym given.ring) c.loop-graph.invariant.held;
      grades = when_true (ltb 0 best.hops) _ _ (sym c.loop-graph-test.ensures) (record {
        best = subst (λ (t : Thresholds). BestLoose w t (λ u. (grade_at after u).value)) c.thresholds.ensures given.grades;
        others = λ u f. given.others u f ∙ ap (λ (gs : List Whole). grade_at gs u) c.loop-graph.invariant.grades;
      });
    }
