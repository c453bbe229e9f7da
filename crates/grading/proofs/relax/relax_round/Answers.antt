use Rattle.std.proofs.Common.{List, ℕ, length, subst}
use Rattle.grading.specs.Relaxing.{Lowered, by_steps, Below}
use Rattle.grading.proofs.Rounding.{rounded_made}
use Rattle.grading.proofs.relax.relax_round.Goals as goal

pub returns : goal.returns
returns g c =
    let s = g.V.Scale in
    let p = c.args.problem.now in
    let from = c.args.from.now in
    let order = c.rising-order.result.items in
    let mid = c.relax_kind.new.to in
    let to = c.relax_kind-2.new.to in
    rounded_made s g.met.V.Scale.lawful p c.args.fallen from mid to order c.args.next.now c.relax_kind.new.next c.relax_kind-2.new.next c.rising-order.ensures c.requires.quiet
    (subst (λ xs. Lowered s (by_steps s p.mark p.graph.marks from) xs mid c.args.next.now c.relax_kind.new.next) c.copy_from_slice.ensures.after c.relax_kind.ensures.lowered)
    (subst (λ (xs : List ℕ). Below s p.mark p.graph.marks from xs (length xs) mid) c.deref.ensures.0 c.relax_kind.ensures.below)
    c.relax_kind-2.ensures.lowered
    (subst (λ (xs : List ℕ). Below s p.hop p.graph.hops from xs (length xs) to) c.deref-2.ensures.0 c.relax_kind-2.ensures.below)
