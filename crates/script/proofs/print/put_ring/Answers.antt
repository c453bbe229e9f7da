use Rattle.std.proofs.Common.{Bool, cond, [], ◌++◌, codes, sym, ◌∙◌, subst, arith}
use Rattle.std.specs.List.{flat_map}
use Rattle.script.specs.Numbers.{field}
use Rattle.script.specs.Puts.{PutAt}
use Rattle.script.proofs.Puts.{put_both, put_wider}
use Rattle.script.proofs.print.put_ring.Goals as goal

pub returns : goal.returns
returns c =
    subst (λ (b : Bool). PutAt 261 (cond b [] (codes " ring" ++ flat_map field c.args.ring.now)) c.args.at c.args.out.now c.put_all.new.out c.put_all.result)
    (sym c.if-is_empty.false ∙ c.is_empty.ensures)
    (put_wider (put_both c.put_text-at.ensures c.put_all.ensures) 261 (omega (arith, c.requires.few)))
