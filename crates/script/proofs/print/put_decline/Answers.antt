use Rattle.std.proofs.Common.{ℕ, subst}
use Rattle.script.specs.Numbers.{field}
use Rattle.script.specs.Puts.{PutAt}
use Rattle.script.proofs.Puts.{put_both}
use Rattle.script.proofs.print.put_decline.Goals as goal

pub returns : goal.returns
returns c =
    put_both c.put_text-at.ensures
    (subst (λ (n : ℕ). PutAt 4 (field n) c.put_text-at.result c.put_text-at.new.out c.put.new.out c.put.result) c.number.ensures c.put.ensures)
