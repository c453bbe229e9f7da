use Rattle.script.proofs.Puts.{put_more}
use Rattle.script.proofs.spell.put_all.Goals as goal

pub loop-item-preserved : goal.loop-item-preserved
loop-item-preserved g c =
    put_more g.T.Spelled.text g.T.Spelled.width c.loop-item.item-index c.args.at c.loop-item.at c.put-at.result c.args.items.now c.item-item.result c.args.out.now c.loop-item.out c.put-at.new.out
    c.loop-item-test.true c.item-item.is c.loop-item.invariant c.put-at.ensures
