use Rattle.std.proofs.Common.{rules, arith}
use Rattle.script.specs.Puts.{PutAt}
use Rattle.script.specs.Text.{ring_text}
use Rattle.script.proofs.Puts.{put_both, put_wider}
use Rattle.script.proofs.print.put_answer.Goals as goal

pub returns-in-Forced : goal.returns-in-Forced
returns-in-Forced c =
    let ring : PutAt 261 (ring_text c.in-Forced.ring.items) c.put_decline-at.result c.put_decline-at.new.out c.put_ring.new.out c.put_ring.result = search rules in
    rw c.in-Forced.is (put_wider (put_both c.put_decline-at.ensures ring) 2047 (omega arith))

pub returns-in-Ratio : goal.returns-in-Ratio
returns-in-Ratio c =
    let ring : PutAt 261 (ring_text c.in-Ratio.ring.items) c.put_ratio-at.result c.put_ratio-at.new.out c.put_ring-in-Ratio.new.out c.put_ring-in-Ratio.result = search rules in
    rw c.in-Ratio.is (put_wider (put_both c.put_ratio-at.ensures ring) 2047 (omega arith))
