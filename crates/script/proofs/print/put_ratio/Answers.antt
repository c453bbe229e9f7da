use Rattle.script.proofs.Puts.{put_both}
use Rattle.script.proofs.print.put_ratio.Goals as goal

pub returns : goal.returns
returns c = put_both c.put_text-at.ensures (put_both c.put-at.ensures (put_both c.put_text-at-2.ensures c.put_number.ensures))
