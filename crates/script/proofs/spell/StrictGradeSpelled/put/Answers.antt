use Rattle.std.proofs.Common.{rules}
use Rattle.std.specs.Fmt.{signed_decimal}
use Rattle.script.specs.Puts.{PutAt}
use Rattle.script.proofs.Puts.{put_both}
use Rattle.script.proofs.spell.StrictGradeSpelled.put.Goals as goal

pub returns : goal.returns
returns c =
    let first : PutAt 20 (signed_decimal c.args.self.a) c.args.at c.args.out.now c.put_number-at.new.out c.put_number-at.result = search rules in
    let second : PutAt 4 (signed_decimal c.args.self.b) c.put_text-at.result c.put_text-at.new.out c.put_number.new.out c.put_number.result = search rules in
    put_both first (put_both c.put_text-at.ensures second)
