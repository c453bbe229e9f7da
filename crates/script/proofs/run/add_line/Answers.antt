use Rattle.layers.specs.FolderCalls.{account_of}
use Rattle.script.proofs.Judging.{lengthened_by}
use Rattle.script.proofs.run.add_line.Goals as goal

pub returns : goal.returns
returns g c =
    lengthened_by (account_of g.S.Sheet c.args.desk.now.folder) (account_of g.S.Sheet c.step.new.desk.folder) c.args.line.now c.args.text.now c.step.new.out
    c.args.out.now.items c.extend_from_slice.new.self.items c.in-Ok.n c.extend_from_slice.result c.in-Ok.ensures c.extend_from_slice.ensures.items
