use Rattle.layers.specs.FolderCalls.{account_of}
use Rattle.archive.proofs.Following.{changed_tidy, changed_answered}
use Rattle.archive.proofs.desk.Desk.change.Goals as goal

pub invariant_of-self : goal.invariant_of-self
invariant_of-self g c = record {
  tidy = changed_tidy (account_of g.S.Sheet c.args.self.now.folder) (account_of g.S.Sheet c.change_in.new.folder) c.args.call c.change_in.result c.change_in.ensures c.args.self.now.tidy;
}

pub returns : goal.returns
returns g c =
    changed_answered (account_of g.S.Sheet c.args.self.now.folder) (account_of g.S.Sheet c.change_in.new.folder) c.args.call c.change_in.result c.change_in.ensures
    c.args.self.now.tidy
