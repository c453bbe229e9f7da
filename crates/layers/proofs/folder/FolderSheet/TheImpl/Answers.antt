use Rattle.layers.specs.FolderCalls.{account_of}
use Rattle.layers.proofs.Filing.{seen_called, enter_seen, mark_seen, strike_seen}
use Rattle.layers.proofs.folder.FolderSheet.TheImpl.Goals as goal

-- what each call makes of the account, as what it makes of the meaning that is seen
pub enter-tells : goal.enter-tells
enter-tells g c =
    let f = c.args.self.now in
    seen_called (enter_seen (account_of g.S.Sheet f) c.args.u (g.met.S.Sheet.lawful f.below)) c.ensures.account

pub mark-tells : goal.mark-tells
mark-tells g c = seen_called (mark_seen (account_of g.S.Sheet c.args.self.now) c.args.u c.args.v) c.ensures.account

pub strike-tells : goal.strike-tells
strike-tells g c = seen_called (strike_seen (account_of g.S.Sheet c.args.self.now) c.args.u c.args.v) c.ensures.account
