use Rattle.std.proofs.Common.{Bool, cond, sym, refl, rules}
use Rattle.sheet.proofs.Checking.{pair_clear}
use Rattle.layers.specs.Folders.{filed_states}
use Rattle.layers.specs.FolderCalls.{account_of}
use Rattle.layers.proofs.Filing.{below_called, pair_failed, pair_seen}
use Rattle.layers.proofs.folder.FolderSheet.strike.Goals as goal

pub returns-in_err-check_here : goal.returns-in_err-check_here
returns-in_err-check_here g c = record { account = pair_failed c.args.u c.args.v _ c.in_err-check_here.field-0.0 c.from_residual.ensures.1 (search rules) (search rules) }

pub returns : goal.returns
returns g c =
    let f = account_of g.S.Sheet c.args.self.now in
    let clear = pair_clear c.args.u c.args.v (filed_states f c.args.u) (filed_states f c.args.v) 0
    (sym c.in_ok-check_here.ensures) in
    record { account = below_called refl (pair_seen f c.args.u c.args.v (λ (b : Bool). cond b 0 9) clear) (search rules) }
