use Rattle.std.proofs.Common.{ℕ, List, subst, arith}
use Rattle.layers.specs.FolderCalls.{account_of}
use Rattle.script.specs.Cuts.{LineCall}
use Rattle.script.proofs.Judging.{stepped}
use Rattle.script.proofs.step.step.Goals as goal

pub returns-in-Some : goal.returns-in-Some
returns-in-Some g c =
    stepped (account_of g.S.Sheet c.args.desk.now.folder) (account_of g.S.Sheet c.change.new.self.folder) c.args.line.now c.args.out.now c.print.new.out
    c.call_in-call.result c.into.result c.print.result (omega (arith, c.if-out-lt2048.false))
    (subst (λ (l : List ℕ). LineCall l c.call_in-call.result) c.bare.ensures c.call_in-call.ensures) (c.in-Some.ensures.1 c.into.result c.into.ensures) c.print.ensures
