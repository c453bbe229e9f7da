use Rattle.std.proofs.Common.{ℕ, List, length, sym, subst}
use Rattle.std.proofs.lemmas.List.{take_rest}
use Rattle.layers.specs.Folders.{Account}
use Rattle.layers.specs.FolderCalls.{account_of}
use Rattle.script.specs.Cuts.{LineCall}
use Rattle.script.proofs.Judging.{Heard, heard_first, heard_more, left_all}
use Rattle.script.proofs.run.desk_after.Goals as goal

pub loop-line-init : goal.loop-line-init
loop-line-init g c = heard_first (account_of g.S.Sheet c.open-desk.result.folder) c.args.lines.now

pub loop-line-preserved : goal.loop-line-preserved
loop-line-preserved g c =
    subst (λ (r : List ℕ). Heard (account_of g.S.Sheet c.open-desk.result.folder) c.args.lines.now r (account_of g.S.Sheet c.answer.new.self.folder))
    (sym (take_rest c.loop-line.rest.now (length c.in-Some.line.now)))
    (heard_more c.in-Some.line.now c.call_in.result c.answer.result c.loop-line.invariant c.in-Some.ensures
    (subst (λ (l : List ℕ). LineCall l c.call_in.result) c.bare.ensures c.call_in.ensures) c.answer.ensures)

pub returns : goal.returns
returns g c =
    left_all g.S.Sheet c.args.sheet c.args.lines.now c.loop-line.rest.now c.loop-line.desk
    (subst (λ (a : Account). Heard a c.args.lines.now c.loop-line.rest.now (account_of g.S.Sheet c.loop-line.desk.folder)) c.open-desk.ensures c.loop-line.invariant)
    c.in_default.ensures
