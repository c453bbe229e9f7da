use Rattle.std.proofs.Common.{ℕ, List, length, vec_items, sym, subst}
use Rattle.std.proofs.lemmas.List.{take_rest}
use Rattle.layers.specs.Folders.{Account}
use Rattle.layers.specs.FolderCalls.{account_of}
use Rattle.script.proofs.Judging.{Written, written_first, written_more, opened_all}
use Rattle.script.proofs.run.run_on.Goals as goal

pub loop-line-init : goal.loop-line-init
loop-line-init g c = written_first (account_of g.S.Sheet c.open-desk.result.folder) c.args.script.now (vec_items c.in_ok-out.out) c.in_ok-out.ensures

pub loop-line-preserved : goal.loop-line-preserved
loop-line-preserved g c =
    let n = length c.in-Some.line.now in
    subst (λ (r : List ℕ). Written (account_of g.S.Sheet c.open-desk.result.folder) c.args.script.now r (account_of g.S.Sheet c.add_line.new.desk.folder) (vec_items c.add_line.new.out))
    (sym (take_rest c.loop-line.rest.now n))
    (written_more c.in-Some.line.now c.loop-line.invariant c.in-Some.ensures c.in_ok-add_line.ensures)

pub returns : goal.returns
returns g c =
    let b = account_of g.S.Sheet c.loop-line.desk.folder in
    let out = vec_items c.loop-line.out in
    let all = subst (λ (a : Account). Written a c.args.script.now c.loop-line.rest.now b out) c.open-desk.ensures c.loop-line.invariant in
    opened_all g.S.Sheet c.args.sheet c.args.script.now c.loop-line.rest.now c.loop-line.desk all.heard out c.in_default.ensures all.printed
