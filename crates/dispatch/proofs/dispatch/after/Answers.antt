use Rattle.std.proofs.Common.{Ok, Err, ap, ◌∙◌, subst}
use Rattle.std.proofs.lemmas.Result.{err_from_is_err_and}
use Rattle.sheet.specs.Meanings.{Meaning}
use Rattle.sheet.specs.Views.{view_in}
use Rattle.layers.specs.Folders.{seen}
use Rattle.layers.specs.FolderCalls.{account_of}
use Rattle.layers.specs.declared.folder.Folder.{Folder}
use Rattle.grading.specs.Outcomes.{brought}
use Rattle.release.specs.Writing.{Released}
use Rattle.dispatch.proofs.dispatch.after.Goals as goal

pub returns-in_err-length-clause-written : goal.returns-in_err-length-clause-written
returns-in_err-length-clause-written g c =
    let left = c.desk_after.ensures in
    let p = err_from_is_err_and c.from_residual.result c.from_residual.ensures.1 in
    let same = ap (λ (f : Folder g.row.S.Denot). seen (account_of g.S.Sheet f)) c.folder.ensures ∙ left.questions in
    rw (p.1, p.2) (record {
      calls = left.calls;
      spoken = left.spoken;
      released = subst (λ (m : Meaning). Released (view_in m) (brought c.args.memory.now) (brought c.write_and_read.new.memory) c.args.out.now c.write_and_read.new.out (Err c.in_err-length.field-0.0)) same c.in_err-length.ensures.released;
      read = tt;
    })

pub returns-clause-written : goal.returns-clause-written
returns-clause-written g c =
    let left = c.desk_after.ensures in
    let same = ap (λ (f : Folder g.row.S.Denot). seen (account_of g.S.Sheet f)) c.folder.ensures ∙ left.questions in
    record {
      calls = left.calls;
      spoken = left.spoken;
      released = subst (λ (m : Meaning). Released (view_in m) (brought c.args.memory.now) (brought c.write_and_read.new.memory) c.args.out.now c.write_and_read.new.out (Ok c.in_ok-length.length)) same c.in_ok-length.ensures.released;
      read = (c.in_ok-length.field-0-1, c.in_ok-length.ensures.back);
    }
