use Rattle.std.proofs.Common.{take, sym, rules, subst, length-take-le}
use Rattle.std.proofs.lemmas.Result.{err_from_is_err_and}
use Rattle.dispatch.specs.Dispatches.{ReleaseOf}
use Rattle.dispatch.proofs.Handing.{script_written, script_refused}
use Rattle.dispatch.proofs.dispatch.dispatch.Goals as goal

pub returns-in_err-length : goal.returns-in_err-length
returns-in_err-length c =
    let p = err_from_is_err_and c.from_residual.result c.from_residual.ensures.1 in
    rw (p.1, p.2) (script_refused c.args.script.now _ _ _ c.dispatch_into.new.out c.lend.ensures.enough c.in_err-length.field-0.0 (search rules) (search rules) c.in_err-length.ensures.written)

pub slice_bounds-out-end : goal.slice_bounds-out-end
slice_bounds-out-end c = (script_written c.args.script.now _ _ _ c.dispatch_into.new.out c.lend.ensures.enough c.in_ok-length.length c.in_ok-length.ensures.written).0

pub slice_bounds-from_slice-end : goal.slice_bounds-from_slice-end
slice_bounds-from_slice-end c =
    sym (length-take-le c.in_ok-length.length c.dispatch_into.new.out (script_written c.args.script.now _ _ _ c.dispatch_into.new.out c.lend.ensures.enough c.in_ok-length.length c.in_ok-length.ensures.written).0)

pub returns-in_err-from_slice : goal.returns-in_err-from_slice
returns-in_err-from_slice c =
    let p = err_from_is_err_and c.from_residual-in_err-from_slice.result c.from_residual-in_err-from_slice.ensures.1 in
    rw (p.1, p.2) ((script_written c.args.script.now _ _ _ c.dispatch_into.new.out c.lend.ensures.enough c.in_ok-length.length c.in_ok-length.ensures.written).1 _ (λ w made. (take c.in_ok-length.length c.dispatch_into.new.out, made)))

pub returns : goal.returns
returns c =
    (script_written c.args.script.now _ _ _ c.dispatch_into.new.out c.lend.ensures.enough c.in_ok-length.length c.in_ok-length.ensures.written).1 _
    (λ w made. subst (ReleaseOf w) (sym c.in_ok-from_slice.ensures.items) made)
