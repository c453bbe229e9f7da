use Rattle.std.proofs.Common.{◌≡◌, ℕ, ◌+◌, ◌<◌, List, ◌∷◌, [], ◌++◌, length, get_or, take, set, refl, sym, ◌∙◌, subst, arith}
use Rattle.std.proofs.Math.Seq.{take-length}
use Rattle.std.proofs.lemmas.List.{take_more, take_more_set, drop-set-lt}
use Rattle.layers.specs.Folders.{Account}
use Rattle.layers.specs.FolderCalls.{account_of}
use Rattle.archive.specs.declared.call.Call.{Call}
use Rattle.archive.specs.declared.call.Call.TheVariants.{Enter}
use Rattle.archive.specs.declared.answer.Answer.{Answer}
use Rattle.archive.specs.Histories.{History, begun}
use Rattle.archive.specs.Right.{Right}
use Rattle.archive.proofs.Histories.{one_more}
use Rattle.archive.proofs.Replaying.{replayed}
use Rattle.archive.proofs.replay.replay.Goals as goal

pub loop-i-init : goal.loop-i-init
loop-i-init g c = (begun, refl)

pub loop-i-preserved : goal.loop-i-preserved
loop-i-preserved g c =
    let a = account_of g.S.Sheet c.open-desk.result.folder in
    let d = account_of g.S.Sheet c.answer.new.self.folder in
    let i = c.loop-i.i in
    let cs = c.args.calls.now in
    let xs = c.loop-i.answers in
    let x = c.answer.result in
    let inv = c.loop-i.invariant in
    let call = get_or cs i (Enter 0) in
    let here : i < length xs = omega arith in (
      subst (λ (ds : List Call). History Right a ds (take (i + 1) (set xs i x)) d) (sym (take_more cs i (Enter 0) c.loop-i-test.true))
          (subst (λ (ys : List Answer). History Right a (take i cs ++ (call ∷ [])) ys d) (sym (take_more_set xs i x here)) (one_more Right call x inv.0 c.answer.ensures)),
      drop-set-lt (length cs) xs i x c.loop-i-test.true ∙ inv.1,
    )

pub returns : goal.returns
returns g c =
    let cs = c.args.calls.now in
    let xs = c.loop-i.answers in
    let inv = c.loop-i.invariant in
    let folder = c.loop-i.desk.folder in
    let a = account_of g.S.Sheet c.open-desk.result.folder in
    let b = account_of g.S.Sheet folder in
    let i : c.loop-i.i ≡ length cs = omega arith in
    let each = subst (λ (n : ℕ). History Right a (take n cs) (take n xs) b) i inv.0 in
    let all = subst (λ (ds : List Call). History Right a ds (take (length cs) xs) b) (take-length cs) each in (
      omega arith,
      replayed g.S.Sheet c.args.sheet c.loop-i.desk cs (take (length cs) xs) (subst (λ (e : Account). History Right e cs (take (length cs) xs) b) c.open-desk.ensures all),
      inv.1,
    )
