use Rattle.sheet.specs.Views.{view_of}
use Rattle.bridge.specs.Questions.{StrictHanded}
use Rattle.bridge.proofs.Handing.{told_exactly, of_filled}
use Rattle.bridge.proofs.questions.strict.Goals as goal

pub returns : goal.returns
returns g c e =
    let w = view_of g.S.Sheet c.filled-sheet.result in
    let t = c.args.thresholds in
    of_filled g.S.Sheet c.args.new c.filled-sheet.result (g.S.Sheet.capacity c.args.new) c.args.records.now c.args.pairs.now c.args.times (λ w. StrictHanded w t)
    c.args.answer.now c.ask.new.answer c.filled-sheet.ensures e
    (record { once = λ asked. told_exactly w t c.ask.new.answer (c.ask.ensures.once asked); never = c.ask.ensures.never })
