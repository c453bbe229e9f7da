use Rattle.bridge.specs.Answers.{Handed}
use Rattle.bridge.specs.Questions.{whole_told}
use Rattle.bridge.proofs.Handing.{of_filled}
use Rattle.bridge.proofs.questions.ask_in_wholes.Goals as goal

pub returns : goal.returns
returns g c e =
    of_filled g.S.Sheet c.args.new c.filled-sheet.result (g.S.Sheet.capacity c.args.new) c.args.records.now c.args.pairs.now c.args.times (λ w. Handed w whole_told (g.Q.Question.asking c.args.question w))
    c.args.answer.now c.ask.new.answer c.filled-sheet.ensures e c.ask.ensures
