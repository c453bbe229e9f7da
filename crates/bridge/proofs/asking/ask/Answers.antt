use Rattle.std.proofs.Common.{sym, subst, arith}
use Rattle.sheet.specs.Views.{view_of}
use Rattle.bridge.specs.declared.answer.Answer.{Answer}
use Rattle.bridge.specs.Answers.{Handed}
use Rattle.bridge.proofs.Handing.{handed}
use Rattle.bridge.proofs.asking.ask.Goals as goal

pub returns-in-Some : goal.returns-in-Some
returns-in-Some g c =
    let w = view_of g.S.Sheet c.args.sheet.now in
    let q = g.Q.Question.asking c.args.question w in
    record {
      once = λ asked. subst (λ (a : Answer). Handed w g.V.Told.tells q a) (sym c.of.ensures)
          (handed w g.V.Scale.nothing g.V.Told.tells g.met.V.Told.naught q c.ask_often.new.grades c.numbers.result c.numbers.ensures c.in-Some.given c.in-Some.ensures.1);
      never = λ unasked. absurd (omega (arith, c.in-Some.ensures.0));
    }
