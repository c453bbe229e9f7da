use Rattle.std.proofs.Common.{◌≡◌, ◌<◌, MatchOption}
use Rattle.sheet.specs.Views.{view_of}
use Rattle.bridge.specs.Answers.{Answered}
use Rattle.bridge.proofs.asking.ask_often.Given as goal

abbrev pub invariant-loop : goal.invariant-loop
invariant-loop g l =
    let w = view_of g.S.Sheet l.sheet in
    MatchOption l.last (l.counter ≡ 0) (λ given. (0 < l.counter) × Answered w g.V.Scale.nothing (g.Q.Question.asking l.question w) l.grades given)
