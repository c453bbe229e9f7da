use Rattle.sheet.specs.Views.{view_of}
use Rattle.round.proofs.Returning.{trip, drawn_of}
use Rattle.round.proofs.theorems.round_trip.Goals as goal

pub returns : goal.returns
returns g c = λ s before after out_before out_after n a. trip (view_of g.S.Sheet s) (drawn_of g.S.Sheet s (g.met.S.Sheet.lawful s)) before after out_before out_after n a
