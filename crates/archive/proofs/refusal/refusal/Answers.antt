use Rattle.archive.specs.Told.{plain}
use Rattle.archive.proofs.Telling.{plain_number, with_ring}
use Rattle.archive.proofs.refusal.refusal.Goals as goal

pub returns-in-Circle : goal.returns-in-Circle
returns-in-Circle c =
    rw c.in-Circle.decline-is (with_ring c.args.decline c.in-Circle.k c.args.ring.now c.list_ring.result c.in-Circle.is c.requires.there c.list_ring.ensures)

pub returns-in_default : goal.returns-in_default
returns-in_default c =
    let n = plain_number c.args.decline c.in_default.not-Circle c.in_default.not-Forbidden in
    plain n.0 n.1
