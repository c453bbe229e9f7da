use Rattle.std.proofs.Common.{rules, ap}
use Rattle.archive.specs.Following.{asks}
use Rattle.archive.proofs.Following.{enter_answered, mark_answered, strike_answered, aside_answered, back_answered, wrong_answered}
use Rattle.archive.proofs.desk.change_in.Goals as goal

pub returns-in-Enter : goal.returns-in-Enter
returns-in-Enter g c = (ap asks c.in-Enter.is, λ x tells. enter_answered c.in-Enter.is (search rules) tells)

pub returns-in-Mark : goal.returns-in-Mark
returns-in-Mark g c = (ap asks c.in-Mark.is, λ x tells. mark_answered c.in-Mark.is (search rules) tells)

pub returns-in-Strike : goal.returns-in-Strike
returns-in-Strike g c = (ap asks c.in-Strike.is, λ x tells. strike_answered c.in-Strike.is (search rules) tells)

pub returns-in-SetAside : goal.returns-in-SetAside
returns-in-SetAside g c = (ap asks c.in-SetAside.is, λ x tells. aside_answered c.in-SetAside.is (search rules) tells)

pub returns-in-BringBack : goal.returns-in-BringBack
returns-in-BringBack g c = (ap asks c.in-BringBack.is, λ x tells. back_answered c.in-BringBack.is (search rules) tells)

pub returns-in-Wrong : goal.returns-in-Wrong
returns-in-Wrong g c = (ap asks c.in-Wrong.is, λ x tells. wrong_answered c.in-Wrong.is tells)
