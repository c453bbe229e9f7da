-- What stands on a sheet of any make, and what is marked there: all that a grading goes by. Assumes nothing.
use Rattle.model.specs.Views.{View}
use Rattle.sheet.specs.declared.meaning.Sheet.{Ghosts}
use Rattle.sheet.specs.Meanings.{Meaning, meaning}
use Rattle.sheet.specs.States.{is_standing}

abbrev pub meaning_of : {S : Type 0} → Ghosts S → S → Meaning
meaning_of g s = meaning g.states g.marks g.held g.capacity s

abbrev pub view_in : Meaning → View
view_in m = record { stands = λ u. is_standing (m.states u); marked = m.marks }

abbrev pub view_of : {S : Type 0} → Ghosts S → S → View
view_of g s = record { stands = λ u. is_standing (g.states s u); marked = g.marks s }
