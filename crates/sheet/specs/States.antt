-- Tests on the state of a number. Assumes nothing.
use Rattle.std.specs.Prelude.{Bool, true, false}
use Rattle.sheet.specs.declared.state.State.{State}
use Rattle.sheet.specs.declared.state.State.TheVariants.{Absent, Standing, Aside}

abbrev pub is_absent : State → Bool
is_absent Absent = true
is_absent Standing = false
is_absent Aside = false

abbrev pub is_standing : State → Bool
is_standing Absent = false
is_standing Standing = true
is_standing Aside = false

abbrev pub is_aside : State → Bool
is_aside Absent = false
is_aside Standing = false
is_aside Aside = true
