-- Values as answers have them: a loose or unit grade as its number, a strict one as its two numbers. Assumes nothing.
use Rattle.std.specs.Prelude.{◌≤◌, ℤ, unsigned_abs}
use Rattle.scale.specs.declared.whole.Whole.{Whole}
use Rattle.scale.specs.declared.unit.Unit.{Unit as UnitValue}
use Rattle.scale.specs.declared.pair.Pair.{Pair}
use Rattle.scale.specs.Wholes.{of_whole}
use Rattle.scale.specs.Units.{of_unit}
use Rattle.scale.specs.Pairs.{both}
use Rattle.archive.specs.declared.answer.StrictGrade.{StrictGrade}

abbrev pub whole_shown : Whole → ℤ
whole_shown x = x.value

abbrev pub unit_shown : UnitValue → ℤ
unit_shown x = x.value

abbrev pub pair_shown : Pair Whole UnitValue → StrictGrade
pair_shown p = record { a = p.first.value; b = p.second.value }

-- the pair that a strict grade shows
abbrev pub pair_in : StrictGrade → Pair Whole UnitValue
pair_in g = both (of_whole g.a) (of_unit g.b)

-- a number has room for every value
abbrev pub Always : {V : Type 0} → V → Type 0
Always x = Unit {0}

-- the second part of a pair has at most 64 steps in size
abbrev pub PartFits : Pair Whole UnitValue → Type 0
PartFits p = unsigned_abs p.second.value ≤ 64
