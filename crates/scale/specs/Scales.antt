-- The three scales, each by the ghost members of its trait. Assumes nothing.
use Rattle.std.specs.Prelude.{pos}
use Rattle.scale.specs.declared.scale.Scale.{Ghosts}
use Rattle.scale.specs.declared.whole.Whole.{Whole}
use Rattle.scale.specs.declared.unit.Unit.{Unit as Units}
use Rattle.scale.specs.declared.pair.Pair.{Pair}
use Rattle.scale.specs.Wholes.{of_whole, whole_plus, whole_sum, whole_less, whole_mark, whole_hop, WholeExtent}
use Rattle.scale.specs.Units.{of_unit, unit_plus, unit_sum, unit_less, unit_mark, unit_hop, UnitExtent}
use Rattle.scale.specs.Pairs.{both, pair_plus, pair_less, pair_of, PairExtent}

abbrev pub whole_scale : Ghosts Whole
whole_scale = record { nothing = of_whole (pos 0); plus = whole_plus; sum = whole_sum; less = whole_less; mark = whole_mark; hop = whole_hop; extent = WholeExtent }

abbrev pub unit_scale : Ghosts Units
unit_scale = record { nothing = of_unit (pos 0); plus = unit_plus; sum = unit_sum; less = unit_less; mark = unit_mark; hop = unit_hop; extent = UnitExtent }

abbrev pub pair_scale : {X Y : Type 0} → Ghosts X → Ghosts Y → Ghosts (Pair X Y)
pair_scale x y = record {
  nothing = both x.nothing y.nothing;
  plus = pair_plus x.plus y.plus;
  sum = pair_plus x.sum y.sum;
  less = pair_less x.less y.less;
  mark = pair_of x.mark y.mark;
  hop = pair_of x.hop y.hop;
  extent = PairExtent x.extent y.extent;
}
