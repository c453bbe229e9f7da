-- The limits of the thresholds. Assumes nothing.
use Rattle.std.specs.Prelude.{Bool, ◌&&◌, nat_le}
use Rattle.model.specs.declared.thresholds.Thresholds.{Thresholds}

-- t1 is from 1 to 1,000,000, t2 from 0 to 1,000,000
abbrev pub within_limits : Thresholds → Bool
within_limits t = nat_le 1 t.t1 && (nat_le t.t1 1000000 && nat_le t.t2 1000000)
