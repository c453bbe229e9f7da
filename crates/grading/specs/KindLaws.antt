-- The best values of a kind's scale are the grades that it asks for, and a ring that forbids them forbids those. Assumes nothing.
use Rattle.std.specs.Prelude.{ℕ, List}
use Rattle.model.specs.declared.thresholds.Thresholds.{Thresholds}
use Rattle.model.specs.Views.{View}
use Rattle.scale.specs.declared.whole.Whole.{Whole}
use Rattle.scale.specs.declared.unit.Unit.{Unit as Units}
use Rattle.scale.specs.declared.pair.Pair.{Pair}
use Rattle.scale.specs.Scales.{whole_scale, unit_scale, pair_scale}
use Rattle.scale.specs.Numbers.{whole_laws, unit_laws}
use Rattle.paths.specs.Bests.{Best, Forbids}
use Rattle.paths.specs.Numbers.{unit_thresholds}
use Rattle.grading.specs.Kinds.{loose_asked, strict_asked, unit_asked, loose_forbidden, strict_forbidden, unit_forbidden}
use Rattle.paths.proofs.Numbered.{best_loose, forbids_loosely}
use Rattle.paths.proofs.Paired.{best_strict, forbids_strictly}
use Rattle.paths.proofs.Scales.{whole_numbered, unit_numbered}

pub loose_given : (w : View) (t : Thresholds) (g : ℕ → Whole) → Best whole_scale w t g → loose_asked w t g
loose_given w t = best_loose whole_scale whole_laws t (λ x. x.value) (whole_numbered t) w

pub loose_shown : (w : View) (t : Thresholds) (xs : List ℕ) → Forbids whole_scale w t xs → loose_forbidden w t xs
loose_shown w t = forbids_loosely whole_scale whole_laws t (λ x. x.value) (whole_numbered t) w

pub strict_given : (w : View) (t : Thresholds) (g : ℕ → Pair Whole Units) → Best (pair_scale whole_scale unit_scale) w t g → strict_asked w t g
strict_given = best_strict

pub strict_shown : (w : View) (t : Thresholds) (xs : List ℕ) → Forbids (pair_scale whole_scale unit_scale) w t xs → strict_forbidden w t xs
strict_shown = forbids_strictly

-- the unit scale has the values of the whole scale for t1 = 1 and t2 = 0, whatever the thresholds
pub unit_given : (w : View) (t : Thresholds) (g : ℕ → Units) → Best unit_scale w t g → unit_asked w t g
unit_given w t g b = best_loose unit_scale unit_laws unit_thresholds (λ x. x.value) unit_numbered w g (record { meets = b.meets; low = b.low; extent = b.extent; greatest = b.greatest; walk = b.walk })

pub unit_shown : (w : View) (t : Thresholds) (xs : List ℕ) → Forbids unit_scale w t xs → unit_forbidden w t xs
unit_shown w t xs f = forbids_loosely unit_scale unit_laws unit_thresholds (λ x. x.value) unit_numbered w xs (record { ring = f.ring; below = f.below })
