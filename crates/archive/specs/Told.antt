-- The right answers to a grading call and to the least ratio. Assumes nothing.
use Rattle.std.specs.Prelude.{◌≡◌, ℕ, true, false, ◌⊎◌, List, length, ℤ, ◌≢◌}
use Rattle.arrayvec.specs.ArrayVec.{ArrayVec}
use Rattle.model.specs.declared.decline.Decline.{Decline}
use Rattle.model.specs.declared.thresholds.Thresholds.{Thresholds}
use Rattle.model.specs.Limits.{within_limits}
use Rattle.model.specs.Refusals.{number_of, ring_length}
use Rattle.model.specs.Views.{View}
use Rattle.model.specs.Rings.{Circle}
use Rattle.model.specs.Ratios.{thresholds_at, LeastRatio}
use Rattle.paths.specs.Numbers.{BestLoose, ForbidsLoosely, BestStrict, ForbidsStrictly, unit_thresholds}
use Rattle.archive.specs.declared.answer.Answer.{Answer}
use Rattle.archive.specs.declared.answer.Answer.TheVariants.{Declined, Forced, Wholes, Pairs, Units, Ratio}
use Rattle.archive.specs.declared.answer.Graded.{Graded}
use Rattle.archive.specs.Entries.{entries_below}
use Rattle.archive.specs.Shown.{pair_in}

-- a refusal as an answer: 12 and 13 come with their ring, and with its length
pub data Refused (d : Decline) (ring : List ℕ) : Answer → Type 0 where
  plain : (number_of d ≢ 12) → (number_of d ≢ 13) → Refused d ring (Declined d)
  forced : (v : ArrayVec ℕ) → (number_of d ≡ 12) ⊎ (number_of d ≡ 13) → v.items ≡ ring → ring_length d ≡ length v.items → Refused d ring (Forced d v)

-- declined by 11 outside the limits; else by 13 with a ring that forbids, or the standing records with the grades asked for
pub data GradesTold {G : Type 0} (w : View) (t : Thresholds) (asked : (ℕ → G) → Type 0) (forbids : List ℕ → Type 0) (give : ArrayVec (Graded G) → Answer) : Answer → Type 0 where
  outside : (d : Decline) → number_of d ≡ 11 → within_limits t ≡ false → GradesTold w t asked forbids give (Declined d)
  forced : (d : Decline) (v : ArrayVec ℕ) → number_of d ≡ 13 → ring_length d ≡ length v.items → within_limits t ≡ true → forbids v.items
      → GradesTold w t asked forbids give (Forced d v)
  given : (v : ArrayVec (Graded G)) (g : ℕ → G) → within_limits t ≡ true → asked g → v.items ≡ entries_below w g 64 → GradesTold w t asked forbids give (give v)

abbrev pub LooseTold : View → Thresholds → Answer → Type 0
LooseTold w t x = GradesTold w t (BestLoose w t) (ForbidsLoosely w t) Wholes x

abbrev pub StrictTold : View → Thresholds → Answer → Type 0
StrictTold w t x = GradesTold w t (λ g. BestStrict w t (λ u. pair_in (g u))) (ForbidsStrictly w t) Pairs x

abbrev pub UnitTold : View → Answer → Type 0
UnitTold w x = GradesTold w unit_thresholds (BestLoose w unit_thresholds) (ForbidsLoosely w unit_thresholds) Units x

-- declined by 12 with a circle; else the least ratio with its ring, and the standing records with their grades at that ratio
pub data RatioTold (w : View) : Answer → Type 0 where
  circled : (d : Decline) (v : ArrayVec ℕ) → number_of d ≡ 12 → ring_length d ≡ length v.items → Circle w v.items → RatioTold w (Forced d v)
  found : (e h : ℕ) (ring : ArrayVec ℕ) (v : ArrayVec (Graded ℤ)) (g : ℕ → ℤ)
      → LeastRatio w e h ring.items → BestLoose w (thresholds_at e h) g → v.items ≡ entries_below w g 64
      → RatioTold w (Ratio e h ring v)
