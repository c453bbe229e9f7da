-- The questions, and what answers them. Assumes nothing.
use Rattle.std.specs.Prelude.{◌≡◌, ℕ, true, false, ◌⊎◌, List, ℤ}
use Rattle.model.specs.declared.thresholds.Thresholds.{Thresholds}
use Rattle.model.specs.Limits.{within_limits}
use Rattle.model.specs.Views.{View}
use Rattle.model.specs.Rings.{Circle}
use Rattle.model.specs.Ratios.{thresholds_at, LeastRatio}
use Rattle.scale.specs.declared.whole.Whole.{Whole}
use Rattle.scale.specs.declared.unit.Unit.{Unit as Units}
use Rattle.scale.specs.declared.pair.Pair.{Pair}
use Rattle.scale.specs.Wholes.{WholeExtent}
use Rattle.scale.specs.Units.{UnitExtent}
use Rattle.scale.specs.Pairs.{PairExtent}
use Rattle.paths.specs.Numbers.{BestLoose, ForbidsLoosely, BestStrict, ForbidsStrictly, merged}
use Rattle.bridge.specs.declared.answer.Answer.{Answer}
use Rattle.bridge.specs.Answers.{Asking, Handed}

-- the best loose grades, as values of the whole scale
unfoldable pub BestWholes : View → Thresholds → (ℕ → Whole) → Type 0
BestWholes w t g = BestLoose w t (λ u. (g u).value)

-- ---- grades
-- within the limits, the grades asked for, without marks and hops
pub record Graded {V : Type 0} (t : Thresholds) (asked : (ℕ → V) → Type 0) (e h : ℕ) (g : ℕ → V) : Type 0 where
  pub limits : within_limits t ≡ true
  pub marks : e ≡ 0
  pub hops : h ≡ 0
  pub grades : asked g

-- declined by 11 outside the limits
pub record Outside (t : Thresholds) (n : ℕ) : Type 0 where
  pub number : n ≡ 11
  pub limits : within_limits t ≡ false

-- declined by 13 within them, where a ring forbids the grades
pub record Forbidden (t : Thresholds) (forbids : List ℕ → Type 0) (n : ℕ) : Type 0 where
  pub number : n ≡ 13
  pub limits : within_limits t ≡ true
  pub ring : List ℕ
  pub forbidden : forbids ring

abbrev pub asking_grades : {V : Type 0} → Thresholds → ((ℕ → V) → Type 0) → (List ℕ → Type 0) → Asking V
asking_grades t asked forbids = record { right = Graded t asked; declines = λ n. Outside t n ⊎ Forbidden t forbids n }

-- ---- the least ratio
-- the least ratio of marks to hops, and the best loose grades at it
pub record Least (w : View) (e h : ℕ) (g : ℕ → Whole) : Type 0 where
  pub ring : List ℕ
  pub least : LeastRatio w e h ring
  pub grades : BestWholes w (thresholds_at e h) g

-- declined by 12, where a circle stands
pub record Circled (w : View) (n : ℕ) : Type 0 where
  pub number : n ≡ 12
  pub ring : List ℕ
  pub circle : Circle w ring

abbrev pub asking_least : View → Asking Whole
asking_least w = record { right = Least w; declines = Circled w }

-- ---- numbers of grades
abbrev pub whole_told : Whole → ℤ → Type 0
whole_told x z = z ≡ x.value

-- a pair a, b is 128·a + b
abbrev pub pair_told : Pair Whole Units → ℤ → Type 0
pair_told p z = z ≡ merged p

-- a pair of the extent of grades: others may be out of reach of 64 bits
abbrev pub graded_told : Pair Whole Units → ℤ → Type 0
graded_told p z = PairExtent WholeExtent UnitExtent p 64 → z ≡ merged p

-- ---- what the calls hand on of what stands
abbrev pub LooseHanded : View → Thresholds → Answer → Type 0
LooseHanded w t = Handed w whole_told (asking_grades t (BestWholes w t) (ForbidsLoosely w t))

abbrev pub StrictHanded : View → Thresholds → Answer → Type 0
StrictHanded w t = Handed w pair_told (asking_grades t (BestStrict w t) (ForbidsStrictly w t))

abbrev pub RatioHanded : View → Answer → Type 0
RatioHanded w = Handed w whole_told (asking_least w)
