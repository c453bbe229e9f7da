-- Grades that pass a test are the best, and the only ones. Assumes nothing.
use Rattle.std.proofs.Common.{◌≡◌, ℕ, ◌<◌, Bool, true, List, ℤ, pos, ◌*ℤ◌, ◌≤ℤ◌, arith}
use borrow.Author.Differences.{ints}
use Rattle.model.specs.declared.thresholds.Thresholds.{Thresholds}
use Rattle.model.specs.Views.{View}
use Rattle.scale.specs.declared.scale.Scale.{Ghosts}
use Rattle.scale.proofs.Order.{HasLaws}
use Rattle.scale.specs.declared.whole.Whole.{Whole}
use Rattle.scale.specs.Scales.{whole_scale, unit_scale, pair_scale}
use Rattle.scale.specs.Numbers.{whole_laws}
use Rattle.scale.specs.Wholes.{of_whole}
use Rattle.paths.specs.Bests.{Best}
use Rattle.paths.specs.Numbers.{BestLoose}
use Rattle.paths.proofs.Numbered.{best_loose}
use Rattle.paths.proofs.Scales.{whole_numbered}
use Rattle.paths.proofs.Paired.{best_strict, lawful}
use Rattle.samples.specs.Results.{minus, minus_pairs, LooseGrades, StrictGrades}
use Rattle.samples.proofs.Covers.{Covers}
use Rattle.samples.proofs.Bests.{is_best, best_by_test}

-- each of two best gradings is at most the other
same_loose : (w : View) (t : Thresholds) (y z : ℕ → ℤ) → BestLoose w t y → BestLoose w t z → (u : ℕ) → u < 64 → w.stands u ≡ true → y u ≡ z u
same_loose w t y z a b u l st = equal (y u) (z u) (b.highest 1 y a.loose a.low u l st) (a.highest 1 z b.loose b.low u l st)
  where
    equal : (p q : ℤ) → p ≤ℤ (pos 1 *ℤ q) → q ≤ℤ (pos 1 *ℤ p) → p ≡ q
    equal p q h k = omega (arith, ints)

-- neither of two best values is less
same_best : {V : Type 0} (s : Ghosts V) (laws : HasLaws s) (w : View) (t : Thresholds) (y z : ℕ → V) → Best s w t y → Best s w t z
    → (u : ℕ) → u < 64 → w.stands u ≡ true → y u ≡ z u
same_best s laws w t y z a b u l st = laws.total (y u) (z u) (a.greatest z b.meets b.low u l st) (b.greatest y a.meets a.low u l st)

-- minus the depths, as values of the whole scale
abbrev wholes : List ℕ → ℕ → Whole
wholes ds u = of_whole (minus ds u)

abbrev pub is_best_loose : View → Thresholds → List ℕ → List ℕ → ℕ → Bool
is_best_loose w t ds next n = is_best whole_scale whole_laws w t (wholes ds) next n

pub loose_by_test : {w : View} {t : Thresholds} {ds : List ℕ} (next : List ℕ) (n : ℕ) → Covers w n → is_best_loose w t ds next n ≡ true → LooseGrades w t ds
loose_by_test {w} {t} {ds} next n covers e =
    let best = best_loose whole_scale whole_laws t (λ x. x.value) (whole_numbered t) w (wholes ds)
    (best_by_test whole_scale whole_laws w t (wholes ds) next n covers e) in
    record { best = best; only = λ g b. same_loose w t g (minus ds) b best }

abbrev pub is_best_strict : View → Thresholds → List (ℕ × ℕ) → List ℕ → ℕ → Bool
is_best_strict w t ds next n = is_best (pair_scale whole_scale unit_scale) lawful w t (minus_pairs ds) next n

pub strict_by_test : {w : View} {t : Thresholds} {ds : List (ℕ × ℕ)} (next : List ℕ) (n : ℕ) → Covers w n
    → is_best_strict w t ds next n ≡ true → StrictGrades w t ds
strict_by_test {w} {t} {ds} next n covers e =
    let best = best_strict w t (minus_pairs ds) (best_by_test (pair_scale whole_scale unit_scale) lawful w t (minus_pairs ds) next n covers e) in
    record { best = best; only = λ g b. same_best (pair_scale whole_scale unit_scale) lawful w t g (minus_pairs ds) b.greatest best.greatest }
