-- What is handed out after a script. Assumes nothing.
use Rattle.std.specs.Prelude.{◌≡◌, ℕ, List, length, take, ℤ, vec_items, Vec, IfOk, Ok, Err, Result}
use Rattle.std.specs.declared.alloc.Global.{Global}
use Rattle.model.specs.declared.decline.Decline.{Decline}
use Rattle.model.specs.Refusals.{number_of, ring_length}
use Rattle.model.specs.Rings.{Circle}
use Rattle.model.specs.Ratios.{thresholds_at, LeastRatio}
use Rattle.model.specs.Views.{View}
use Rattle.scale.specs.declared.whole.Whole.{Whole}
use Rattle.sheet.specs.Meanings.{Meaning}
use Rattle.grading.specs.Outcomes.{Memory}
use Rattle.release.specs.Writing.{Released}
use Rattle.layers.specs.Folders.{opened}
use Rattle.paths.specs.Numbers.{BestLoose}
use Rattle.form.specs.Laid.{laid_out}
use Rattle.form.specs.Sections.{finding}
use Rattle.reading.specs.declared.release.Release.{Release}
use Rattle.reading.specs.Reads.{Reads}
use Rattle.archive.specs.declared.call.Call.{Call}
use Rattle.archive.specs.Accounts.{stands_in, run}
use Rattle.script.specs.declared.make.Make.{Make}
use Rattle.script.specs.Cuts.{lines_of, Spoken}
use Rattle.script.specs.Makes.{Opening, NoOpening, new_sheet}
use Rattle.dispatch.specs.declared.refusal.Refusal.{Refusal}
use Rattle.dispatch.specs.declared.refusal.Refusal.TheVariants.{Declined, NoHeap}

-- the bytes are the release of what stands in w: e to h is the least ratio, which the ring shows, and g has the best loose grades there;
-- and the reader takes them
pub record ReleaseOf (w : View) (bytes : List ℕ) : Type 0 where
  pub e : ℕ
  pub h : ℕ
  pub ring : List ℕ
  pub g : ℕ → ℤ
  pub least : LeastRatio w e h ring
  pub best : BestLoose w (thresholds_at e h) g
  pub bytes_are : bytes ≡ laid_out (finding w g ring)
  pub release : Release
  pub read : Reads bytes (Ok release)

-- declined by 12, with the length of a circle that stands in w
pub record CircleIn (w : View) (d : Decline) : Type 0 where
  pub number : number_of d ≡ 12
  pub ring : List ℕ
  pub circle : Circle w ring
  pub long : ring_length d ≡ length ring

-- what is written of what stands by the plain account after the calls of the lines, in a new folder over a sheet that means m; and the
-- reader takes it
pub record WrittenAfter (m : Meaning) (lines : List ℕ) (before after : Memory Whole) (out_before out_after : List ℕ) (r : Result ℕ Decline) : Type 0 where
  pub calls : List Call
  pub spoken : Spoken (lines_of lines) calls
  pub released : Released (stands_in (run (opened m) calls)) before after out_before out_after r
  pub read : IfOk r (λ n. (release : Release) × Reads (take n out_after) (Ok release))

-- a script that opens with a make, and any other, which is declined by 17 and keeps all
pub data DispatchedInto (script : List ℕ) (before after : Memory Whole) (out_before out_after : List ℕ) : Result ℕ Decline → Type 0 where
  named : {r : Result ℕ Decline} (m : Make) (lines : List ℕ) → Opening script m lines → WrittenAfter (new_sheet m) lines before after out_before out_after r → DispatchedInto script before after out_before out_after r
  unnamed : (d : Decline) → NoOpening script → number_of d ≡ 17 → after ≡ before → out_after ≡ out_before → DispatchedInto script before after out_before out_after (Err d)

-- the release of what stands in w, or declined by its circle; or a release was made, and the heap had no room for it
abbrev pub Handed : View → Result (Vec ℕ Global) Refusal → Type 0
Handed w (Ok v) = ReleaseOf w (vec_items v)
Handed w (Err (Declined d)) = CircleIn w d
Handed w (Err (NoHeap e)) = (bytes : List ℕ) × ReleaseOf w bytes

-- of what stands by the plain account after the calls of the lines, in a new folder over a sheet that means m
pub data HandedAfter (m : Meaning) (lines : List ℕ) : Result (Vec ℕ Global) Refusal → Type 0 where
  handed : {r : Result (Vec ℕ Global) Refusal} (calls : List Call) → Spoken (lines_of lines) calls → Handed (stands_in (run (opened m) calls)) r → HandedAfter m lines r

-- a script that opens with a make, and any other, which is declined by 17
pub data Dispatched (script : List ℕ) : Result (Vec ℕ Global) Refusal → Type 0 where
  opening : {r : Result (Vec ℕ Global) Refusal} (m : Make) (lines : List ℕ) → Opening script m lines → HandedAfter (new_sheet m) lines r → Dispatched script r
  wrong : (d : Decline) → NoOpening script → number_of d ≡ 17 → Dispatched script (Err (Declined d))
