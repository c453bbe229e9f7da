-- From the outcome of writing a release to what is handed out. Assumes nothing.
use Rattle.std.proofs.Common.{◌≡◌, ℕ, ◌≤◌, Bool, true, List, length, take, drop, Ok, Err, MatchBool, Result, Vec, sym, ap, ◌∙◌, subst, arith, length-append, length-take-le}
use Rattle.std.proofs.lemmas.List.{take_at}
use Rattle.model.specs.declared.decline.Decline.{Decline}
use Rattle.model.specs.Refusals.{ring_length}
use Rattle.model.specs.Views.{View}
use Rattle.scale.specs.declared.whole.Whole.{Whole}
use Rattle.grading.specs.Outcomes.{Memory, suffices}
use Rattle.form.proofs.Lengths.{release_long}
use Rattle.reading.specs.declared.release.Release.{Release}
use Rattle.reading.specs.Reads.{Reads}
use Rattle.release.specs.Grades.{grade_number}
use Rattle.release.specs.Writing.{put, short, release_of, Writes, found, circled, MemoryRefused, Released}
use Rattle.std.specs.declared.alloc.Global.{Global}
use Rattle.layers.specs.Folders.{opened}
use Rattle.archive.specs.Accounts.{stands_in, run}
use Rattle.script.specs.Makes.{new_sheet}
use Rattle.dispatch.specs.declared.refusal.Refusal.{Refusal}
use Rattle.dispatch.specs.declared.refusal.Refusal.TheVariants.{Declined}
use Rattle.dispatch.specs.Dispatches.{ReleaseOf, CircleIn, DispatchedInto, named, unnamed, Handed, Dispatched, opening, wrong}
use Rattle.dispatch.specs.Dispatches as of

module _ (w : View) (before after : Memory Whole) (out_before out_after : List ℕ) (room : suffices before ≡ true) where
  -- with enough memory: written, or a circle
  writes : (a : Result ℕ Decline) → Released w before after out_before out_after a → Writes w before after out_before out_after a
  writes a o = subst (λ (b : Bool). MatchBool b (Writes w before after out_before out_after a) (MemoryRefused before after out_before out_after a)) room o

  -- the bytes at the front are the release
  pub handed : (n : ℕ) (release : Release) → Released w before after out_before out_after (Ok n) → Reads (take n out_after) (Ok release) → (n ≤ length out_after) × ReleaseOf w (take n out_after)
  handed n release o read = go (writes (Ok n) o)
    where
      go : Writes w before after out_before out_after (Ok n) → (n ≤ length out_after) × ReleaseOf w (take n out_after)
      go (found r given (put m is within after_is)) = (
        omega (arith, is, ap length after_is, length-append (release_of w after r) (drop n out_before)),
        record {
          e = r.marks;
          h = r.hops;
          ring = take r.ring after.ring;
          g = grade_number after.grades;
          least = given.least;
          best = given.graded.best;
          bytes_are = ap (take n) after_is ∙ take_at (release_of w after r) (drop n out_before) n (sym is);
          release = release;
          read = read;
        },
      )

  -- no output of 8,453 bytes is too short
  pub refused : (d : Decline) → 8453 ≤ length out_before → 64 ≤ length after.ring → Released w before after out_before out_after (Err d) → CircleIn w d
  refused d wide ring o = go (writes (Err d) o)
    where
      go : Writes w before after out_before out_after (Err d) → CircleIn w d
      go (found r given (short b number less kept)) =
          let long = length-take-le r.ring after.ring (omega (arith, given.short, ring)) in
          absurd (omega (arith, less, wide, release_long w (grade_number after.grades) (take r.ring after.ring) (omega (arith, long, given.short))))
      go (circled b number shown kept) = record {
        number = number;
        ring = take (ring_length d) after.ring;
        circle = shown.ring;
        long = omega (arith, length-take-le (ring_length d) after.ring (omega (arith, shown.short, ring)));
      }

-- the same of what stands after a script
module _ (script : List ℕ) (before after : Memory Whole) (out_before out_after : List ℕ) (room : suffices before ≡ true) where
  -- n bytes at the front are the release, whatever is made of them
  pub script_written : (n : ℕ) → DispatchedInto script before after out_before out_after (Ok n)
      → (n ≤ length out_after) × ((r : Result (Vec ℕ Global) Refusal) → ((w : View) → ReleaseOf w (take n out_after) → Handed w r) → Dispatched script r)
  script_written n (named m lines first t) =
      let w = stands_in (run (opened (new_sheet m)) t.calls) in
      let all = handed w before after out_before out_after room n t.read.0 t.released t.read.1 in
      (all.0, λ r f. opening m lines first (of.handed t.calls t.spoken (f w all.1)))

  pub script_refused : (d : Decline) → 8453 ≤ length out_before → 64 ≤ length after.ring → DispatchedInto script before after out_before out_after (Err d) → Dispatched script (Err (Declined d))
  script_refused d wide ring (named m lines first t) =
      opening m lines first (of.handed t.calls t.spoken (refused (stands_in (run (opened (new_sheet m)) t.calls)) before after out_before out_after room d wide ring t.released))
  script_refused d wide ring (unnamed b other number same kept) = wrong b other number
