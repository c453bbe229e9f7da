use Rattle.std.proofs.Common.{Ok, Err, sym, length-take-le}
use Rattle.sheet.specs.Views.{view_of}
use Rattle.grading.specs.Outcomes.{brought}
use Rattle.round.proofs.Returning.{trip, written_within, drawn_of}
use Rattle.round.proofs.trip.write_and_read.Goals as goal

pub slice_bounds-read_release-end : goal.slice_bounds-read_release-end
slice_bounds-read_release-end g c =
    written_within (view_of g.S.Sheet c.args.sheet.now) (drawn_of g.S.Sheet c.args.sheet.now (g.met.S.Sheet.lawful c.args.sheet.now))
    (brought c.args.memory.now) (brought c.write_release.new.memory)
    c.args.out.now c.write_release.new.out c.in_ok-length.length c.in_ok-length.ensures.released

pub slice_bounds-read_release-end-2 : goal.slice_bounds-read_release-end-2
slice_bounds-read_release-end-2 g c =
    sym (length-take-le c.in_ok-length.length c.write_release.new.out
    (written_within (view_of g.S.Sheet c.args.sheet.now) (drawn_of g.S.Sheet c.args.sheet.now (g.met.S.Sheet.lawful c.args.sheet.now))
    (brought c.args.memory.now) (brought c.write_release.new.memory)
    c.args.out.now c.write_release.new.out c.in_ok-length.length c.in_ok-length.ensures.released))

-- what was written is never declined by the reading
pub returns-in_err-release-clause-released : goal.returns-in_err-release-clause-released
returns-in_err-release-clause-released g c =
    absurd (trip (view_of g.S.Sheet c.args.sheet.now) (drawn_of g.S.Sheet c.args.sheet.now (g.met.S.Sheet.lawful c.args.sheet.now))
    (brought c.args.memory.now) (brought c.write_release.new.memory)
    c.args.out.now c.write_release.new.out c.in_ok-length.length (Err c.in_err-release.field-0.0) c.in_ok-length.ensures.released c.in_err-release.ensures)

pub returns-clause-read : goal.returns-clause-read
returns-clause-read g c =
    trip (view_of g.S.Sheet c.args.sheet.now) (drawn_of g.S.Sheet c.args.sheet.now (g.met.S.Sheet.lawful c.args.sheet.now))
    (brought c.args.memory.now) (brought c.write_release.new.memory)
    c.args.out.now c.write_release.new.out c.in_ok-length.length (Ok c.in_ok-release.release) c.in_ok-length.ensures.released c.in_ok-release.ensures
