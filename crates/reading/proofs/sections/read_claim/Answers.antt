use Rattle.std.proofs.Common.{sym, ap, ◌∙◌}
use Rattle.std.proofs.lemmas.Result.{err_from_is_err_and}
use Rattle.model.specs.Refusals.{number_of}
use Rattle.form.specs.Reading.{contents, ended, release}
use Rattle.reading.proofs.Standing.{stands, stop_marks, stop_depths, stop_ring, whole_of}
use Rattle.reading.proofs.sections.read_claim.Goals as goal

pub returns-in_err-read_marks : goal.returns-in_err-read_marks
returns-in_err-read_marks c =
    let p = err_from_is_err_and c.from_residual-in_err-read_marks.result c.from_residual-in_err-read_marks.ensures.1 in
    let rs = c.in_ok-records.ensures in
    rw (p.1, p.2) (
    ap release (sym c.new-reader.ensures)
    ∙ stop_marks c.new-reader.result.rest.now c.read_records.new.reader.rest.now rs.0 c.in_ok-records.records rs.1 rs.2
    (number_of c.in_err-read_marks.field-0.0) c.in_err-read_marks.ensures)

pub returns-in_err-read_depths : goal.returns-in_err-read_depths
returns-in_err-read_depths c =
    let p = err_from_is_err_and c.from_residual-in_err-read_depths.result c.from_residual-in_err-read_depths.ensures.1 in
    let rs = c.in_ok-records.ensures in
    let ms = c.in_ok-read_marks.ensures in
    rw (p.1, p.2) (
    ap release (sym c.new-reader.ensures)
    ∙ stop_depths c.new-reader.result.rest.now c.read_records.new.reader.rest.now rs.0 c.in_ok-records.records rs.1 rs.2
    ms.0 c.read_marks.new.reader.rest.now ms.1
    (number_of c.in_err-read_depths.field-0.0) c.in_err-read_depths.ensures)

pub returns-in_err-read_ring : goal.returns-in_err-read_ring
returns-in_err-read_ring c =
    let p = err_from_is_err_and c.from_residual-in_err-read_ring.result c.from_residual-in_err-read_ring.ensures.1 in
    let rs = c.in_ok-records.ensures in
    let ms = c.in_ok-read_marks.ensures in
    let ds = c.in_ok-read_depths.ensures in
    rw (p.1, p.2) (
    ap release (sym c.new-reader.ensures)
    ∙ stop_ring c.new-reader.result.rest.now c.read_records.new.reader.rest.now rs.0 c.in_ok-records.records rs.1 rs.2
    ms.0 c.read_marks.new.reader.rest.now ms.1
    ds.0 c.read_depths.new.reader.rest.now ds.1
    (number_of c.in_err-read_ring.field-0.0) c.in_err-read_ring.ensures)

pub returns-in_err-end : goal.returns-in_err-end
returns-in_err-end c =
    let p = err_from_is_err_and c.from_residual-in_err-end.result c.from_residual-in_err-end.ensures.1 in
    let rs = c.in_ok-records.ensures in
    let ms = c.in_ok-read_marks.ensures in
    let ds = c.in_ok-read_depths.ensures in
    let ks = c.in_ok-read_ring.ensures in
    rw (p.1, p.2) (
    ap release (sym c.new-reader.ensures)
    ∙ whole_of c.new-reader.result.rest.now c.read_records.new.reader.rest.now rs.0 c.in_ok-records.records rs.1 rs.2
    ms.0 c.read_marks.new.reader.rest.now ms.1
    ds.0 c.read_depths.new.reader.rest.now ds.1
    ks.0 c.read_ring.new.reader.rest.now ks.1
    ∙ c.in_err-end.ensures (contents rs.0 ms.0 ds.0 ks.0))

pub returns : goal.returns
returns c =
    let rs = c.in_ok-records.ensures in
    let ms = c.in_ok-read_marks.ensures in
    let ds = c.in_ok-read_depths.ensures in
    let ks = c.in_ok-read_ring.ensures in
    let all = contents rs.0 ms.0 ds.0 ks.0 in (
      all,
      ap release (sym c.new-reader.ensures) ∙ whole_of c.new-reader.result.rest.now c.read_records.new.reader.rest.now rs.0 c.in_ok-records.records rs.1 rs.2
          ms.0 c.read_marks.new.reader.rest.now ms.1
          ds.0 c.read_depths.new.reader.rest.now ds.1
          ks.0 c.read_ring.new.reader.rest.now ks.1
          ∙ ap (ended all) c.in_ok-end.ensures,
      stands rs.0 ms.0 ds.0 ks.0 _ rs.2 ms.2 ds.2 ks.2,
    )
