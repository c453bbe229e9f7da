use Rattle.std.proofs.Common.{◌≡◌, ℕ, List, sym, ◌∙◌, subst, arith, MatchOption}
use Rattle.std.specs.Str.Parse.{ParsesUnsigned}
use Rattle.script.specs.Numbers.{Number, NoNumber}
use Rattle.script.proofs.Digits.{number_some, number_short, number_digit, number_utf8, no_leading_zero, plus_first, no_plus, ok_some, ok_none, parsed}
use Rattle.script.proofs.number.number_in.Goals as goal
use Rattle.script.proofs.number.number_in.Goals.{then-bytes-gt7-via-then-bytes-gt7, then-bytes-gt7-via-else-bytes-gt7+then-starts_with, then-bytes-gt7-via-else-bytes-gt7+else-starts_with+then-has_leading_zero}

pub returns-then-bytes-gt7 : goal.returns-then-bytes-gt7
returns-then-bytes-gt7 c n h =
    let ds = c.args.bytes.now in
    let s = number_short ds n h in
    let d = number_digit ds n h 0 (number_some ds n h) in
    elim c.then-bytes-gt7.branch [
      | then-bytes-gt7-via-then-bytes-gt7 w ↦ omega arith
      | then-bytes-gt7-via-else-bytes-gt7+then-starts_with w ↦ let f = plus_first ds (sym w.starts_with.ensures.value ∙ w.if-starts_with.true) in omega arith
      | then-bytes-gt7-via-else-bytes-gt7+else-starts_with+then-has_leading_zero w ↦ no_leading_zero ds n h (sym w.has_leading_zero.ensures ∙ w.if-has_leading_zero.true)
    ]

pub returns-in_err-ok : goal.returns-in_err-ok
returns-in_err-ok c =
    let ds = c.args.bytes.now in
    subst (λ o. MatchOption o (NoNumber ds) (Number ds)) (sym c.from_residual.ensures)
    (λ n h. (ok_none _ _ c.from_utf8.result c.from_utf8.ensures.cases (sym c.in_err-ok.ensures.value)).1.0 (number_utf8 ds n h))

pub returns : goal.returns
returns c =
    let ds = c.args.bytes.now in
    let same : c.in_ok-ok.field-0.now ≡ ds = (ok_some _ _ c.from_utf8.result c.from_utf8.ensures.cases c.in_ok-ok.field-0 (sym c.in_ok-ok.ensures.value)).0 in
    let reads : ParsesUnsigned 32 10 ds c.parse.result = subst (λ (xs : List ℕ). ParsesUnsigned 32 10 xs c.parse.result) same c.parse.ensures.value.0 in
    subst (λ o. MatchOption o (NoNumber ds) (Number ds)) (sym c.ok-2.ensures.value)
    (parsed ds (omega arith) (no_plus ds (sym c.starts_with.ensures.value ∙ c.if-starts_with.false)) c.parse.result reads (sym c.has_leading_zero.ensures ∙ c.if-has_leading_zero.false))
