use Rattle.std.proofs.Common.{◌≡◌, ℕ, ◌+◌, ◌<◌, Bool, true, false, List, ◌++◌, length, take, get_or, sym, ap, ◌∙◌, ap₂, subst, append-nil, arith, length-take-le}
use Rattle.std.proofs.lemmas.List.{get_or-take, get_or_read}
use Rattle.arrayvec.specs.ArrayVec.{ArrayVec}
use Rattle.model.specs.Views.{View}
use Rattle.sheet.specs.Views.{view_of}
use Rattle.archive.specs.declared.answer.Graded.{Graded}
use Rattle.archive.specs.Entries.{entry, entries_below}
use Rattle.archive.proofs.Entries.{entries_more}
use Rattle.archive.proofs.listing.list_grades.Goals as goal
use Rattle.archive.proofs.listing.list_grades.Goals.{then-stands, else-stands}

pub push-requires : goal.push-requires
push-requires g c =
    let long : length (take 64 c.args.grades.now) ≡ 64 = length-take-le 64 c.args.grades.now c.requires.enough in
    omega (arith, c.loop-u.invariant.1)

pub loop-u-init : goal.loop-u-init
unfolding entries_below
loop-u-init g c = (c.new-list.ensures, omega (arith, ap length c.new-list.ensures))

-- the record u comes to the list if it stands
one_more : {V : Type 0} (w : View) (g : ℕ → V) (u : ℕ) (b : Bool) (before after : List (Graded V)) → b ≡ w.stands u → before ≡ entries_below w g u → after ≡ before ++ entry b u (g u) → after ≡ entries_below w g (u + 1)
one_more w g u b before after is so_far more = more ∙ ap₂ (λ xs c. xs ++ entry c u (g u)) so_far is ∙ sym (entries_more w g u)

pub shown-requires : goal.shown-requires
shown-requires g c =
    let none = g.V.Scale.nothing in
    let long : length (take 64 c.args.grades.now) ≡ 64 = length-take-le 64 c.args.grades.now c.requires.enough in
    let within : c.loop-u.u < 64 = omega arith in
    let value = get_or_read (take 64 c.args.grades.now) c.loop-u.u c.grade-item.result c.loop-u-test.true c.grade-item.is none ∙ get_or-take 64 c.args.grades.now c.loop-u.u none within in
    subst (λ (z : g.row.V.Denot). g.V.Shown.fits z) (sym value) (c.requires.fit c.loop-u.u within (sym c.stands.ensures ∙ c.if-stands.true))

pub loop-u-preserved : goal.loop-u-preserved
loop-u-preserved g c =
    let w = view_of g.S.Sheet c.args.sheet.now in
    let none = g.V.Scale.nothing in
    let grade : ℕ → g.row.G.Denot = λ u. g.V.Shown.shown (get_or c.args.grades.now u none) in
    let long : length (take 64 c.args.grades.now) ≡ 64 = length-take-le 64 c.args.grades.now c.requires.enough in
    let within : c.loop-u.u < 64 = omega arith in
    let value = get_or_read (take 64 c.args.grades.now) c.loop-u.u c.grade-item.result c.loop-u-test.true c.grade-item.is none ∙ get_or-take 64 c.args.grades.now c.loop-u.u none within in
    let stands : c.stands.result ≡ w.stands c.loop-u.u = c.stands.ensures in
    let before = c.loop-u.list.items in
    let after = c.if-stands.list.items in
    elim c.if-stands.branch [
      | then-stands b ↦ (
        one_more w grade c.loop-u.u true before after (sym b.if-stands.true ∙ stands) c.loop-u.invariant.0
            (ap (λ (v : ArrayVec (Graded g.row.G.Denot)). v.items) b.list-is ∙ b.push.ensures.items
            ∙ ap (λ (z : g.row.G.Denot). before ++ entry true c.loop-u.u z) (b.shown.ensures ∙ ap g.V.Shown.shown value)),
        omega (arith, ap (λ (v : ArrayVec (Graded g.row.G.Denot)). length v.items) b.list-is, b.push.ensures.len, c.loop-u.invariant.1),
      )
      | else-stands b ↦ (
        one_more w grade c.loop-u.u false before after (sym b.if-stands.false ∙ stands) c.loop-u.invariant.0
            (ap (λ (v : ArrayVec (Graded g.row.G.Denot)). v.items) b.list-is ∙ sym (append-nil before)),
        omega (arith, ap (λ (v : ArrayVec (Graded g.row.G.Denot)). length v.items) b.list-is, c.loop-u.invariant.1),
      )
    ]

pub returns : goal.returns
returns g c =
    let long : length (take 64 c.args.grades.now) ≡ 64 = length-take-le 64 c.args.grades.now c.requires.enough in
    let e : c.loop-u.u ≡ 64 = omega arith in
    c.loop-u.invariant.0 ∙ ap (entries_below (view_of g.S.Sheet c.args.sheet.now) (λ u. g.V.Shown.shown (get_or c.args.grades.now u g.V.Scale.nothing))) e
