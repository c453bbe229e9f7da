use Rattle.sheet.proofs.Keeping.{stays}
use Rattle.listsheet.proofs.ListSheetSheet.enter.Goals as goal

pub invariant_of-self : goal.invariant_of-self
invariant_of-self c =
    let old = c.args.self.now in
    let still = stays _ _ _ c.enter.ensures in
    record { few = old.few; once = old.once; irreflexive = old.irreflexive; from = λ u v h. still u (old.from u v h); to = λ u v h. still v (old.to u v h) }
