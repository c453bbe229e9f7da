use Rattle.std.proofs.Common.{ℕ, List, ◌++◌, drop, refl, sym, ◌∙◌, ap₂, arith}
use Rattle.model.specs.declared.decline.Decline.TheVariants.{TooLittleMemory}
use Rattle.release.specs.Writing.{put, short}
use Rattle.release.proofs.write.put_out.Goals as goal

pub returns-then-out-len : goal.returns-then-out-len
returns-then-out-len c = short TooLittleMemory refl (omega (arith, c.if-out-len.true, c.len.ensures)) refl

pub returns : goal.returns
returns c =
    put c.len-3.result c.len-3.ensures.value (omega (arith, c.if-out-len.false, c.len.ensures.value, c.len-3.ensures.value))
    (ap₂ (λ (xs : List ℕ) (n : ℕ). xs ++ drop n c.args.out.now) (c.copy_from_slice.ensures.after ∙ c.as_slice.ensures.value) (c.len-2.ensures.value ∙ sym c.len-3.ensures.value))
