use Rattle.std.proofs.Common.{refl}
use mathlib.Core.Path.{fun_ext}
use Rattle.model.proofs.Digits.{has_zero}
use Rattle.sheet.specs.Views.{meaning_of}
use Rattle.layers.proofs.folder.Folder.new.Goals as goal

pub returns : goal.returns
returns g c = record {
  account = λ i. record { below = meaning_of g.S.Sheet c.args.below; own = fun_ext has_zero i };
  below = refl;
}
