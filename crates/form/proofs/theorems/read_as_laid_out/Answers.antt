use Rattle.form.specs.Reading.{release}
use Rattle.std.proofs.Common.{ap, ◌∙◌}
use Rattle.form.proofs.Back.{reads_back}
use Rattle.form.proofs.Only.{reads_only}
use Rattle.form.proofs.theorems.read_as_laid_out.Goals as goal

pub returns : goal.returns
returns c = λ bs d bytes. (reads_only bs d bytes, λ laid. ap release laid.0 ∙ reads_back d laid.1)
