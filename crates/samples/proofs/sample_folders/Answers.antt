use Rattle.samples.proofs.Samples.{samples}
use Rattle.samples.proofs.sample_folders.Goals as goal

pub returns : goal.returns
returns c = samples
