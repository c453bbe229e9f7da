use Rattle.std.proofs.Common.{rules, refl}
use Rattle.reading.specs.Claims.{claimed_view}
use Rattle.reading.proofs.Sets.{records_count_is}
use Rattle.reading.proofs.release.Release.records.Goals as goal

pub returns : goal.returns
returns c = records_count_is (claimed_view c.args.self.now.claim) c.args.self.now.claim.records (search rules) (λ u l. refl)
