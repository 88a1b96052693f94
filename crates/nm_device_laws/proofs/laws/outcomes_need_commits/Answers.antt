use Rattle.nm_device_laws.proofs.Outcomes.{never_without}
use Rattle.nm_device_laws.proofs.laws.outcomes_need_commits.Goals as goal

pub returns : goal.returns
returns c token history e = never_without token history e
