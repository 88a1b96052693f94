use Rattle.nm_config.proofs.Meaning.{under-means}
use Rattle.nm_config.proofs.laws.under_means.Goals as goal

pub returns : goal.returns
returns c = under-means
