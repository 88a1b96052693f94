use Rattle.nm_edit.specs.Acts.{acts}
use Rattle.nm_edit.proofs.Firsts.{none_of}
use Rattle.nm_edit.proofs.laws.none_refused.Goals as goal

pub returns : goal.returns
returns c = λ t old nodes d act e among. none_of t old (acts nodes d) act e among
