use Rattle.nm_types.specs.PathLaws.{path_cmp-IsAntisymmetric}
use Rattle.nm_types.proofs.laws.one_path.Goals as goal

pub returns : goal.returns
returns c = path_cmp-IsAntisymmetric
