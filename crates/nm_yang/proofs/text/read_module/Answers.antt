use Rattle.nm_yang.specs.Module.{reading}
use Rattle.nm_yang.proofs.Modules.{answers-spelt, answers-all, one-statement}
use Rattle.nm_yang.proofs.text.read_module.Goals as goal

pub returns-clause-spelt : goal.returns-clause-spelt
unfolding reading
returns-clause-spelt c = answers-spelt c.args.text.now c.read_within.result c.read_within.ensures

pub returns-clause-all : goal.returns-clause-all
unfolding reading
returns-clause-all c = λ statement spelt. answers-all c.args.text.now statement c.read_within.result spelt c.read_within.ensures

pub returns-clause-one : goal.returns-clause-one
returns-clause-one c = λ statement other. one-statement c.args.text.now statement other
