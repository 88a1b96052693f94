use Rattle.std.proofs.Common.{◌≤◌, length, arith}
use Rattle.nm_schema_names.specs.Modules.{module_found, AreModules}
use Rattle.nm_schema_names.proofs.Givens.{given_more, given_all}
use Rattle.nm_schema_names.proofs.modules.modules_of.Goals as goal

pub loop-at-preserved : goal.loop-at-preserved
loop-at-preserved c = λ name.
    given_more c.args.rows.now c.loop-at.at c.in-Some.row.now name (module_found c.loop-at.modules name) (module_found c.put.new.modules name) c.in-Some.ensures (c.loop-at.invariant name) (c.in-Ok.ensures.put name)

pub returns : goal.returns
unfolding AreModules
returns c =
    let all : length c.args.rows.now ≤ c.loop-at.at = omega arith in
    λ name. given_all c.args.rows.now c.loop-at.at name (module_found c.loop-at.modules name) all (c.loop-at.invariant name)
