use Rattle.std.proofs.Common.{Some}
use Rattle.nm_schema_derive.proofs.Onces.{answer_named, answer_once}
use Rattle.nm_schema_derive.proofs.assign.restricted.Goals as goal

pub returns-clause-named : goal.returns-clause-named
returns-clause-named c = answer_named c.args.numbering.now (Some c.args.base.now) c.args.statements.now c.members_of.result c.members_of.ensures

pub returns-clause-once : goal.returns-clause-once
returns-clause-once c = answer_once c.args.numbering.now (Some c.args.base.now) c.args.statements.now c.members_of.result c.members_of.ensures
