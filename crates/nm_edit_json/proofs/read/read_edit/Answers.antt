use Rattle.std.proofs.Common.{subst}
use Rattle.serde_json.specs.View.{view}
use Rattle.nm_edit_json.specs.Whole.{Gives}
use Rattle.nm_edit_json.proofs.Noting.{whole_is}
use Rattle.nm_edit_json.proofs.Edits.{given_law}
use Rattle.nm_edit_json.proofs.read.read_edit.Goals as goal

pub returns-clause-gives : goal.returns-clause-gives
returns-clause-gives c = subst (Gives c.answer-answered.result) (whole_is c.args.schema.now (view c.args.value.now) c.in_ok-gathered.gathered c.in_ok-gathered.ensures) c.answer-answered.ensures

pub returns-clause-edit_of : goal.returns-clause-edit_of
returns-clause-edit_of c = given_law c.answer-answered.result c.args.schema.now (view c.args.value.now) (returns-clause-gives c)
