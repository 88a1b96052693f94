use Rattle.std.proofs.Common.{List, subst}
use Rattle.nm_schema_statements.specs.declared.row.Row.{Row}
use Rattle.nm_schema.specs.Built.{Answered}
use Rattle.nm_schema.proofs.Sound.{answer_named, answer_sound}
use Rattle.nm_schema.proofs.Marked.{answer_marked}
use Rattle.nm_schema.proofs.Wholes.{answer_whole}
use Rattle.nm_schema.proofs.Faulting.{answer_built, answer_faultless, answer_refused}
use Rattle.nm_schema.proofs.modules.build.Goals as goal

pub returns-clause-answers : goal.returns-clause-answers
returns-clause-answers c = subst (λ (r : List Row). Answered r c.answer_rows.result) c.in_ok-rows.ensures.rows c.answer_rows.ensures

pub returns-clause-built : goal.returns-clause-built
returns-clause-built c = answer_built c.args.modules.now c.in_ok-rows.rows c.answer_rows.result c.in_ok-rows.ensures.rows c.answer_rows.ensures

pub returns-clause-named : goal.returns-clause-named
returns-clause-named c = answer_named c.args.modules.now c.in_ok-rows.rows c.answer_rows.result c.in_ok-rows.ensures.rows c.answer_rows.ensures

pub returns-clause-sound : goal.returns-clause-sound
returns-clause-sound c = answer_sound c.args.modules.now c.in_ok-rows.rows c.answer_rows.result c.in_ok-rows.ensures.rows c.answer_rows.ensures

pub returns-clause-marked : goal.returns-clause-marked
returns-clause-marked c = answer_marked c.in_ok-rows.rows c.answer_rows.result c.answer_rows.ensures

pub returns-clause-whole : goal.returns-clause-whole
returns-clause-whole c = answer_whole c.args.modules.now c.in_ok-rows.rows c.answer_rows.result c.in_ok-rows.ensures.rows c.answer_rows.ensures

pub returns-clause-faultless : goal.returns-clause-faultless
returns-clause-faultless c = answer_faultless c.args.modules.now c.in_ok-rows.rows c.answer_rows.result c.in_ok-rows.ensures.rows c.answer_rows.ensures

pub returns-clause-refused : goal.returns-clause-refused
returns-clause-refused c = answer_refused c.args.modules.now c.in_ok-rows.rows c.answer_rows.result c.in_ok-rows.ensures.rows c.answer_rows.ensures
