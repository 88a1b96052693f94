use Rattle.std.proofs.Common.{◌∙◌, Some, None, sym}
use Rattle.nm_schema_keys.specs.Uniques.{leads_nowhere}
use Rattle.nm_schema_keys.proofs.Left.{first_flaw}
use Rattle.nm_schema_keys.proofs.finder.Finder.words_flaw.Goals as goal

pub returns-in-None-clause-flaw : goal.returns-in-None-clause-flaw
returns-in-None-clause-flaw c =
    let start = c.args.start in
    first_flaw (leads_nowhere c.args.self.now.rows c.args.self.now.groupings start.loses start.owner start.list) c.args.words.now c.in_ok-first_astray.field-0 None (sym c.is_empty.ensures ∙ c.if-is_empty.false) c.in_ok-first_astray.ensures.word c.in-None.is

pub returns-in-Some-clause-flaw : goal.returns-in-Some-clause-flaw
returns-in-Some-clause-flaw c =
    let start = c.args.start in
    first_flaw (leads_nowhere c.args.self.now.rows c.args.self.now.groupings start.loses start.owner start.list) c.args.words.now c.in_ok-first_astray.field-0 (Some c.in-Some.word) (sym c.is_empty.ensures ∙ c.if-is_empty.false) c.in_ok-first_astray.ensures.word c.in-Some.is
