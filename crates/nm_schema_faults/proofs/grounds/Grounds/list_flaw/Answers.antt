use Rattle.std.proofs.Common.{◌≡◌, ◌&&◌, IfOk, subst}
use Rattle.nm_schema_statements.specs.declared.word.Word.TheVariants as word
use Rattle.nm_schema_statements.specs.declared.flaw.Flaw.TheVariants as flaw
use Rattle.nm_schema_statements.specs.Word.{word_text}
use Rattle.nm_schema_uses.specs.Outline.{Outline}
use Rattle.nm_schema_uses.specs.Config.{HasFlawIf, LacksKey, is_keyless}
use Rattle.nm_schema_faults.specs.Facts.{definitions, is_marked}
use Rattle.nm_schema_faults.specs.Flaw.{list_flaw}
use Rattle.nm_schema_faults.specs.Grounded.{Grounded}
use Rattle.nm_schema_faults.proofs.Telling.{bad_if-told, keyless-lacks}
use Rattle.nm_schema_faults.proofs.grounds.Grounds.list_flaw.Goals as goal

pub returns : goal.returns
unfolding list_flaw
returns c =
    let rows = c.self.inside.names.now in
    let marks = c.self.inside.configured.now in
    subst (λ (g : Grounded). IfOk c.list_flaw.result (λ f. f ≡ list_flaw g.rows g.facts c.args.at)) c.self.view_is
    (bad_if-told (is_keyless rows c.args.at && is_marked marks c.args.at) (LacksKey rows (definitions rows) c.args.at) word.Key c.list_flaw.result
    (keyless-lacks rows (definitions rows) marks c.args.at c.self.invariant.facts_are.configured)
    (subst (λ (o : Outline). IfOk c.list_flaw.result (HasFlawIf (LacksKey o.rows o.groupings c.args.at) (flaw.BadArgument (word_text word.Key)))) c.self.invariant.shape_is c.list_flaw.ensures))
