use Rattle.std.proofs.Common.{◌≡◌, IfOk, subst}
use Rattle.nm_schema_statements.specs.declared.word.Word.TheVariants as word
use Rattle.nm_schema_statements.specs.declared.flaw.Flaw.TheVariants as flaw
use Rattle.nm_schema_statements.specs.Word.{word_text}
use Rattle.nm_schema_uses.specs.Outline.{Outline}
use Rattle.nm_schema_uses.specs.Config.{HasFlawIf, IsContradicted, claim_at}
use Rattle.nm_schema_faults.specs.Facts.{definitions}
use Rattle.nm_schema_faults.specs.Flaw.{config_flaw, is_marked_in}
use Rattle.nm_schema_faults.specs.Grounded.{Grounded}
use Rattle.nm_schema_faults.proofs.Telling.{bad_if-told, marked_in-state}
use Rattle.nm_schema_faults.proofs.grounds.Grounds.config_flaw.Goals as goal

pub returns : goal.returns
unfolding config_flaw
returns c =
    let rows = c.self.inside.names.now in
    let marks = c.self.inside.in_state.now in
    subst (λ (g : Grounded). IfOk c.config_flaw.result (λ f. f ≡ config_flaw g.rows g.facts c.args.at)) c.self.view_is
    (bad_if-told (is_marked_in marks (claim_at rows c.args.at)) (IsContradicted rows (definitions rows) c.args.at) word.Config c.config_flaw.result
    (marked_in-state rows (definitions rows) marks (claim_at rows c.args.at) c.self.invariant.facts_are.in_state)
    (subst (λ (o : Outline). IfOk c.config_flaw.result (HasFlawIf (IsContradicted o.rows o.groupings c.args.at) (flaw.BadArgument (word_text word.Config)))) c.self.invariant.shape_is c.config_flaw.ensures))
