use Rattle.std.proofs.Common.{◌≡◌, IfOk, subst}
use Rattle.nm_schema_keys.specs.Keys.{key_flaw}
use Rattle.nm_schema_faults.specs.Facts.{definitions, standing}
use Rattle.nm_schema_faults.specs.Grounded.{Grounded}
use Rattle.nm_schema_faults.proofs.Standings.{by_facts}
use Rattle.nm_schema_faults.proofs.grounds.Grounds.key_flaw.Goals as goal

pub returns : goal.returns
returns c = subst (λ (g : Grounded). IfOk c.key_flaw.result (λ f. f ≡ key_flaw g.rows (definitions g.rows) (standing g.facts) c.args.at)) c.self.view_is
    (by_facts (λ rows groupings s. IfOk c.key_flaw.result (λ f. f ≡ key_flaw rows groupings s c.args.at)) _ _ _ c.self.invariant.shape_is c.self.invariant.facts_are c.key_flaw.ensures)
