use Rattle.std.proofs.Common.{◌≡◌, ◌∙◌, sym, subst, IfOk, Bool}
use Rattle.nm_schema_leafref.proofs.Places.{module-known}
use Rattle.nm_schema_leafref.proofs.tree.is_known_module.Goals as goal

pub returns : goal.returns
returns c =
    subst (λ (b : Bool). IfOk c.is_known.result (λ (known : Bool). known ≡ b))
    (module-known c.args.expansion.now c.args.owner c.args.shape.now.rows c.args.names.now c.args.shape.now.groupings c.top.result c.requires.rows c.requires.groupings c.requires.names c.top.ensures (sym c.is_grown.ensures ∙ c.if-not-is_grown.false))
    c.is_known.ensures
