use Rattle.std.proofs.Common.{◌≡◌, ◌∙◌, ap, false, length, List, ℕ, arith}
use Rattle.nm_schema_statements.specs.Rows.{roots}
use Rattle.nm_schema_leafref.specs.Place.{is_known_module}
use Rattle.nm_schema_leafref.proofs.Lists.{lists_all}
use Rattle.nm_schema_leafref.proofs.Places.{module-unknown}
use Rattle.nm_schema_leafref.proofs.tree.known_modules.Goals as goal

pub returns : goal.returns
returns c =
    let size : length c.roots-count.result.now ≡ length (roots c.args.expansion.now.rows) = ap (λ (l : List ℕ). length l) (c.roots-count.ensures ∙ ap roots (c.rows.ensures ∙ c.requires.names)) in
    lists_all (is_known_module c.args.expansion.now) false c.loop-owner.owner c.loop-owner.known.items c.loop-owner.invariant (λ i le. module-unknown c.args.expansion.now i (omega arith))
