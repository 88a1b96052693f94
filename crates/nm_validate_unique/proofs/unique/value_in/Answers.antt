use Rattle.std.proofs.Common.{IfSome, Some, ◌≡◌, sym, subst, ◌∙◌}
use Rattle.std.specs.FinMap.{get}
use Rattle.nm_validate_rules.specs.Values.{path_in}
use Rattle.nm_validate_unique.proofs.Apart.{value_there}
use Rattle.nm_validate_unique.proofs.unique.value_in.Goals as goal

pub returns-in-Some : goal.returns-in-Some
returns-in-Some g c =
    let t = c.args.schema.now in
    let rows = g.M.RowMap.rows c.args.config.now in
    let path = path_in t c.args.entry.now c.args.way.now.leaf in
    let found = subst (λ o. IfSome o (λ v. get rows path ≡ Some v)) c.in-Some.is (c.in_ok-value.ensures rows c.requires.rows) in
    sym (value_there t rows path c.args.way.now.leaf c.in-Some.value (sym c.is_key.ensures ∙ c.if-is_key.false) found)
