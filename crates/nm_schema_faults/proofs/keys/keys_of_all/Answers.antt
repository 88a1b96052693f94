use Rattle.std.proofs.Common.{◌≡◌, ◌∙◌, ◌≤◌, List, length, ap, subst, arith}
use Rattle.std.proofs.lemmas.Bool.{cases_lt}
use Rattle.nm_schema_statements.specs.declared.row.Row.{Row}
use Rattle.nm_schema_statements.specs.Rows.{AreRows}
use Rattle.nm_schema_keys.specs.Keys.{keys_of}
use Rattle.nm_schema_faults.proofs.Listing.{listed_all, keys_past}
use Rattle.nm_schema_faults.proofs.keys.keys_of_all.Goals as goal

pub returns : goal.returns
returns c =
    let count : c.len-list-end.result ≡ length c.args.shape.now.rows = c.len-list-end.ensures ∙ ap (λ (rows : List Row). length rows) (c.rows-3.ensures ∙ c.requires) in
    let all : length c.args.shape.now.rows ≤ c.loop-list.list = omega (arith, count, c.loop-list-test.false) in
    let laws : AreRows c.args.shape.now.rows = subst AreRows (c.rows.ensures ∙ c.requires) c.laws.ensures in
    λ standing is i. listed_all (keys_of c.args.shape.now.rows c.args.shape.now.groupings standing) c.loop-list.list i c.loop-list.keys.items (c.loop-list.invariant standing is)
    (λ le. keys_past c.args.shape.now.rows c.args.shape.now.groupings standing i laws (omega (arith, all, le))) (cases_lt i c.loop-list.list)
