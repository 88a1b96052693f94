use Rattle.std.proofs.Common.{◌≡◌, length, sym, ap, ◌∙◌, arith, rules}
use Rattle.nm_schema_statements.specs.Rows.{children}
use Rattle.nm_schema_statements.proofs.Indexes.{none_in}
use Rattle.nm_schema_statements.proofs.rows.Rows.below.Goals as goal

pub returns : goal.returns
returns c =
    let i = c.self.invariant.0 in
    let count = i.count in
    let len : c.len.result ≡ length c.self.inside.below.items = search rules in
    let v = c.self.view_is in
    sym (ap (λ rows. children rows c.args.at) (sym v) ∙ none_in 0 c.args.at c.self.inside.rows.items i.parents (omega arith))
