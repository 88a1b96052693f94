use Rattle.std.proofs.Common.{◌∙◌, ◌<◌, ◌++◌, ◌∷◌, [], ℕ, List, length, sym, ap}
use Rattle.nm_schema_uses.proofs.Graphs.{successors-read}
use Rattle.nm_schema_names.proofs.Holders.{some_if}
use Rattle.nm_schema_names.proofs.Drawing.{puts-row}
use Rattle.nm_schema_names.proofs.claims.put_claim.Goals as goal

pub returns : goal.returns
returns c =
    let lt = some_if c.args.holder (λ h. h < length c.args.graph.now.items) c.in-Some.holder c.in-Some.is c.requires.within in
    rw c.in-Some.is (puts-row c.args.rows.now c.in-Some.holder c.args.at c.args.graph.now.items c.push.new.self (sym c.gathers.ensures ∙ c.if-not-gathers.false) lt
    (c.in_ok-push.ensures.items ∙ ap (λ (l : List ℕ). l ++ c.args.at ∷ []) (successors-read c.args.graph.now.items c.in-Some.holder c.index_mut.result.now lt c.index_mut.ensures.value)))
