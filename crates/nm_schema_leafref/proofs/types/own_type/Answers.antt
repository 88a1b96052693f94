use Rattle.std.proofs.Common.{◌≡◌, ◌<◌, ◌∙◌, sym, ap, length, None, Some, slice_index_or, arith}
use Rattle.std.proofs.lemmas.List.{get_or_read}
use Rattle.nm_types.specs.LeafType.{TypeOfLeaf}
use Rattle.nm_schema_leafref.specs.Known.{own_in}
use Rattle.nm_schema_leafref.proofs.Typings.{kept-more}
use Rattle.nm_schema_leafref.proofs.types.own_type.Goals as goal

pub returns-in-Some-index-clause-value : goal.returns-in-Some-index-clause-value
returns-in-Some-index-clause-value c =
    let lt : c.in-Some.at < length c.args.kept.now.items = omega (arith, c.len.ensures) in
    let there : slice_index_or c.args.kept.now.items c.in-Some.at None ≡ Some c.in-Some-index.shared = sym (get_or_read c.args.kept.now.items c.in-Some.at c.index.result.now lt c.index.ensures None) ∙ c.in-Some-index.is in
    ap (λ (t : TypeOfLeaf). Some t) c.in_ok-copy.ensures ∙ sym (c.requires c.in-Some.at c.in-Some-index.shared there) ∙ ap (own_in c.args.types.now.meanings) (sym c.in-Some.is)

pub returns-clause-kept : goal.returns-clause-kept
returns-clause-kept c =
    let lt : c.in-Some.at < length c.args.kept.now.items = omega (arith, c.len.ensures) in
    kept-more c.args.types.now.meanings c.args.kept.now.items c.in-Some.at c.in_ok-kept.field-0 c.requires (c.in_ok-kept.ensures ∙ c.in_ok-found.ensures) lt
