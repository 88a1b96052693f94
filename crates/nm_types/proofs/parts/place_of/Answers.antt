use Rattle.std.proofs.Common.{rules}
use Rattle.std.specs.Prelude.{int_lt}
use Rattle.std.proofs.lemmas.List.Sorted.{IsPartitionPoint-from_clause}
use Rattle.nm_types.proofs.Searches.{below_first, place_found}
use Rattle.nm_types.proofs.parts.place_of.Goals as goal

pub returns : goal.returns
returns c =
    let first = below_first c.args.parts.now c.args.number c.requires in
    let point = IsPartitionPoint-from_clause (λ part. int_lt part.1 c.args.number) _ _ c.partition_point.ensures.partitioned first (λ a r q k. search rules) in
    place_found c.args.parts.now c.args.number c.partition_point.result c.partition_point.ensures.bound point
