use Rattle.std.proofs.Common.{rules}
use Rattle.std.proofs.lemmas.List.Sorted.{IsPartitionPoint-from_clause}
use Rattle.nm_overlay.specs.Places.{is_before_or_under}
use Rattle.nm_overlay.proofs.Fronts.{parted, front-point, under_falls}
use Rattle.nm_overlay.proofs.places.place_past.Goals as goal

pub returns : goal.returns
returns c =
    let facts = c.partition_point.ensures in
    let test = is_before_or_under c.args.node.now in
    let falls = under_falls c.args.node.now in
    front-point test c.args.pairs.now _ facts.bound (IsPartitionPoint-from_clause (λ pair. test pair.0) c.args.pairs.now _ facts.partitioned (parted test falls c.args.pairs.now c.requires) (λ a r g called. search rules))
