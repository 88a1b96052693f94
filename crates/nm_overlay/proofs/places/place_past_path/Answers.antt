use Rattle.std.proofs.Common.{Some, rules}
use Rattle.std.proofs.lemmas.List.Sorted.{IsPartitionPoint-from_clause}
use Rattle.nm_overlay.specs.Places.{is_up_to}
use Rattle.nm_overlay.proofs.Fronts.{parted, front-point, up_to_falls}
use Rattle.nm_overlay.proofs.places.place_past_path.Goals as goal

pub returns : goal.returns
returns c =
    let facts = c.partition_point.ensures in
    let test = is_up_to (Some c.args.path.now) in
    let falls = up_to_falls (Some c.args.path.now) in
    front-point test c.args.pairs.now _ facts.bound (IsPartitionPoint-from_clause (λ pair. test pair.0) c.args.pairs.now _ facts.partitioned (parted test falls c.args.pairs.now c.requires) (λ a r g called. search rules))
