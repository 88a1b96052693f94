use Rattle.std.proofs.Common.{Some, drop, ap, ◌∙◌, arith}
use Rattle.nm_overlay.specs.Places.{is_up_to}
use Rattle.nm_overlay.proofs.Fronts.{left_after, front_within}
use Rattle.nm_overlay.proofs.places.after_path.Goals as goal

pub split_at-requires : goal.split_at-requires
split_at-requires c = omega (arith, c.place_past_path-place.ensures, front_within (is_up_to (Some c.args.path.now)) c.args.pairs.now)

pub returns : goal.returns
returns c = c.split_at.ensures.back ∙ ap (λ n. drop n c.args.pairs.now) c.place_past_path-place.ensures
    ∙ left_after c.args.path.now c.args.pairs.now c.requires
