use Rattle.std.proofs.Common.{slice_get, ap, sym, ◌∙◌}
use Rattle.nm_overlay.specs.Places.{said_of}
use Rattle.nm_overlay.proofs.Fronts.{found_here}
use Rattle.nm_overlay.proofs.places.found.Goals as goal

pub returns : goal.returns
returns c =
    c.said_at.ensures ∙ ap (λ n. said_of c.args.path.now (slice_get c.args.pairs.now n)) c.place_of-place.ensures
    ∙ sym (found_here c.args.path.now c.args.pairs.now c.requires)
