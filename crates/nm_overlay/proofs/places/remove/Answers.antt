use Rattle.std.proofs.Common.{slice_get, ap, sym, ◌∙◌}
use Rattle.std.specs.List as list
use Rattle.nm_overlay.specs.Places.{front, is_before, is_pair_of}
use Rattle.nm_overlay.proofs.Fronts.{remove_here, remove_none, absent_here}
use Rattle.nm_overlay.proofs.places.remove.Goals as goal

pub returns-then-stands_at : goal.returns-then-stands_at
returns-then-stands_at c =
    let place = c.place_of-place.ensures ∙ ap (front (is_before c.args.path.now)) c.deref.ensures.value in
    let at = c.stands_at.ensures ∙ (λ i. is_pair_of c.args.path.now (slice_get (c.deref-2.ensures.value i) (place i))) in
    c.remove.ensures.items ∙ ap (list.remove c.args.pairs.now.items) place
    ∙ sym (remove_here c.args.path.now c.args.pairs.now.items c.requires (sym at ∙ c.if-stands_at.true))

pub returns-else-stands_at : goal.returns-else-stands_at
returns-else-stands_at c =
    let place = c.place_of-place.ensures ∙ ap (front (is_before c.args.path.now)) c.deref.ensures.value in
    let at = c.stands_at.ensures ∙ (λ i. is_pair_of c.args.path.now (slice_get (c.deref-2.ensures.value i) (place i))) in
    remove_none c.args.path.now c.args.pairs.now.items (absent_here c.args.path.now c.args.pairs.now.items c.requires (sym at ∙ c.if-stands_at.false))
