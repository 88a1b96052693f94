use Rattle.std.proofs.Common.{◌≡◌, OnOk, subst, set, slice_get, ap, sym, ◌∙◌, arith}
use Rattle.std.specs.List as list
use Rattle.nm_overlay.specs.Places.{front, is_before, is_pair_of}
use Rattle.nm_overlay.proofs.Fronts.{put_here, put_new, front_within}
use Rattle.nm_overlay.proofs.places.put.Goals as goal

pub returns-then-stands_at-clause-ok : goal.returns-then-stands_at-clause-ok
returns-then-stands_at-clause-ok c =
    let place = c.place_of-place.ensures ∙ ap (front (is_before c.args.path)) c.deref.ensures.value in
    let at = c.stands_at.ensures ∙ (λ i. is_pair_of c.args.path (slice_get (c.deref-2.ensures.value i) (place i))) in
    ap (λ n. set c.args.pairs.now.items n (c.args.path, c.args.change)) place
    ∙ sym (put_here c.args.path c.args.change c.args.pairs.now.items (sym at ∙ c.if-stands_at.true))

pub insert_at-requires : goal.insert_at-requires
insert_at-requires c = omega (arith, c.deref.ensures.len, front_within (is_before c.args.path) c.deref.result.now, c.place_of-place.ensures)

pub returns-clause-ok : goal.returns-clause-ok
returns-clause-ok c =
    let place = c.place_of-place.ensures ∙ ap (front (is_before c.args.path)) c.deref.ensures.value in
    let at = c.stands_at.ensures ∙ (λ i. is_pair_of c.args.path (slice_get (c.deref-2.ensures.value i) (place i))) in
    let whole = ap (λ n. list.insert c.args.pairs.now.items n (c.args.path, c.args.change)) place
    ∙ sym (put_new c.args.path c.args.change c.args.pairs.now.items (sym at ∙ c.if-stands_at.false)) in
    subst (λ u. OnOk c.insert_at.result (c.insert_at.new.pairs.items ≡ u)) whole c.insert_at.ensures.ok
