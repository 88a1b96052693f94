use Rattle.std.proofs.Common.{◌<◌, length, slice_set, refl, sym, subst, arith}
use Rattle.nm_validate_places.specs.Groups.{Puts}
use Rattle.nm_validate_places.proofs.Grouped.{put_is}
use Rattle.nm_validate_places.proofs.areas.put_into.Goals as goal

pub returns-in_ok-push : goal.returns-in_ok-push
returns-in_ok-push c =
    let long = c.args.groups.now.ok in
    let h = c.in-Some-get_mut.ensures.variant.0 refl in
    let lt : c.in-Some.at < length c.args.groups.now.items = omega (arith, h, long) in
    let put = put_is c.args.groups.now.items c.in-Some.at c.in-Some-get_mut.paths.now c.push.new.self c.args.path lt c.in-Some-get_mut.ensures.value c.in_ok-push.ensures.items in
    subst (λ o. Puts c.args.path.now o c.args.groups.now.items (slice_set c.args.groups.now.items c.in-Some.at c.push.new.self)) (sym c.in-Some.is) put
