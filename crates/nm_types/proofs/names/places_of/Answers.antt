use Rattle.std.proofs.Common.{ℕ, List, cond, nat_cmp, Some, ap, ◌∙◌, refl}
use Rattle.std.specs.BTreeMap.{get, is_at}
use Rattle.std.specs.Cmp.Lexicographic.{slice_cmp}
use Rattle.std.proofs.lemmas.List.{take_all}
use Rattle.nm_types.specs.Names.{place_in}
use Rattle.nm_types.proofs.Places.{place_pushed}
use Rattle.nm_types.proofs.names.places_of.Goals as goal

pub loop-place-preserved : goal.loop-place-preserved
loop-place-preserved c =
    λ name.
    let copied = c.in_ok-copy.ensures in
    place_pushed c.args.names.now c.loop-place.place c.index-names-place.result name (get (slice_cmp nat_cmp) c.loop-place.places name) (get (slice_cmp nat_cmp) c.insert.new.self name)
    c.requires c.loop-place-test.true c.index-names-place.is
    (c.in_ok-insert.ensures.updates.0 name ∙ ap (λ (n : List ℕ). cond (is_at (slice_cmp nat_cmp n) name) (Some c.loop-place.place) (get (slice_cmp nat_cmp) c.loop-place.places name)) copied)
    (c.loop-place.invariant name)

pub loop-place-init : goal.loop-place-init
unfolding place_in
loop-place-init c = λ name. let empty = c.new-places.ensures.empty in rw empty refl

pub returns : goal.returns
returns c = λ name. c.loop-place.invariant name ∙ ap (place_in name) (take_all _ _ c.loop-place-test.false)
