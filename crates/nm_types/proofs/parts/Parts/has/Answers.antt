use Rattle.std.proofs.Common.{rules, ◌≡◌, Some, None, slice_get, ℤ, to_z, of_z, ap, refl, sym, ◌∙◌}
use Rattle.std.specs.Int.{w128}
use Rattle.std.specs.Prelude.{int_le}
use Rattle.std.proofs.lemmas.Int.{to_z-of_z}
use Rattle.std.proofs.lemmas.Option.{slice_get_past, slice_get_read}
use Rattle.nm_types.specs.Parts.{place_of}
use Rattle.nm_types.proofs.Searches.{answered}
use Rattle.nm_types.proofs.parts.Parts.has.Goals as goal

pub returns-in-None : goal.returns-in-None
returns-in-None c =
    let parts = c.as_slice-parts.result.now in
    let place = c.place_of.ensures ∙ ap (place_of parts) (to_z-of_z w128 c.args.number c.ranges.number) in
    let there = ap (slice_get parts) (sym place) ∙ slice_get_past parts c.place_of.result c.in-None.ensures.lookup.3 in
    answered parts c.args.self.now c.args.number None c.as_slice-parts.ensures.value c.as_slice-parts.ensures.ascending there

pub returns-in-Some : goal.returns-in-Some
returns-in-Some c =
    let parts = c.as_slice-parts.result.now in
    let z = to_z-of_z w128 c.args.number c.ranges.number in
    let low : to_z w128 (of_z w128 c.in-Some.part.now.0) ≡ c.in-Some.part.now.0 = to_z-of_z w128 c.in-Some.part.now.0 (search rules) in
    let there = ap (slice_get parts) (sym (c.place_of.ensures ∙ ap (place_of parts) z)) ∙ slice_get_read parts _ c.place_of.result c.in-Some.part.now refl c.in-Some.ensures.lookup.3.0 c.in-Some.ensures.lookup.1 in
    ap (λ (n : ℤ). int_le n (to_z w128 (of_z w128 c.args.number))) low ∙ ap (int_le c.in-Some.part.now.0) z
    ∙ answered parts c.args.self.now c.args.number (Some c.in-Some.part.now) c.as_slice-parts.ensures.value c.as_slice-parts.ensures.ascending there
