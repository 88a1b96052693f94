use Rattle.std.proofs.Common.{rules, arith, ◌≡◌, ℕ, ℤ, List, ◌-◌, ◌≤◌, length, drop, FitsSigned, sym, subst, ap, ◌∙◌}
use Rattle.std.specs.Int.{w128}
use Rattle.std.proofs.lemmas.Int.{to_z-of_z}
use Rattle.std.proofs.lemmas.List.{take_all, length-drop}
use Rattle.nm_types.specs.Parts.{place_of}
use Rattle.nm_schema_derive.specs.Cover.{rest_from}
use Rattle.nm_schema_derive.proofs.Covers.{passed, place_within}
use Rattle.nm_schema_derive.proofs.cover.rest_from.Goals as goal

pub offset_bounds-base-place_of : goal.offset_bounds-base-place_of
offset_bounds-base-place_of c =
    let within : c.place_of.result ≤ length c.args.base.now = subst (λ (k : ℕ). k ≤ length c.args.base.now) (sym c.place_of.ensures) (place_within c.args.base.now _) in
    search rules

pub slice_bounds-walked_from-count : goal.slice_bounds-walked_from-count
slice_bounds-walked_from-count c = subst (λ (k : ℕ). k ≤ length c.args.base.now) (sym c.place_of.ensures) (place_within c.args.base.now _)

pub slice_bounds-walked_from-start : goal.slice_bounds-walked_from-start
slice_bounds-walked_from-start c =
    let within : c.place_of.result ≤ length c.args.base.now = subst (λ (k : ℕ). k ≤ length c.args.base.now) (sym c.place_of.ensures) (place_within c.args.base.now _) in
    search rules

pub returns : goal.returns
returns c =
    let low = c.args.part.now.0 in
    let high = c.args.part.now.1 in
    let fits : FitsSigned w128 low = search rules in
    let place : c.place_of.result ≡ place_of c.args.base.now low = c.place_of.ensures ∙ ap (place_of c.args.base.now) (to_z-of_z w128 low fits) in
    let rest = take_all (length c.args.base.now - c.place_of.result) (drop c.place_of.result c.args.base.now) (omega (arith, length-drop c.place_of.result c.args.base.now)) in
    c.walked_from.ensures ∙ ap (λ (ps : List (ℤ × ℤ)). rest_from ps low high) rest ∙ ap (λ (k : ℕ). rest_from (drop k c.args.base.now) low high) place ∙ passed c.args.base.now low high
