use Rattle.std.proofs.Common.{◌∙◌, ℕ, ◌+◌, ◌≤◌, ◌^◌, List, Option, length, sym, ap, subst, arith}
use Rattle.nm_schema_statements.specs.declared.row.Row.{Row}
use Rattle.nm_schema_uses.specs.Outline.{Outline}
use Rattle.nm_schema_nodes.specs.Forks.{Forking}
use Rattle.nm_schema_nodes.specs.Choices.{forks_of}
use Rattle.nm_schema.specs.Choices.{place_for, forks_in, with_place, with_spots, AreRoom}
use Rattle.nm_schema.proofs.Placing.{spots_room}
use Rattle.nm_schema.proofs.Chosen.{none_placed, none_cased, forks_known}
use Rattle.nm_schema.proofs.choice.add_place.Goals as goal

pub returns-in_default-clause-schema : goal.returns-in_default-clause-schema
returns-in_default-clause-schema c =
    let known = c.in_ok-shared.ensures ∙ ap (λ (o : Outline). forks_of o.rows o.groupings c.args.place.row) c.requires.choices in
    none_placed c.args.grounds.now.rows (place_for c.args.place.parent c.args.place.owner c.args.place.row) c.args.schema.now (sym known ∙ c.in_default.is)

pub returns-in_default-clause-cases : goal.returns-in_default-clause-cases
returns-in_default-clause-cases c =
    let known = c.in_ok-shared.ensures ∙ ap (λ (o : Outline). forks_of o.rows o.groupings c.args.place.row) c.requires.choices in
    none_cased c.args.grounds.now.rows c.args.place.row c.args.schema.now c.args.nodes.now c.args.case_in.now.items (sym known ∙ c.in_default.is)

pub put_spots-requires : goal.put_spots-requires
put_spots-requires c =
    let f = c.get-forks.result.now in
    let few : c.count_cases-cases.result + length f.cases ≤ 2 ^ 64 = omega (arith, c.count_cases-cases.ensures.few, c.count_branches-count.ensures.count, c.count_branches-count.ensures.few, ap length c.cases.ensures) in
    record { room = subst (λ (l : List (Option ℕ)). AreRoom c.count_cases-cases.result l) (sym c.spots.ensures) (spots_room f c.laws.ensures c.count_cases-cases.result few) }

pub returns-clause-schema : goal.returns-clause-schema
returns-clause-schema c =
    let rows = c.args.grounds.now.rows in
    let p = place_for c.args.place.parent c.args.place.owner c.args.place.row in
    let known = c.in_ok-shared.ensures ∙ ap (λ (o : Outline). forks_of o.rows o.groupings c.args.place.row) c.requires.choices in
    let forks = c.get-forks.ensures ∙ sym (forks_known rows c.args.place.row c.in-Some.shared (sym known ∙ c.in-Some.is)) in
    c.in_ok-put_place.ensures ∙ ap (λ (rs : List Row). with_place rs p c.get-forks.result.now c.args.schema.now) c.rows.ensures ∙ ap (λ (f : Forking). with_place rows p f c.args.schema.now) forks

pub returns-clause-cases : goal.returns-clause-cases
returns-clause-cases c =
    let rows = c.args.grounds.now.rows in
    let p = place_for c.args.place.parent c.args.place.owner c.args.place.row in
    let known = c.in_ok-shared.ensures ∙ ap (λ (o : Outline). forks_of o.rows o.groupings c.args.place.row) c.requires.choices in
    let forks = c.get-forks.ensures ∙ sym (forks_known rows c.args.place.row c.in-Some.shared (sym known ∙ c.in-Some.is)) in
    let spots = c.spots.ensures ∙ ap (λ (f : Forking). f.spots) forks in
    let cases = c.count_cases-cases.ensures.count ∙ ap length c.cases-2.ensures in
    c.put_spots.ensures ∙ ap (λ (l : List (Option ℕ)). with_spots c.args.case_in.now.items c.args.nodes.now l c.count_cases-cases.result) spots
    ∙ ap (λ n. with_spots c.args.case_in.now.items c.args.nodes.now (forks_in rows c.args.place.row).spots n) cases
