use Rattle.std.proofs.Common.{◌≡◌}
use Rattle.std.specs.List.{find}
use Rattle.nm_schema_tree.specs.Nodes.{choice_at}
use Rattle.nm_validate_rules.specs.Cases.{is_choice, outwards}
use Rattle.nm_validate_places.proofs.choices.first_outwards.Given as goal

abbrev pub invariant-outwards : goal.invariant-outwards
invariant-outwards l =
    find (λ c. is_choice l.choice (choice_at l.schema.cases c)) (outwards l.schema l.left l.over) ≡ find (λ c. is_choice l.choice (choice_at l.schema.cases c)) (outwards l.schema l.most l.fn.from)

abbrev pub decreases-outwards : goal.decreases-outwards
decreases-outwards l = l.left
