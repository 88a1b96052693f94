use Rattle.std.proofs.Common.{◌≡◌}
use Rattle.serde_json.specs.View.{members_view}
use Rattle.nm_scenario_form.specs.Read.{names_read}
use Rattle.nm_scenario_form.proofs.reader.no_others.Given as goal

-- no member so far has another name
abbrev pub invariant-loop-name : goal.invariant-loop-name
invariant-loop-name g l =
    (goal.iterator-loop-name g).can_next l.name-iterator ×
    (goal.iterator-loop-name g).is_finite l.name-iterator ×
    (names_read (g.N.KnownNames.knows l.names) (members_view l.name-iterator) ≡ names_read (g.N.KnownNames.knows l.fn.names) (members_view l.fn.members.entries))
