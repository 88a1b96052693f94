use Rattle.std.proofs.Common.{◌≡◌}
use Rattle.std.specs.List.{list_any}
use Rattle.nm_validate_rules.specs.Cases.{outwards}
use Rattle.nm_edit.specs.Rivals.{is_other_case}
use Rattle.nm_edit.proofs.rivals.any_other.Given as goal

abbrev pub invariant-outwards : goal.invariant-outwards
invariant-outwards l = list_any (is_other_case l.schema l.case) (outwards l.schema l.left l.over) ≡ list_any (is_other_case l.schema l.case) (outwards l.schema l.most l.fn.from)

abbrev pub decreases-outwards : goal.decreases-outwards
decreases-outwards l = l.left
