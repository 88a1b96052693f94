use Rattle.std.proofs.Common.{◌≡◌}
use Rattle.nm_base.specs.Numbers.{is_among}
use Rattle.nm_validate_rules.specs.Cases.{outwards}
use Rattle.nm_validate_places.proofs.cases.is_outwards.Given as goal

abbrev pub invariant-outwards : goal.invariant-outwards
invariant-outwards l = is_among l.case (outwards l.schema l.left l.over) ≡ is_among l.case (outwards l.schema l.most l.fn.from)

abbrev pub decreases-outwards : goal.decreases-outwards
decreases-outwards l = l.left
