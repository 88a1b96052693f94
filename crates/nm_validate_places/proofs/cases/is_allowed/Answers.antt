use Rattle.std.proofs.Common.{sym, subst}
use Rattle.nm_validate_places.specs.Tables.{AreOfCases}
use Rattle.nm_validate_places.proofs.cases.is_allowed.Goals as goal

pub is_allowed_in-requires : goal.is_allowed_in-requires
is_allowed_in-requires g c = subst (λ gs. AreOfCases c.args.schema.now gs) (sym c.deref.ensures.value) c.requires.cases_are
