-- What a device tells of a change set that is to be committed, once it was committed there.
use Rattle.std.proofs.Common.{◌≡◌, true, false, arith}
use Rattle.std.proofs.lemmas.Bool.Decides.{nat_tests}
use Rattle.nm_history.specs.declared.outcome.Outcome.{Outcome}
use Rattle.nm_history.specs.Outcome.{is_final, is_pending, is_undone}
use Rattle.nm_safety.specs.Pair.{is_confirmed, is_never}
use Rattle.nm_commit_laws.specs.Marks.{is_there}

-- a refused confirm leaves nothing pending: so it is over
pub refused_final : (outcome : Outcome) → is_pending outcome ≡ false → is_never outcome ≡ false → is_final outcome ≡ true
refused_final outcome p n = grind (arith, nat_tests)

-- a mark that is there where it is over
pub mark_confirmed : (outcome : Outcome) → is_final outcome ≡ true → is_there outcome ≡ true → is_confirmed outcome ≡ true
mark_confirmed outcome f t = grind (arith, nat_tests)

-- and one that isn't
pub mark_undone : (outcome : Outcome) → is_there outcome ≡ false → is_never outcome ≡ false → is_undone outcome ≡ true
mark_undone outcome t n = grind (arith, nat_tests)
