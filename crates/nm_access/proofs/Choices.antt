-- Which choice takes another in.
use Rattle.std.proofs.Common.{◌≡◌, Bool}
use Rattle.std.specs.Prelude.{◌↔◌, IsTrue, refl}
use Rattle.std.specs.Bool.{one_answer}
use Rattle.std.specs.Ordering.{eq_by_cmp}
use Rattle.nm_types.specs.Path.{Choice, choice_cmp}
use Rattle.nm_types.specs.PathLaws.{same_choice_decides}

-- whether two choices are one is what their order says
pub same_is : (x y : Choice) (b : Bool) → (IsTrue b ↔ (x ≡ y)) → b ≡ eq_by_cmp choice_cmp x y
same_is x y b same = one_answer _ _ same (same_choice_decides x y (eq_by_cmp choice_cmp x y) refl)
