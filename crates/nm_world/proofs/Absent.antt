-- Operators and devices that aren't there.
use Rattle.std.proofs.Common.{◌≡◌, ◌==◌, ◌<◌, ℕ, ◌-◌, List, Bool, true, false, cond, Option, Some, None, length, slice_get, refl, ap, arith}
use Rattle.std.proofs.lemmas.Option.{slice_get_past}
use Rattle.nm_proto.specs.Content.{Meaning, TablesState}
use Rattle.nm_proto.specs.declared.message.Request.{Request}
use Rattle.nm_history.specs.History.{RecordedState}
use Rattle.nm_world.specs.World.{operator_at, asking_at, leaving_at}

none_either : {A : Type 0} (b : Bool) (x : Option A) → x ≡ None → cond b None x ≡ None
none_either true x is = refl
none_either false x is = is

pub no_operator : (operators : List (List (Option ℕ))) (number : ℕ) → number ≡ 0 → operator_at operators number ≡ None
no_operator operators number is = ap (operator_at operators) is

pub past_operators : (operators : List (List (Option ℕ))) (number : ℕ) → length operators < number → operator_at operators number ≡ None
past_operators operators number over = none_either (number == 0) (slice_get operators (number - 1)) (slice_get_past operators (number - 1) (omega (arith, over)))

module _ {Config TheEdit Node : Type 0} (m : Meaning Config TheEdit Node) where
  pub none_asked_there : (tables : TablesState TheEdit) (device : ℕ) (request : Request) (operator : Option (List (Option ℕ))) → asking_at m tables device request operator None ≡ None
  none_asked_there tables device request None = refl
  none_asked_there tables device request (Some operator) = refl

  pub none_left_there : (device : ℕ) (operator : Option (List (Option ℕ))) → leaving_at m device operator None ≡ None
  none_left_there device None = refl
  none_left_there device (Some operator) = refl
