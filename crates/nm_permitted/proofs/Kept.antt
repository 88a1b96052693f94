-- What holds of each event holds of each that is permitted.
use Rattle.std.proofs.Common.{◌≤◌, ℕ, suc, List, [], ◌∷◌, Bool, true, false, Option, is_some, length, arith, if◌then◌else◌}
use Rattle.std.specs.List.{All}
use Rattle.std.proofs.lemmas.List.Elements.{All-cons, All-head, All-tail}
use Rattle.nm_proto.specs.Content.{Meaning}
use Rattle.nm_proto.specs.declared.plan.Event.{Event}
use Rattle.nm_world.specs.World.{Setting, CoreState, WorldState, core_of, event_step}
use Rattle.nm_permitted.specs.declared.judge.Denial.{Denial}
use Rattle.nm_permitted.specs.Permitted.{permitted}

module _ {Config TheEdit Node : Type 0} (m : Meaning Config TheEdit Node) (setting : Setting TheEdit) (judge : CoreState Config Node → Event → Option Denial) where
  abbrev may : WorldState Config Node → List Event → List Event
  may w events = permitted m setting judge w events

  module _ (P : Event → Type 0) where
    keeps_by : (denies : Bool) (event : Event) (these those : List Event) → P event → All P these → All P those → All P (if denies then these else event ∷ those)
    keeps_by true event these those now all others = all
    keeps_by false event these those now all others = All-cons P event those now others

    pub permitted_keeps : (w : WorldState Config Node) (events : List Event) → All P events → All P (may w events)
    permitted_keeps w [] all = all
    permitted_keeps w (event ∷ events) all =
        let rest = All-tail P event events all in
        keeps_by (is_some (judge (core_of w) event)) event (may w events) (may (event_step m setting w event) events) (All-head P event events all)
        (permitted_keeps w events rest) (permitted_keeps (event_step m setting w event) events rest)

  fewer_by : (denies : Bool) (event : Event) (these those : List Event) (n : ℕ) → length these ≤ n → length those ≤ n → length (if denies then these else event ∷ those) ≤ suc n
  fewer_by true event these those n few others = omega (arith, few)
  fewer_by false event these those n few others = omega (arith, others)

  -- there are no more of them
  pub permitted_fewer : (w : WorldState Config Node) (events : List Event) → length (may w events) ≤ length events
  permitted_fewer w [] = omega arith
  permitted_fewer w (event ∷ events) =
      fewer_by (is_some (judge (core_of w) event)) event (may w events) (may (event_step m setting w event) events) (length events)
      (permitted_fewer w events) (permitted_fewer (event_step m setting w event) events)
