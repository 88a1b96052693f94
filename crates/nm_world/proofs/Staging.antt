-- An event at one device, seen at all of them, and in what stands.
use Rattle.std.proofs.Common.{◌≡◌, ◌==◌, false, cond, ℕ, ◌-◌, List, Option, Some, None, Bool, Result, Ok, Err, IfOk, OnErr, ◌<◌, length, slice_get, set, get_or, refl, sym, ap, ◌∙◌, subst, arith}
use Rattle.std.proofs.lemmas.Bool.Decides.{nat_tests}
use Rattle.std.proofs.lemmas.Option.{slice_get_read}
use Rattle.nm_base.specs.declared.fault.NoMemory.{NoMemory}
use Rattle.std.specs.List.{All}
use Rattle.std.proofs.lemmas.List.{set-get_or}
use Rattle.std.proofs.lemmas.List.Elements.{All-set}
use Rattle.nm_proto.specs.Content.{Meaning, TablesState}
use Rattle.nm_device.specs.Device.{IsInTime, IsSound}
use Rattle.nm_history.specs.History.{RecordedState}
use Rattle.nm_manager.specs.declared.action.Action.{Action}
use Rattle.nm_manager.specs.Manager.{Managing, Step, with_state}
use Rattle.nm_world.specs.declared.happened.Happened.{Happened}
use Rattle.nm_world.specs.declared.happened.Happened.TheVariants as happened
use Rattle.nm_world.specs.World.{CoreValue, SetupState, Meeting, Asking, Moved, met, moved, asked_by, by_manager, happened_of, operator_at, IsCome, Comes, IsMet, IsAsked, IsMoved, AreSound, AreInTime}

-- what stands at a place where nothing has changed
pub unmoved : {A : Type 0} (xs : List A) (i : ℕ) (old new : A) → old ≡ get_or xs i old → new ≡ old → set xs i new ≡ xs
unmoved xs i old new is same = ap (set xs i) (same ∙ is) ∙ set-get_or xs i old

is_at : (operators : List (List (Option ℕ))) (number : ℕ) (before : List (Option ℕ)) → 0 < number → number - 1 < length operators → before ≡ get_or operators (number - 1) before
    → operator_at operators number ≡ Some before
is_at operators number before positive within is =
    let e : (number == 0) ≡ false = grind (arith, nat_tests) in
    ap (λ b. cond b None (slice_get operators (number - 1))) e ∙ slice_get_read operators (length operators) (number - 1) before refl within is

there : {A : Type 0} (devices : List A) (i device : ℕ) (old : A) → i ≡ device - 1 → i < length devices → old ≡ get_or devices i old
    → slice_get devices (device - 1) ≡ Some old
there devices i device old place within is = ap (slice_get devices) (sym place) ∙ slice_get_read devices (length devices) i old refl within is

-- what holds of each device holds of the one at a place, and of each where it holds of what that is then. The content is told in two ways
module _ {TheContent Config TheEdit Node : Type 0} (meaning : TheContent → Meaning Config TheEdit Node) (content first : TheContent) (same : content ≡ first) where
  pub sound_there : (devices : List (RecordedState Config Node)) (i : ℕ) (old : RecordedState Config Node) → i < length devices → old ≡ get_or devices i old
      → AreSound (meaning first) devices → IsSound (meaning content) old.device
  sound_there devices i old within is sound =
      subst (λ x. IsSound (meaning x) old.device) (sym same) (subst (λ (r : RecordedState Config Node). IsSound (meaning first) r.device) (sym is) (sound i old within))

  pub sound_after : (devices : List (RecordedState Config Node)) (i : ℕ) (new : RecordedState Config Node) → AreSound (meaning first) devices → IsSound (meaning content) new.device
      → AreSound (meaning first) (set devices i new)
  sound_after devices i new sound own =
      All-set (λ (r : RecordedState Config Node). IsSound (meaning first) r.device) devices i new (subst (λ x. IsSound (meaning x) new.device) same own) sound

  pub edits_there : (tables others : TablesState TheEdit) → tables ≡ others → All (meaning first).edit_belongs others.edits → All (meaning content).edit_belongs tables.edits
  edits_there tables others alike belong =
      subst (λ x. All (meaning x).edit_belongs tables.edits) (sym same) (subst (λ (t : TablesState TheEdit). All (meaning first).edit_belongs t.edits) (sym alike) belong)

pub in_time_there : {Config Node : Type 0} (devices : List (RecordedState Config Node)) (i : ℕ) (old : RecordedState Config Node) → i < length devices → old ≡ get_or devices i old
    → AreInTime devices → IsInTime old.device.clock
in_time_there {Config} {Node} devices i old within is timed = subst (λ (r : RecordedState Config Node). IsInTime r.device.clock) (sym is) (timed i old within)

module _ {TheContent Config TheEdit Node : Type 0} (setup : SetupState TheContent Config TheEdit) (has_diverged : Bool) where
  -- what stands, of its parts
  abbrev pub core_value : Managing → List (RecordedState Config Node) → List (List (Option ℕ)) → CoreValue TheContent Config TheEdit Node
  core_value manager devices operators = record {
    content = setup.content;
    setting = record { tables = setup.setting.tables; plans = manager.plans; users = setup.setting.users };
    first_configs = setup.first_configs;
    failed = manager.failed;
    has_failed = manager.has_failed;
    state = record { devices = devices; entries = manager.state.entries; slots = manager.state.slots; operators = operators; has_diverged = has_diverged };
  }

  -- an event that doesn't apply
  pub none_met : (manager : Managing) (devices : List (RecordedState Config Node)) (operators : List (List (Option ℕ))) (device : ℕ) (x : Option (Meeting Config Node)) → x ≡ None
      → IsCome happened.Idle (core_value manager devices operators) (core_value manager devices operators) (met (core_value manager devices operators).state device x)
  none_met manager devices operators device x is =
      let w = core_value manager devices operators in
      subst (λ y. IsCome happened.Idle w w (met w.state device y)) (sym is) (refl, refl)

  pub none_moved : (manager : Managing) (devices : List (RecordedState Config Node)) (operators : List (List (Option ℕ))) (device : ℕ) (x : Option (Moved Config Node)) → x ≡ None
      → IsCome happened.Idle (core_value manager devices operators) (core_value manager devices operators) (moved (core_value manager devices operators).state device x)
  none_moved manager devices operators device x is =
      let w = core_value manager devices operators in
      subst (λ y. IsCome happened.Idle w w (moved w.state device y)) (sym is) (refl, refl)

  pub none_asked : (manager : Managing) (devices : List (RecordedState Config Node)) (operators : List (List (Option ℕ))) (number device : ℕ) (x : Option (Asking Config Node)) → x ≡ None
      → IsCome happened.Idle (core_value manager devices operators) (core_value manager devices operators) (asked_by (core_value manager devices operators).state number device x)
  none_asked manager devices operators number device x is =
      let w = core_value manager devices operators in
      subst (λ y. IsCome happened.Idle w w (asked_by w.state number device y)) (sym is) (refl, refl)

  -- an event at a device and the manager
  met_so : (what : Happened) (devices : List (RecordedState Config Node)) (i device : ℕ) (old new : RecordedState Config Node) (before after : Managing) (operators : List (List (Option ℕ)))
      (x : Option (Meeting Config Node)) → i ≡ device - 1 → old ≡ get_or devices i old → IsMet what old new before after x
      → IsCome what (core_value before devices operators) (core_value after (set devices i new) operators) (met (core_value before devices operators).state device x)
  met_so what devices i device old new before after operators None place is m =
      (m.0, ap (λ ds. core_value after ds operators) (unmoved devices i old new is m.1) ∙ ap (λ mg. core_value mg devices operators) m.2)
  met_so what devices i device old new before after operators (Some now) place is m = (
    m.0,
    ap (λ r. core_value after (set devices i r) operators) m.1 ∙ ap (λ k. core_value after (set devices k now.device) operators) place
        ∙ ap (λ mg. core_value mg (set devices (device - 1) now.device) operators) m.2,
  )

  pub comes_met : (result : Result Happened NoMemory) (devices : List (RecordedState Config Node)) (i device : ℕ) (old new : RecordedState Config Node) (before after : Managing)
      (operators : List (List (Option ℕ))) (f g : Option (RecordedState Config Node) → Option (Meeting Config Node)) → f ≡ g → i ≡ device - 1 → i < length devices → old ≡ get_or devices i old
      → IfOk result (λ what. IsMet what old new before after (f (Some old))) → OnErr result (new ≡ old) → OnErr result (after ≡ before)
      → Comes result (core_value before devices operators) (core_value after (set devices i new) operators)
      (met (core_value before devices operators).state device (g (slice_get devices (device - 1))))
  comes_met (Ok what) devices i device old new before after operators f g same place within is m unchanged still =
      let found : f (Some old) ≡ g (slice_get devices (device - 1)) =
      ap (λ (h : Option (RecordedState Config Node) → Option (Meeting Config Node)). h (Some old)) same ∙ ap g (sym (there devices i device old place within is)) in
      subst (λ x. IsCome what (core_value before devices operators) (core_value after (set devices i new) operators) (met (core_value before devices operators).state device x)) found
      (met_so what devices i device old new before after operators (f (Some old)) place is m)
  comes_met (Err fault) devices i device old new before after operators f g same place within is m unchanged still =
      ap (λ ds. core_value after ds operators) (unmoved devices i old new is unchanged) ∙ ap (λ mg. core_value mg devices operators) still

  -- an event at a device alone
  moved_so : (what : Happened) (devices : List (RecordedState Config Node)) (i device : ℕ) (old new : RecordedState Config Node) (manager : Managing) (operators : List (List (Option ℕ)))
      (x : Option (Moved Config Node)) → i ≡ device - 1 → old ≡ get_or devices i old → IsMoved what old new x
      → IsCome what (core_value manager devices operators) (core_value manager (set devices i new) operators) (moved (core_value manager devices operators).state device x)
  moved_so what devices i device old new manager operators None place is m = (m.0, ap (λ ds. core_value manager ds operators) (unmoved devices i old new is m.1))
  moved_so what devices i device old new manager operators (Some now) place is m =
      (m.0, ap (λ r. core_value manager (set devices i r) operators) m.1 ∙ ap (λ k. core_value manager (set devices k now.device) operators) place)

  pub comes_moved : (result : Result Happened NoMemory) (devices : List (RecordedState Config Node)) (i device : ℕ) (old new : RecordedState Config Node) (manager : Managing)
      (operators : List (List (Option ℕ))) (f g : Option (RecordedState Config Node) → Option (Moved Config Node)) → f ≡ g → i ≡ device - 1 → i < length devices → old ≡ get_or devices i old
      → IfOk result (λ what. IsMoved what old new (f (Some old))) → OnErr result (new ≡ old)
      → Comes result (core_value manager devices operators) (core_value manager (set devices i new) operators)
      (moved (core_value manager devices operators).state device (g (slice_get devices (device - 1))))
  comes_moved (Ok what) devices i device old new manager operators f g same place within is m unchanged =
      let found : f (Some old) ≡ g (slice_get devices (device - 1)) =
      ap (λ (h : Option (RecordedState Config Node) → Option (Moved Config Node)). h (Some old)) same ∙ ap g (sym (there devices i device old place within is)) in
      subst (λ x. IsCome what (core_value manager devices operators) (core_value manager (set devices i new) operators) (moved (core_value manager devices operators).state device x)) found
      (moved_so what devices i device old new manager operators (f (Some old)) place is m)
  comes_moved (Err fault) devices i device old new manager operators f g same place within is m unchanged =
      ap (λ ds. core_value manager ds operators) (unmoved devices i old new is unchanged)

  -- a request of an operator
  asked_so : (what : Happened) (devices : List (RecordedState Config Node)) (operators : List (List (Option ℕ))) (i device number : ℕ) (old new : RecordedState Config Node)
      (before after : List (Option ℕ)) (manager : Managing) (x : Option (Asking Config Node)) → i ≡ device - 1 → old ≡ get_or devices i old → before ≡ get_or operators (number - 1) before
      → IsAsked what old new before after x
      → IsCome what (core_value manager devices operators) (core_value manager (set devices i new) (set operators (number - 1) after))
      (asked_by (core_value manager devices operators).state number device x)
  asked_so what devices operators i device number old new before after manager None place is own m = (
    m.0,
    ap (λ ds. core_value manager ds (set operators (number - 1) after)) (unmoved devices i old new is m.1)
        ∙ ap (core_value manager devices) (unmoved operators (number - 1) before after own m.2),
  )
  asked_so what devices operators i device number old new before after manager (Some now) place is own m = (
    m.0,
    ap (λ r. core_value manager (set devices i r) (set operators (number - 1) after)) m.1
        ∙ ap (λ k. core_value manager (set devices k now.device) (set operators (number - 1) after)) place
        ∙ ap (λ o. core_value manager (set devices (device - 1) now.device) (set operators (number - 1) o)) m.2,
  )

  pub comes_asked : (result : Result Happened NoMemory) (devices : List (RecordedState Config Node)) (operators : List (List (Option ℕ))) (i device number : ℕ)
      (old new : RecordedState Config Node) (before after : List (Option ℕ)) (manager : Managing)
      (f g : Option (List (Option ℕ)) → Option (RecordedState Config Node) → Option (Asking Config Node)) → f ≡ g → i ≡ device - 1 → i < length devices → 0 < number
      → number - 1 < length operators → old ≡ get_or devices i old → before ≡ get_or operators (number - 1) before
      → IfOk result (λ what. IsAsked what old new before after (f (Some before) (Some old))) → OnErr result (new ≡ old) → OnErr result (after ≡ before)
      → Comes result (core_value manager devices operators) (core_value manager (set devices i new) (set operators (number - 1) after))
      (asked_by (core_value manager devices operators).state number device (g (operator_at operators number) (slice_get devices (device - 1))))
  comes_asked (Ok what) devices operators i device number old new before after manager f g same place within positive inside is own m unchanged still =
      let found : f (Some before) (Some old) ≡ g (operator_at operators number) (slice_get devices (device - 1)) =
      ap (λ (h : Option (List (Option ℕ)) → Option (RecordedState Config Node) → Option (Asking Config Node)). h (Some before) (Some old)) same ∙ ap (λ o. g o (Some old)) (sym (is_at operators number before positive inside own))
      ∙ ap (g (operator_at operators number)) (sym (there devices i device old place within is)) in
      subst (λ x. IsCome what (core_value manager devices operators) (core_value manager (set devices i new) (set operators (number - 1) after))
      (asked_by (core_value manager devices operators).state number device x)) found
      (asked_so what devices operators i device number old new before after manager (f (Some before) (Some old)) place is own m)
  comes_asked (Err fault) devices operators i device number old new before after manager f g same place within positive inside is own m unchanged still =
      ap (λ ds. core_value manager ds (set operators (number - 1) after)) (unmoved devices i old new is unchanged)
      ∙ ap (core_value manager devices) (unmoved operators (number - 1) before after own still)

  -- an action of the manager
  pub by_so : (what : Happened) (devices : List (RecordedState Config Node)) (operators : List (List (Option ℕ))) (before after : Managing) (step : Step) (act : Action)
      → record { action = act; state = after.state } ≡ step → after ≡ with_state before after.state → what ≡ happened_of act
      → IsCome what (core_value before devices operators) (core_value after devices operators) (by_manager (core_value before devices operators).state step)
  by_so what devices operators before after step act is same told = (
    told ∙ ap (λ (s : Step). happened_of s.action) is,
    ap (λ mg. core_value mg devices operators) same ∙ ap (λ (s : Step). core_value (with_state before s.state) devices operators) is,
  )
