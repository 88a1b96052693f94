-- What every world keeps where something happens at a device that no link of a change set asks for.
use Rattle.std.proofs.Common.{ℕ, ◌≡◌, ◌∙◌, suc, ◌≤◌, List, [], ◌∷◌, Option, Some, None, IfSome, is_some, slice_get, slice_set, unwrap_or, refl, sym, ap, subst, arith}
use Rattle.std.specs.List.{All}
use Rattle.std.proofs.lemmas.Option.{none-some}
use Rattle.nm_base.specs.Token.{token_of}
use Rattle.nm_proto.specs.declared.journal.Entry.{Entry}
use Rattle.nm_proto.specs.declared.journal.Verdict.{Verdict}
use Rattle.nm_proto.specs.declared.plan.ChangePlan.{ChangePlan}
use Rattle.nm_proto.specs.Content.{Meaning, Laws}
use Rattle.nm_proto.specs.Plan.{devices_in}
use Rattle.nm_history.specs.declared.event.DeviceEvent.{DeviceEvent}
use Rattle.nm_history.specs.History.{Happened, RecordedState, noted, recorded_with}
use Rattle.nm_recovery.specs.Recovery.{verdict_in}
use Rattle.nm_device_laws.specs.Moment.{Happens}
use Rattle.nm_device_laws.specs.Telling.{TellsToken}
use Rattle.nm_device_laws.proofs.Keeping.{session_kept}
use Rattle.nm_device_laws.proofs.Numbers.{numbers_rise}
use Rattle.nm_device_laws.proofs.Tokens.{token_kept}
use Rattle.nm_device_laws.proofs.Tells.{token_told}
use Rattle.nm_decider.specs.declared.seat.Seat.{Seat}
use Rattle.nm_wire.specs.Link.{LinkState, fresh_link}
use Rattle.nm_manager.specs.Slot.{SideState, SlotState}
use Rattle.nm_safety.specs.Pair.{PairHolds, first_link}
use Rattle.nm_safety.specs.Slots.{AllHold, HoldsAt}
use Rattle.nm_safety.proofs.Moved.{moved_pair}
use Rattle.nm_world.specs.World.{Setting, CoreState, given_on}
use Rattle.nm_safety.specs.Support.{Owners, IsOwned, IsLinked, IsKept, KeptAt, IsDevice, IsOperator, IsSupported}
pub use Rattle.nm_safety.specs.Keeping.{IsOthers}
use Rattle.nm_safety.proofs.Lists.{some_is, to_some}
use Rattle.nm_safety.proofs.Ours.{later_owned, all_links_map}
use Rattle.nm_safety.proofs.SlotLinks.{links_at}
use Rattle.nm_safety.proofs.Managed.{others_stay}
use Rattle.nm_safety.proofs.Alone.{OpensFor, device_kept}

-- the session of the first link is one of its own
pub first_is_owned : (P : LinkState → Type 0) (links : List LinkState) → P fresh_link → IfSome (slice_get links 0) P → P (unwrap_or (slice_get links 0) fresh_link)
first_is_owned P [] fresh h = fresh
first_is_owned P (link ∷ links) fresh h = h

module _ {Config TheEdit Node : Type 0} (m : Meaning Config TheEdit Node) (laws : Laws m) (setting : Setting TheEdit) (d : ℕ) (r : RecordedState Config Node) (event : DeviceEvent) (h : Happened Config Node)
    (happens : Happens m setting.tables r.device event h) (devices : List (RecordedState Config Node)) (here : slice_get devices d ≡ Some r) (owners now : ℕ → Owners)
    (device : IsDevice m (owners d) r) (same_there : (session : ℕ) → session ≤ r.device.sessions.last → now d session ≡ owners d session)
    (same_others : (j : ℕ) → (j ≡ d → ⊥) → (session : ℕ) → now j session ≡ owners j session) where
  abbrev pub after : RecordedState Config Node
  after = recorded_with r event h

  abbrev pub new_devices : List (RecordedState Config Node)
  new_devices = slice_set devices d after

  more : r.device.sessions.last ≤ h.after.sessions.last
  more = numbers_rise m setting.tables r.device event h happens

  -- ---- links

  module _ (change : ℕ) (entries : List Entry) where
    abbrev IsBefore : ℕ → ℕ → LinkState → Type 0
    IsBefore j = IsLinked change entries (owners j) (slice_get devices j)

    linked_there : (place : ℕ) (link : LinkState) → IsBefore d place link → IsLinked change entries (now d) (Some after) place link
    linked_there place link linked = record {
      begun = linked.begun;
      owned = later_owned change (owners d) r.device.sessions.last place (now d) h.after.sessions.last more same_there link
          (some_is r (λ one. IsOwned change (owners d) one.device.sessions.last place link) (slice_get devices d) here linked.owned);
    }

    linked_other : (j : ℕ) → (j ≡ d → ⊥) → (place : ℕ) (link : LinkState) → IsBefore j place link → IsLinked change entries (now j) (slice_get devices j) place link
    linked_other j ne place link linked = record {
      begun = linked.begun;
      owned = to_some (λ one. IsOwned change (now j) one.device.sessions.last place link) (slice_get devices j)
          (λ one there.
          later_owned change (owners j) one.device.sessions.last place (now j) one.device.sessions.last (itself one.device.sessions.last) (λ session within. same_others j ne session) link
          (some_is one (λ one. IsOwned change (owners j) one.device.sessions.last place link) (slice_get devices j) there linked.owned));
    }
      where
        itself : (n : ℕ) → n ≤ n
        itself n = omega arith

    pub linked_after : (j place : ℕ) (link : LinkState) → IsBefore j place link → IsLinked change entries (now j) (slice_get new_devices j) place link
    linked_after j place link = others_stay (λ k found. (place : ℕ) (link : LinkState) → IsBefore k place link → IsLinked change entries (now k) found place link) devices d r after here linked_there linked_other j place link

    -- ---- one change set that something else happens to

    module _ (members : ℕ) (slot : SlotState) (k : IsKept change members entries owners devices slot) (others : IsOthers change (owners d) r event) where
      module _ (side : SideState) (there : slice_get slot.sides d ≡ Some side) where
        first_owned : IsOwned change (owners d) r.device.sessions.last 0 (first_link side.wire)
        first_owned =
            first_is_owned (IsOwned change (owners d) r.device.sessions.last 0) side.wire.links
            (record { session = λ s e. absurd (none-some s e); opened = λ s e. absurd (none-some s e); asked = tt })
            (to_some (IsOwned change (owners d) r.device.sessions.last 0) (slice_get side.wire.links 0)
            (λ link first.
            some_is r (λ one. IsOwned change (owners d) one.device.sessions.last 0 link) (slice_get devices d) here
            (some_is link (IsBefore d 0) (slice_get side.wire.links 0) first (links_at IsBefore slot k.linked d side there 0)).owned))

        moved : (v : Option Verdict) (seat : Seat) → PairHolds change v seat side.wire r → PairHolds change v seat side.wire after
        moved v seat pair =
            moved_pair change side.wire (noted event h) r after
            (record {
              history = refl;
              opened = first_owned.opened;
              session = λ session e. session_kept m setting.tables r.device device.numbered session event h happens (others.asker session 0 (first_owned.session session e));
              token = token_kept m setting.tables (token_of change) r.device event h happens others.token;
            })
            v seat pair

      holds_there : (v : Option Verdict) (seat : Option Seat) (side : Option SideState) → slice_get slot.sides d ≡ side → HoldsAt change v seat side (Some r) → HoldsAt change v seat side (Some after)
      holds_there v None side there holds = tt
      holds_there v (Some seat) None there holds = tt
      holds_there v (Some seat) (Some side) there holds = moved side there v seat holds

      holds_here : (v : Option Verdict) → AllHold change v slot devices → HoldsAt change v (slice_get slot.course.seats d) (slice_get slot.sides d) (Some r)
      holds_here v all = subst (λ o. HoldsAt change v (slice_get slot.course.seats d) (slice_get slot.sides d) o) here (all d)

      pub others_kept : IsKept change members entries now new_devices slot
      others_kept = record {
        numbered = k.numbered;
        in_step = k.in_step;
        known = k.known;
        holds = others_stay (λ j o. HoldsAt change (verdict_in change entries) (slice_get slot.course.seats j) (slice_get slot.sides j) o) devices d r after here
            (holds_there (verdict_in change entries) (slice_get slot.course.seats d) (slice_get slot.sides d) refl (holds_here (verdict_in change entries) k.holds)) (λ j ne. k.holds j);
        linked = all_links_map IsBefore (λ j. IsLinked change entries (now j) (slice_get new_devices j)) linked_after slot.sides k.linked;
        tells = others_stay (λ j o. IfSome o (TellsToken (token_of change))) devices d r after here
            (token_told m setting.tables (token_of change) r event h happens others.token (some_is r (TellsToken (token_of change)) (slice_get devices d) here (k.tells d))) (λ j ne. k.tells j);
      }

  -- ---- devices and operators

  module _ (edits : All m.edit_belongs setting.tables.edits) (opens : OpensFor (owners d) (now d) r event h.after) where
    other_device : (j : ℕ) → (j ≡ d → ⊥) → IfSome (slice_get devices j) (IsDevice m (owners j)) → IfSome (slice_get devices j) (IsDevice m (now j))
    other_device j ne all =
        to_some (IsDevice m (now j)) (slice_get devices j)
        (λ one there.
        let k : IsDevice m (owners j) one = some_is one (IsDevice m (owners j)) (slice_get devices j) there all in
        record {
          numbered = k.numbered;
          belong = k.belong;
          tells = k.tells;
          users = λ session is. k.users session is ∙ sym (ap is_some (same_others j ne session));
          fresh = λ session above. same_others j ne session ∙ k.fresh session above;
        })

    pub devices_after : ((j : ℕ) → IfSome (slice_get devices j) (IsDevice m (owners j))) → (j : ℕ) → IfSome (slice_get new_devices j) (IsDevice m (now j))
    devices_after all =
        others_stay (λ j o. IfSome o (IsDevice m (now j))) devices d r after here (device_kept m laws setting.tables edits (owners d) (now d) r event h happens device opens) (λ j ne. other_device j ne (all j))

  abbrev IsFor : List (Option ℕ) → (ℕ → Owners) → ℕ → RecordedState Config Node → Type 0
  IsFor operator whose j one = (session : ℕ) → given_on operator j ≡ Some session → (whose j session ≡ None) × (session ≤ one.device.sessions.last)

  operator_there : (operator : List (Option ℕ)) → IsFor operator owners d r → IsFor operator now d after
  operator_there operator k session given =
      let one = k session given in
      let within : session ≤ r.device.sessions.last = one.1 in
      (same_there session within ∙ one.0, omega (arith, within, more))

  operator_other : (operator : List (Option ℕ)) (j : ℕ) → (j ≡ d → ⊥) → IfSome (slice_get devices j) (IsFor operator owners j) → IfSome (slice_get devices j) (IsFor operator now j)
  operator_other operator j ne k =
      to_some (IsFor operator now j) (slice_get devices j)
      (λ one there session given.
      let known = some_is one (IsFor operator owners j) (slice_get devices j) there k session given in
      (same_others j ne session ∙ known.0, known.1))

  pub operator_after : (operator : List (Option ℕ)) → IsOperator owners devices operator → IsOperator now new_devices operator
  operator_after operator k =
      others_stay (λ j o. IfSome o (IsFor operator now j)) devices d r after here (operator_there operator (some_is r (IsFor operator owners d) (slice_get devices d) here (k d))) (λ j ne. operator_other operator j ne (k j))

-- ---- the world

module _ {Config TheEdit Node : Type 0} (m : Meaning Config TheEdit Node) (laws : Laws m) (setting : Setting TheEdit) (edits : All m.edit_belongs setting.tables.edits) (w : CoreState Config Node) (s : IsSupported m setting w) (d : ℕ)
    (r : RecordedState Config Node) (event : DeviceEvent) (h : Happened Config Node) (happens : Happens m setting.tables r.device event h) (here : slice_get w.devices d ≡ Some r)
    (others : (change : ℕ) → IsOthers change (s.owners d) r event) (opens : OpensFor (s.owners d) (s.owners d) r event h.after) where
  pub device_here : IsDevice m (s.owners d) r
  device_here = some_is r (IsDevice m (s.owners d)) (slice_get w.devices d) here (s.devices d)

  kept_by : (change : ℕ) (plan : Option ChangePlan) (slot : Option SlotState) → KeptAt change w.entries s.owners w.devices plan slot
      → KeptAt change w.entries s.owners (slice_set w.devices d (recorded_with r event h)) plan slot
  kept_by change None None k = k
  kept_by change None (Some slot) k = k
  kept_by change (Some plan) None k = k
  kept_by change (Some plan) (Some slot) k =
      others_kept m laws setting d r event h happens w.devices here s.owners s.owners device_here (λ session within. refl) (λ j ne session. refl) change w.entries (devices_in plan.edits) slot k (others change)

  pub operator_later : (operator : List (Option ℕ)) → IsOperator s.owners w.devices operator → IsOperator s.owners (slice_set w.devices d (recorded_with r event h)) operator
  operator_later operator k = operator_after m laws setting d r event h happens w.devices here s.owners s.owners device_here (λ session within. refl) (λ j ne session. refl) operator k

  -- something happens at a device that no link asks for, and operators have these sessions
  pub others_with : (operators : List (List (Option ℕ))) → ((number : ℕ) → IfSome (slice_get operators number) (IsOperator s.owners (slice_set w.devices d (recorded_with r event h))))
      → IsSupported m setting (record w { devices = slice_set w.devices d (recorded_with r event h); operators = operators })
  others_with operators all = record {
    owners = s.owners;
    entries = s.entries;
    devices = devices_after m laws setting d r event h happens w.devices here s.owners s.owners device_here (λ session within. refl) (λ j ne session. refl) edits opens s.devices;
    slots = λ place. kept_by (suc place) (slice_get setting.plans place) (slice_get w.slots place) (s.slots place);
    operators = all;
  }

  pub operators_later : (number : ℕ) → IfSome (slice_get w.operators number) (IsOperator s.owners (slice_set w.devices d (recorded_with r event h)))
  operators_later number =
      to_some (IsOperator s.owners (slice_set w.devices d (recorded_with r event h))) (slice_get w.operators number)
      (λ operator there. operator_later operator (some_is operator (IsOperator s.owners w.devices) (slice_get w.operators number) there (s.operators number)))

  pub others_supported : IsSupported m setting (record w { devices = slice_set w.devices d (recorded_with r event h) })
  others_supported = others_with w.operators operators_later
