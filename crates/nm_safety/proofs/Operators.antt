-- What every world keeps where operators act.
use Rattle.std.proofs.Common.{ℕ, ◌≡◌, ◌∙◌, ◌-◌, ◌+◌, ◌≤◌, ◌<◌, true, false, List, Option, Some, None, is_some, slice_get, slice_set, refl, sym, ap, subst, arith}
use Rattle.std.specs.List.{All}
use Rattle.std.proofs.lemmas.Option.{same_Some}
use Rattle.nm_proto.specs.declared.message.Request.{Request}
use Rattle.nm_proto.specs.declared.message.Reply.{Reply}
use Rattle.nm_proto.specs.declared.message.Reply.TheVariants.{Done, Opened, LockId, Mark, Rows, Error}
use Rattle.nm_proto.specs.Content.{Meaning, Laws}
use Rattle.nm_sessions.specs.Sessions.{is_open}
use Rattle.nm_device.specs.Device.{is_manager}
use Rattle.nm_device.specs.Table.{device_step}
use Rattle.nm_history.specs.declared.event.DeviceEvent.{DeviceEvent}
use Rattle.nm_history.specs.declared.event.DeviceEvent.TheVariants.{Entered, Asked}
use Rattle.nm_history.specs.History.{Happened, RecordedState, recorded_with}
use Rattle.nm_device_laws.specs.Moment.{Happens}
use Rattle.nm_device_laws.specs.Own.{Opens}
use Rattle.nm_device_laws.proofs.Events.{is_asked}
use Rattle.nm_device_laws.proofs.Numbers.{numbers_rise}
use Rattle.nm_device_laws.proofs.Owns.{opens}
use Rattle.nm_wire.specs.Link.{session_in}
use Rattle.nm_safety.proofs.Wires.{set_there}
use Rattle.nm_safety.proofs.Places.{set_same}
use Rattle.nm_world.specs.World.{Setting, CoreState, given_in, given_on, with_device, with_opened, with_session}
use Rattle.nm_safety.specs.Support.{Owners, IsDevice, IsOperator, IsSupported}
use Rattle.nm_safety.proofs.Lists.{some_is, to_some, at_set, set_none}
use Rattle.nm_safety.proofs.Managed.{others_stay}
use Rattle.nm_safety.proofs.Alone.{OpensFor}
use Rattle.nm_safety.specs.Cases.{IsOperating}
use Rattle.nm_safety.proofs.Others.{operator_later, operators_later, others_with, others_supported}
use Rattle.nm_safety.proofs.Facts.{asked_others, entered_others}
use Rattle.nm_safety.proofs.Replies.{step_plain}

-- ---- the sessions that operators are given

module _ {Config Node : Type 0} (owners : ℕ → Owners) (devices : List (RecordedState Config Node)) (place id : ℕ) (after : RecordedState Config Node) (here : slice_get devices place ≡ Some after) (none : owners place id ≡ None)
    (within : id ≤ after.device.sessions.last) where
  abbrev IsGivenTo : ℕ → Option (Option ℕ) → Type 0
  IsGivenTo j o = (one : RecordedState Config Node) → slice_get devices j ≡ Some one → (session : ℕ) → given_in o ≡ Some session → (owners j session ≡ None) × (session ≤ one.device.sessions.last)

  given_now : IsGivenTo place (Some (Some id))
  given_now one found session e =
      let same : id ≡ session = same_Some id session e in
      let device : after ≡ one = same_Some after one (sym here ∙ found) in
      (ap (owners place) (sym same) ∙ none, subst (λ r. session ≤ r.device.sessions.last) device (subst (λ t. t ≤ after.device.sessions.last) same within))

  given_old : (operator : List (Option ℕ)) → IsOperator owners devices operator → (j : ℕ) → IsGivenTo j (slice_get operator j)
  given_old operator k j one found session e = some_is one _ (slice_get devices j) found (k j) session e

  given_by : (operator : List (Option ℕ)) → IsOperator owners devices operator → (old : Option (Option ℕ)) → slice_get operator place ≡ old → (j : ℕ) → IsGivenTo j (slice_get (slice_set operator place (Some id)) j)
  given_by operator k None e j = subst (λ list. IsGivenTo j (slice_get list j)) (sym (set_none operator place (Some id) e)) (given_old operator k j)
  given_by operator k (Some old) e j = others_stay IsGivenTo operator place old (Some id) e given_now (λ i ne. given_old operator k i) j

  pub operator_given : (operator : List (Option ℕ)) → IsOperator owners devices operator → IsOperator owners devices (slice_set operator place (Some id))
  operator_given operator k j =
      to_some (λ one. (session : ℕ) → given_on (slice_set operator place (Some id)) j ≡ Some session → (owners j session ≡ None) × (session ≤ one.device.sessions.last)) (slice_get devices j)
      (λ one found. given_by operator k (slice_get operator place) refl j one found)

module _ {Config TheEdit Node : Type 0} (m : Meaning Config TheEdit Node) (laws : Laws m) (setting : Setting TheEdit) (edits : All m.edit_belongs setting.tables.edits) (w : CoreState Config Node) (s : IsSupported m setting w)
    (number device : ℕ) (a : IsOperating w number device) where
  abbrev operator : List (Option ℕ)
  operator = a.operator

  abbrev r : RecordedState Config Node
  r = a.r

  abbrev d : ℕ
  d = device - 1

  device_here : IsDevice m (s.owners d) r
  device_here = some_is r (IsDevice m (s.owners d)) (slice_get w.devices d) a.here (s.devices d)

  fresh_after : (event : DeviceEvent) (h : Happened Config Node) → Happens m setting.tables r.device event h → (session : ℕ) → h.after.sessions.last < session → s.owners d session ≡ None
  fresh_after event h happens session above = later (numbers_rise m setting.tables r.device event h happens)
    where
      later : r.device.sessions.last ≤ h.after.sessions.last → s.owners d session ≡ None
      later more = device_here.fresh session (omega (arith, more, above))

  abbrev After : RecordedState Config Node → List (Option ℕ) → Type 0
  After after now = IsSupported m setting (record (with_device w device after) { operators = slice_set w.operators (number - 1) now })

  -- ---- a request of a session

  module _ (u : ℕ) (given : given_on operator d ≡ Some u) (is_there : is_open r.device.sessions u ≡ true) (request : Request) (h : Happened Config Node) (happens : Happens m setting.tables r.device (Asked u request) h) where
    asked_supported : IsSupported m setting (with_device w device (recorded_with r (Asked u request) h))
    asked_supported =
        others_supported m laws setting edits w s d r (Asked u request) h happens a.here (asked_others m setting w s a u given is_there request)
        (record { same = λ t within. refl; fresh = fresh_after (Asked u request) h happens; new = λ user e. absurd (let g : Asked u request ≡ Entered user = e in cc) })

    -- it gets no other session
    no_session : (reply : Reply) → h.reply ≡ Some reply → session_in reply ≡ None
    no_session reply e =
        let does = (is_asked m setting.tables r.device u request h happens).does in
        let is : (device_step m setting.tables r.device u request).reply ≡ reply = same_Some _ reply (ap (λ one. one.reply) does ∙ e) in
        ap session_in (sym is) ∙ step_plain m setting.tables r.device u request

    pub asked_moves : (reply : Reply) → h.reply ≡ Some reply → After (recorded_with r (Asked u request) h) (with_opened operator d reply)
    asked_moves reply e =
        subst (λ o. After (recorded_with r (Asked u request) h) (with_session operator d o)) (sym (no_session reply e))
        (subst (λ operators. IsSupported m setting (record (with_device w device (recorded_with r (Asked u request) h)) { operators = operators })) (sym (set_same w.operators (number - 1) operator a.there)) asked_supported)

  -- ---- a session is asked for

  module _ (user : List ℕ) (stranger : is_manager (Some user) ≡ false) (h : Happened Config Node) (happens : Happens m setting.tables r.device (Entered user) h) where
    abbrev after : RecordedState Config Node
    after = recorded_with r (Entered user) h

    new_then : (other : List ℕ) → Entered user ≡ Entered other → (t : ℕ) → is_open h.after.sessions t ≡ true → t ≡ r.device.sessions.last + 1 → is_manager (Some other) ≡ is_some (s.owners d t)
    new_then other e t is next =
        let same : user ≡ other = cc in
        ap (λ one. is_manager (Some one)) (sym same) ∙ stranger ∙ sym (ap is_some (device_here.fresh t (above t next)))
      where
        above : (t : ℕ) → t ≡ r.device.sessions.last + 1 → r.device.sessions.last < t
        above t next = omega (arith, next)

    opens_entered : OpensFor (s.owners d) (s.owners d) r (Entered user) h.after
    opens_entered = record { same = λ t within. refl; fresh = fresh_after (Entered user) h happens; new = new_then }

    same_operator : After after operator
    same_operator =
        subst (λ operators. IsSupported m setting (record (with_device w device after) { operators = operators })) (sym (set_same w.operators (number - 1) operator a.there))
        (others_supported m laws setting edits w s d r (Entered user) h happens a.here (entered_others (s.owners d) r user) opens_entered)

    opened_operator : (id : ℕ) → h.reply ≡ Some (Opened id) → After after (slice_set operator d (Some id))
    opened_operator id e =
        others_with m laws setting edits w s d r (Entered user) h happens a.here (entered_others (s.owners d) r user) opens_entered (slice_set w.operators (number - 1) (slice_set operator d (Some id)))
        (at_set (λ j. IsOperator s.owners (slice_set w.devices d after)) w.operators (number - 1) operator (slice_set operator d (Some id)) a.there
        (operator_given s.owners (slice_set w.devices d after) d id after (set_there w.devices d r after a.here) (device_here.fresh id (above id o.next)) (within id o.next last_is) operator
        (operator_later m laws setting edits w s d r (Entered user) h happens a.here (entered_others (s.owners d) r user) opens_entered operator
        (some_is operator (IsOperator s.owners w.devices) (slice_get w.operators (number - 1)) a.there (s.operators (number - 1)))))
        (operators_later m laws setting edits w s d r (Entered user) h happens a.here (entered_others (s.owners d) r user) opens_entered))
      where
        o : Opens user id r.device h.after
        o = opens m setting.tables r.device device_here.numbered user id h happens e

        last_is : h.after.sessions.last ≡ r.device.sessions.last + 1
        last_is = ap (λ one. one.sessions.last) o.after

        above : (t : ℕ) → t ≡ r.device.sessions.last + 1 → r.device.sessions.last < t
        above t next = omega (arith, next)

        within : (t : ℕ) → t ≡ r.device.sessions.last + 1 → h.after.sessions.last ≡ r.device.sessions.last + 1 → t ≤ h.after.sessions.last
        within t next last = omega (arith, next, last)

    pub entered_moves : (reply : Reply) → h.reply ≡ Some reply → After after (with_opened operator d reply)
    entered_moves (Opened id) e = opened_operator id e
    entered_moves Done e = same_operator
    entered_moves (LockId id) e = same_operator
    entered_moves (Mark mark) e = same_operator
    entered_moves (Rows count) e = same_operator
    entered_moves (Error tag session path) e = same_operator
