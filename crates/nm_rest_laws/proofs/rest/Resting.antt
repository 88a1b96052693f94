-- A drain comes to rest, or to a turn of the manager.
use Rattle.std.proofs.Common.{◌≡◌, ◌∙◌, ◌⊎◌, inl, inr, ℕ, suc, ◌-◌, ◌^◌, ◌<◌, ◌==◌, Bool, true, false, cond, not, ◌&&◌, List, length, Option, Some, None, IfSome, is_some, option_and_then, slice_get, refl, sym, ap, subst, arith}
use Rattle.std.proofs.lemmas.Bool.Decides.{nat_tests}
use Rattle.std.proofs.lemmas.Option.{none-some, same_Some}
use Rattle.nm_proto.specs.declared.message.Request.{Request}
use Rattle.nm_proto.specs.declared.plan.Event.{Event}
use Rattle.nm_proto.specs.declared.plan.Event.TheVariants.{Leave, Lose, Break, Deliver, Answer, Turn}
use Rattle.nm_proto.specs.Content.{Meaning}
use Rattle.nm_sessions.specs.Sessions.{is_open}
use Rattle.nm_device.specs.Table.{opening_user, is_opening}
use Rattle.nm_history.specs.History.{RecordedState, Served, served, served_event, event_by}
use Rattle.nm_wire.specs.Link.{LinkState, session_of, outstanding, asked_on}
use Rattle.nm_wire.specs.declared.link.Way.TheVariants.{Asked}
use Rattle.nm_wire.specs.Wire.{WireState, link_at, current_link, session_at, outstanding_at, is_current, is_open_link}
use Rattle.nm_manager.specs.Slot.{SlotState}
use Rattle.nm_manager.specs.Manager.{ManagerState, wire_in, wire_of, told_on}
use Rattle.nm_world.specs.World.{Setting, CoreState, manager_in, met, told_by, does, delivering_at, elementary, is_session_open, undelivered, is_side_open, open_on, has_on, operator_at, given_on, replies_on, with_manager, with_device}
use Rattle.nm_world.specs.Drain.{first_from, found_or, event_if, is_awaited, is_left, lose_link, is_stranded_on, break_on, deliver_by, deliver_on, answer_by, answer_on, at_pair, at_devices, leave_by, leave_on, leave_of, leaves, loses_links, goes_on}
use Rattle.nm_world.proofs.Numbered.{found_in}
use Rattle.nm_safety.proofs.Lists.{some_is}
use Rattle.nm_safety.proofs.PairSteps.{asked_if}
use Rattle.nm_rest_laws.specs.Steady.{IsServedBy, HasServed}
use Rattle.nm_rest_laws.proofs.rest.Calm.{IsCalm, IsOpenAt, AllCurrent}
use Rattle.nm_rest_laws.proofs.rest.Holding.{wire_at, given_of}
use Rattle.nm_rest_laws.proofs.rest.Lasting.{IsLasting}
use Rattle.nm_rest_laws.proofs.rest.PairSteps.{IsPairStep}
use Rattle.nm_rest_laws.proofs.rest.Finding.{true_there, IsAt, is_at, links_is, at_link, break_step, answer_step, deliver_served}

module _ {Config TheEdit Node : Type 0} (m : Meaning Config TheEdit Node) (setting : Setting TheEdit) (n : ℕ) (w : CoreState Config Node) (k : IsLasting m setting n w) (calm : IsCalm w) (small : n < 2 ^ 32 - 1) (change : ℕ) where
  abbrev state : ManagerState
  state = manager_in w

  -- the event is a step at a device of the change set
  abbrev pub StepAt : Event → Type 0
  StepAt x = (d : ℕ) × IsPairStep w (elementary m setting w x).after (change - 1) d

  module _ (device : ℕ) (r : RecordedState Config Node) (has : slice_get w.devices (device - 1) ≡ Some r) where
    abbrev links : WireState
    links = wire_in state change device

    same_number : (number : ℕ) → links.current ≡ Some number → (a : IsAt w change device r) → a.number ≡ number
    same_number number cur a = same_Some a.number number (sym a.cur ∙ ap (λ wire. wire.current) (sym (links_is m setting n w k change device r has a)) ∙ cur)

    break_by : (current : Option ℕ) → links.current ≡ current → (x : Event) → event_if (is_stranded_on r links current) (Break change device) ≡ Some x → StepAt x
    break_by None cur x e = absurd (none-some x e)
    break_by (Some number) cur x e =
        let is = true_there (is_stranded_on r links (Some number)) (Break change device) x e in
        let a = is_at m setting n w k change device r has number cur in (
          device - 1,
          subst (λ y. IsPairStep w (elementary m setting w y).after (change - 1) (device - 1)) is.1
              (break_step m setting n w k change device r has a (ap (λ l. is_stranded_on r links (Some l)) (same_number number cur a) ∙ is.0)),
        )

    answer_by_at : (current : Option ℕ) → links.current ≡ current → (x : Event) → answer_by links change device current ≡ Some x → StepAt x
    answer_by_at None cur x e = absurd (none-some x e)
    answer_by_at (Some number) cur x e =
        let is = true_there (is_awaited links number) (Answer change device number (replies_on links number)) x e in
        let a = is_at m setting n w k change device r has number cur in
        let same = same_number number cur a in (
          device - 1,
          subst (λ y. IsPairStep w (elementary m setting w y).after (change - 1) (device - 1)) (ap (λ l. Answer change device l (replies_on links l)) same ∙ is.1)
              (answer_step m setting n w k change device r has a (ap (is_awaited links) same ∙ is.0)),
        )

    served_some : (session : Option ℕ) (request : Request) → is_session_open r session ≡ true → (is_opening request ≡ false → is_some session ≡ true) → is_some (served m setting.tables r session request) ≡ true
    served_some session request opened has_session = by_user (opening_user request) refl
      where
        by_session : (one : Option ℕ) → is_session_open r one ≡ true → is_some one ≡ true → is_opening request ≡ false → is_some (served_event m setting.tables r (event_by one request None)) ≡ true
        by_session None o h f = absurd (let g : false ≡ true = h in cc)
        by_session (Some u) o h f = rw o (rw f refl)

        by_user : (user : Option (List ℕ)) → opening_user request ≡ user → is_some (served_event m setting.tables r (event_by session request user)) ≡ true
        by_user (Some user) e = refl
        by_user None e = by_session session opened (has_session (ap is_some e)) (ap is_some e)

    has_session : (a : IsAt w change device r) (request : Request) → a.link.way ≡ Asked request → is_opening request ≡ false → is_some (session_of a.link) ≡ true
    has_session a request asked =
        subst (IsServedBy a.link) asked (served_of (current_link a.side.wire) (ap (option_and_then (link_at a.side.wire)) a.cur ∙ a.link_is) (a.steady.current (ap is_some a.cur)))
      where
        served_of : (o : Option LinkState) → o ≡ Some a.link → HasServed o → IsServedBy a.link a.link.way
        served_of None e h = absurd h
        served_of (Some other) e h = let same : other ≡ a.link = cc in subst (λ one. IsServedBy one one.way) same h

    after_is : (number : ℕ) (a : IsAt w change device r) (request : Request) → undelivered r links number ≡ Some request → session_at links number ≡ session_of a.link → (sv : Served Config Node) → served m setting.tables r (session_of a.link) request ≡ Some sv
        → (elementary m setting w (Deliver change device number)).after ≡ with_manager (with_device w device sv.after) (told_on state change device number sv.reply)
    after_is number a request e session_is sv is =
        ap (λ o. (met w device (delivering_at m setting.tables state change device number o)).after) has
        ∙ ap (λ o. (met w device (does m setting.tables r state change device number (session_at links number) o)).after) e
        ∙ ap (λ session. (met w device (told_by state change device number (served m setting.tables r session request))).after) session_is
        ∙ ap (λ o. (met w device (told_by state change device number o)).after) is

    served_step : (number : ℕ) → links.current ≡ Some number → (a : IsAt w change device r) → a.number ≡ number → (request : Request) → undelivered r links number ≡ Some request → link_at links number ≡ Some a.link → session_at links number ≡ session_of a.link
        → a.link.way ≡ Asked request → a.link.is_open ≡ true → is_session_open r (session_of a.link) ≡ true → (sv : Option (Served Config Node)) → served m setting.tables r (session_of a.link) request ≡ sv → StepAt (Deliver change device number)
    served_step number cur a same request e link_now session_is asked side session_open None is =
        absurd (let f : true ≡ false = sym (served_some (session_of a.link) request session_open (has_session a request asked)) ∙ ap is_some is in cc)
    served_step number cur a same request e link_now session_is asked side session_open (Some sv) is = (
      device - 1,
      subst (λ now. IsPairStep w now (change - 1) (device - 1)) (sym (after_is number a request e session_is sv is))
          (subst (λ l. IsPairStep w (with_manager (with_device w device sv.after) (told_on state change device l sv.reply)) (change - 1) (device - 1)) same
          (deliver_served m setting n w k change device r has a calm small request asked side session_open sv is)),
    )

    deliver_now : (number : ℕ) → links.current ≡ Some number → (a : IsAt w change device r) → a.number ≡ number → (request : Request) → undelivered r links number ≡ Some request → StepAt (Deliver change device number)
    deliver_now number cur a same request e =
        let link_now : link_at links number ≡ Some a.link = ap (link_at links) (sym same) ∙ at_link m setting n w k change device r has a in
        let session_is : session_at links number ≡ session_of a.link = ap (option_and_then session_of) link_now in
        let opened = open_of (is_session_open r (session_at links number)) (outstanding_at links number) e in
        let out : cond a.link.is_open (asked_on a.link.way) None ≡ Some request = sym (ap (option_and_then outstanding) link_now) ∙ opened.1 in
        let asked : a.link.way ≡ Asked request = asked_if a.link.is_open a.link.way request out in
        let side : a.link.is_open ≡ true = (open_of a.link.is_open (asked_on a.link.way) out).0 in
        let session_open : is_session_open r (session_of a.link) ≡ true = ap (is_session_open r) (sym session_is) ∙ opened.0 in
        served_step number cur a same request e link_now session_is asked side session_open (served m setting.tables r (session_of a.link) request) refl
      where
        open_of : (b : Bool) (o : Option Request) → cond b o None ≡ Some request → (b ≡ true) × (o ≡ Some request)
        open_of true o e = (refl, e)
        open_of false o e = absurd (none-some request e)

    deliver_by_at : (current : Option ℕ) → links.current ≡ current → (x : Event) → deliver_by r links change device current ≡ Some x → StepAt x
    deliver_by_at None cur x e = absurd (none-some x e)
    deliver_by_at (Some number) cur x e =
        let is = true_there (is_some (undelivered r links number)) (Deliver change device number) x e in
        let a = is_at m setting n w k change device r has number cur in
        subst StepAt is.1 (by_request (undelivered r links number) refl is.0 a (same_number number cur a))
      where
        by_request : (o : Option Request) → undelivered r links number ≡ o → is_some o ≡ true → (a : IsAt w change device r) → a.number ≡ number → StepAt (Deliver change device number)
        by_request None e h a same = absurd (let f : false ≡ true = h in cc)
        by_request (Some request) e h a same = deliver_now number cur a same request e

  -- ---- among the devices

  module _ (at : ℕ → Option Event) (by : ℕ → RecordedState Config Node → Option Event) (there : (device : ℕ) (r : RecordedState Config Node) → slice_get w.devices (device - 1) ≡ Some r → at device ≡ by device r)
      (none : (device : ℕ) → slice_get w.devices (device - 1) ≡ None → at device ≡ None) (step : (device : ℕ) (r : RecordedState Config Node) → slice_get w.devices (device - 1) ≡ Some r → (x : Event) → by device r ≡ Some x → StepAt x) where
    at_found : (device : ℕ) (found : Option (RecordedState Config Node)) → slice_get w.devices (device - 1) ≡ found → (x : Event) → at device ≡ Some x → StepAt x
    at_found device None has x e = absurd (none-some x (sym (none device has) ∙ e))
    at_found device (Some r) has x e = step device r has x (sym (there device r has) ∙ e)

    first_found : (x : Event) → first_from at 1 (length w.devices) ≡ Some x → StepAt x
    first_found x e = let f = found_in at 1 (length w.devices) x e in at_found f.number (slice_get w.devices (f.number - 1)) refl x f.found

  abbrev on_some : (ℕ → RecordedState Config Node → Option Event) → ℕ → Option (RecordedState Config Node) → Option Event
  on_some by device None = None
  on_some by device (Some r) = by device r

  abbrev finds : (ℕ → RecordedState Config Node → Option Event) → Option Event
  finds by = first_from (λ device. on_some by device (slice_get w.devices (device - 1))) 1 (length w.devices)

  find_step : (by : ℕ → RecordedState Config Node → Option Event) (x : Event) → finds by ≡ Some x → ((device : ℕ) (r : RecordedState Config Node) → slice_get w.devices (device - 1) ≡ Some r → (x : Event) → by device r ≡ Some x → StepAt x) → StepAt x
  find_step by x e step = first_found (λ device. on_some by device (slice_get w.devices (device - 1))) by (λ device r has. ap (on_some by device) has) (λ device has. ap (on_some by device) has) step x e

  three : (first second third : Option Event) (x : Event) → found_or first (found_or second (found_or third (Some (Turn change)))) ≡ Some x → (first ≡ Some x → StepAt x) → (second ≡ Some x → StepAt x) → (third ≡ Some x → StepAt x) → StepAt x ⊎ (Turn change ≡ x)
  three (Some y) second third x e a b c = inl (a e)
  three None (Some y) third x e a b c = inl (b e)
  three None None (Some y) x e a b c = inl (c e)
  three None None None x e a b c = inr (same_Some (Turn change) x e)

  -- what a change set goes on with is a step at a device, or a turn
  pub goes_so : (x : Event) → goes_on w.devices state change ≡ Some x → StepAt x ⊎ (Turn change ≡ x)
  unfolding at_devices at_pair
  goes_so x e =
      three (finds (λ device r. break_on r (wire_in state change device) change device)) (finds (λ device r. deliver_on r (wire_in state change device) change device)) (finds (λ device r. answer_on (wire_in state change device) change device)) x e
      (λ one. find_step (λ device r. break_on r (wire_in state change device) change device) x one (λ device r has y f. break_by device r has (wire_in state change device).current refl y f))
      (λ one. find_step (λ device r. deliver_on r (wire_in state change device) change device) x one (λ device r has y f. deliver_by_at device r has (wire_in state change device).current refl y f))
      (λ one. find_step (λ device r. answer_on (wire_in state change device) change device) x one (λ device r has y f. answer_by_at device r has (wire_in state change device).current refl y f))

  no_three : (first second third : Option Event) → found_or first (found_or second (found_or third (Some (Turn change)))) ≡ None → ⊥
  no_three (Some y) second third e = none-some y (sym e)
  no_three None (Some y) third e = none-some y (sym e)
  no_three None None (Some y) e = none-some y (sym e)
  no_three None None None e = none-some (Turn change) (sym e)

  -- and it has a next step
  pub goes_some : goes_on w.devices state change ≡ None → ⊥
  unfolding at_devices at_pair
  goes_some e =
      no_three (finds (λ device r. break_on r (wire_in state change device) change device)) (finds (λ device r. deliver_on r (wire_in state change device) change device)) (finds (λ device r. answer_on (wire_in state change device) change device)) e

-- ---- nothing is left to close

module _ {Config TheEdit Node : Type 0} (m : Meaning Config TheEdit Node) (setting : Setting TheEdit) (n : ℕ) (w : CoreState Config Node) (calm : IsCalm w) where
  open_one : (r : RecordedState Config Node) (given : Option ℕ) → is_some (open_on r given) ≡ true → (P : Type 0) → ((t : ℕ) → given ≡ Some t → is_open r.device.sessions t ≡ true → P) → P
  open_one r None e P step = absurd (let f : false ≡ true = e in cc)
  open_one r (Some t) e P step = step t refl (by_open (is_open r.device.sessions t) e)
    where
      by_open : (b : Bool) → is_some (cond b (Some t) None) ≡ true → b ≡ true
      by_open true e = refl
      by_open false e = absurd (let f : false ≡ true = e in cc)

  no_leave_by : (number device : ℕ) (operator : Option (List (Option ℕ))) (found : Option (RecordedState Config Node)) → operator_at w.operators number ≡ operator → slice_get w.devices (device - 1) ≡ found → (x : Event) → leave_by w.devices w.operators number device operator found ≡ Some x → ⊥
  no_leave_by number device None found named has x e = none-some x e
  no_leave_by number device (Some operator) None named has x e = none-some x e
  no_leave_by number device (Some operator) (Some r) named has x e =
      open_one r (given_on operator (device - 1)) (true_there (is_some (has_on operator r (device - 1))) (Leave number device) x e).0 ⊥
      (λ t given opened. absurd (let f : true ≡ false = sym opened ∙ some_is r (λ one. is_open one.device.sessions t ≡ false) (slice_get w.devices (device - 1)) has
      (calm.nobody (number - 1) (device - 1) t (ap (λ o. given_of o (device - 1)) (there (number == 0) named) ∙ given)) in cc))
    where
      there : (b : Bool) → cond b None (slice_get w.operators (number - 1)) ≡ Some operator → slice_get w.operators (number - 1) ≡ Some operator
      there true e = absurd (none-some operator e)
      there false e = e

  no_leave_on : (number device : ℕ) (x : Event) → leave_on w.devices w.operators number device ≡ Some x → ⊥
  unfolding leave_on
  no_leave_on number device x e = no_leave_by number device (operator_at w.operators number) (slice_get w.devices (device - 1)) refl refl x e

  no_leave_of : (number : ℕ) (x : Event) → leave_of w.devices w.operators number ≡ Some x → ⊥
  unfolding leave_of
  no_leave_of number x e = let f = found_in (leave_on w.devices w.operators number) 1 (length w.devices) x e in no_leave_on number f.number x f.found

  pub no_leave : (x : Event) → leaves w.devices w.operators ≡ Some x → ⊥
  no_leave x e = let f = found_in (leave_of w.devices w.operators) 1 (length w.operators) x e in no_leave_of f.number x f.found

  abbrev state2 : ManagerState
  state2 = manager_in w

  no_lose_link : (change device : ℕ) (r : RecordedState Config Node) → slice_get w.devices (device - 1) ≡ Some r → (l : ℕ) (x : Event) → lose_link r (wire_in state2 change device) change device l ≡ Some x → ⊥
  unfolding lose_link
  no_lose_link change device r has l x e = by_link (l == 0) refl (slice_get wire.links (l - 1)) refl (both_of (is_side_open r wire l) (not (is_current wire l)) (true_there (is_left r wire l) (Lose change device l) x e).0)
    where
      wire : WireState
      wire = wire_in state2 change device

      both_of : (a b : Bool) → (a && b) ≡ true → (a ≡ true) × (b ≡ true)
      both_of true b h = (refl, h)
      both_of false b h = absurd (let f : false ≡ true = h in cc)

      all : AllCurrent r wire
      all = some_is r (λ one. AllCurrent one wire) (slice_get w.devices (device - 1)) has (subst (λ v. IfSome (slice_get w.devices (device - 1)) (λ one. AllCurrent one v)) (by_slot (slice_get w.slots (change - 1))) (calm.current (change - 1) (device - 1)))
        where
          by_slot : (slot : Option SlotState) → wire_at slot (device - 1) ≡ wire_of device slot
          by_slot None = refl
          by_slot (Some slot) = refl

      clash : wire.current ≡ Some (suc (l - 1)) → (l == 0) ≡ false → not (is_current wire l) ≡ true → ⊥
      clash c z h = no (ap (λ o. is_current (record { links = wire.links; current = o }) l) c) (number l z) h
        where
          number : (l : ℕ) → (l == 0) ≡ false → (l == suc (l - 1)) ≡ true
          number l z = grind (arith, nat_tests)

          no : is_current wire l ≡ (l == suc (l - 1)) → (l == suc (l - 1)) ≡ true → not (is_current wire l) ≡ true → ⊥
          no a b h = absurd (let f : false ≡ true = sym (ap not (a ∙ b)) ∙ h in cc)

      by_link : (b : Bool) → (l == 0) ≡ b → (found : Option LinkState) → slice_get wire.links (l - 1) ≡ found → (is_side_open r wire l ≡ true) × (not (is_current wire l) ≡ true) → ⊥
      by_link true z found at h = absurd (let f : false ≡ true = sym (ap (λ b. is_open_link (cond b None (slice_get wire.links (l - 1))) && is_session_open r (option_and_then session_of (cond b None (slice_get wire.links (l - 1))))) z) ∙ h.0 in cc)
      by_link false z None at h = absurd (let f : false ≡ true = sym (ap (λ b. is_open_link (cond b None (slice_get wire.links (l - 1))) && is_session_open r (option_and_then session_of (cond b None (slice_get wire.links (l - 1))))) z
          ∙ ap (λ o. is_open_link o && is_session_open r (option_and_then session_of o)) at) ∙ h.0 in cc)
      by_link false z (Some link) at h =
          let opened : IsOpenAt r link = sym (ap (λ b. is_open_link (cond b None (slice_get wire.links (l - 1))) && is_session_open r (option_and_then session_of (cond b None (slice_get wire.links (l - 1))))) z
          ∙ ap (λ o. is_open_link o && is_session_open r (option_and_then session_of o)) at) ∙ h.0 in
          clash (all (l - 1) link at opened) z h.1

  no_lose_by : (of : ℕ → Option Event) (at : ℕ → ℕ → Option Event) (changes : ℕ) (x : Event) → first_from of 1 changes ≡ Some x → ((change : ℕ) → of change ≡ first_from (at change) 1 (length w.devices))
      → ((change device : ℕ) (r : RecordedState Config Node) → slice_get w.devices (device - 1) ≡ Some r → at change device ≡ first_from (lose_link r (wire_in state2 change device) change device) 1 (length (wire_in state2 change device).links))
      → ((change device : ℕ) → slice_get w.devices (device - 1) ≡ None → at change device ≡ None) → ⊥
  no_lose_by of at changes x e first there none =
      let one = found_in of 1 changes x e in
      let two = found_in (at one.number) 1 (length w.devices) x (sym (first one.number) ∙ one.found) in
      by_device one.number two.number (slice_get w.devices (two.number - 1)) refl two.found
    where
      by_device : (change device : ℕ) (found : Option (RecordedState Config Node)) → slice_get w.devices (device - 1) ≡ found → at change device ≡ Some x → ⊥
      by_device change device None has e = none-some x (sym (none change device has) ∙ e)
      by_device change device (Some r) has e =
          let three = found_in (lose_link r (wire_in state2 change device) change device) 1 (length (wire_in state2 change device).links) x (sym (there change device r has) ∙ e) in
          no_lose_link change device r has three.number x three.found

  pub no_lose : (changes : ℕ) (x : Event) → loses_links w.devices state2 changes ≡ Some x → ⊥
  unfolding at_devices at_pair
  no_lose changes x e = no_lose_by _ _ changes x e (λ change. refl) (λ change device r has. rw has refl) (λ change device has. rw has refl)
