-- A drain closes what nobody goes on with.
use Rattle.std.proofs.Common.{◌≡◌, ◌≤◌, ◌∙◌, ℕ, zero, suc, ◌-◌, Bool, true, false, cond, ◌&&◌, not, List, length, Option, Some, None, IfSome, is_some, slice_get, refl, sym, ap, subst, arith}
use Rattle.std.proofs.lemmas.Bool.{cond_both}
use Rattle.nm_proto.specs.Content.{Meaning}
use Rattle.nm_proto.specs.declared.plan.Event.{Event}
use Rattle.nm_proto.specs.declared.plan.Event.TheVariants.{Leave, Lose}
use Rattle.nm_sessions.specs.Sessions.{is_open}
use Rattle.nm_history.specs.History.{RecordedState, Parted, lost}
use Rattle.nm_wire.specs.Wire.{WireState, is_open_at, session_at, is_current}
use Rattle.nm_manager.specs.Manager.{ManagerState, wire_in, lost_on}
use Rattle.nm_world.specs.World.{Setting, CoreState, WorldState, Meeting, Moved, core_of, manager_in, met, moved, lost_by, loses, losing_at, open_on, given_on, has_on, is_session_open, is_side_open, operator_at, parted_by, left_with, leaving_at, world_step}
use Rattle.nm_world.specs.Drain.{event_if, is_left, lose_link, at_pair, at_devices, leave_by, leave_on, leave_of, leaves, loses_links, goes_on_with, first_ready, first_from, found_or, drain_by, drain_event, drained}
use Rattle.nm_world.proofs.Numbered.{found_in}
use Rattle.nm_rest_laws.specs.Closing.{one_if, sum_from, has_session, sessions_of, sessions_left, left_on, left_at, left_of, links_left, left_to_close, IsClosed, ClosesWithin}
use Rattle.nm_rest_laws.proofs.rest.Sums.{sum_falls}
use Rattle.nm_safety.proofs.Wires.{set_there}
use Rattle.nm_safety.proofs.Places.{set_length}
use Rattle.nm_rest_laws.proofs.rest.Closer.{Fewer, FewerAt, fewer_same, Duller, dull_same, set_relates, session_within, of_within, sessions_within, at_within, change_within, links_within, link_within}
use Rattle.nm_rest_laws.proofs.rest.Lost.{all_dull, here_closed}
use Rattle.nm_rest_laws.proofs.rest.Ended.{closed_there, lost_fewer, lost_is}

-- an event closes, and opens nothing
pub record IsQuieter {Config Node : Type 0} (w now : WorldState Config Node) : Type 0 where
  pub fewer : (j : ℕ) → FewerAt (slice_get w.devices j) (slice_get now.devices j)
  pub count : length now.devices ≡ length w.devices
  pub operators : now.operators ≡ w.operators
  pub dull : (change device : ℕ) → Duller (wire_in (manager_in (core_of w)) change device) (wire_in (manager_in (core_of now)) change device)

true_there : (b : Bool) (event x : Event) → event_if b event ≡ Some x → (b ≡ true) × (event ≡ x)
true_there true event x e = (refl, cc)
true_there false event x e = absurd (let f : None ≡ Some x = e in cc)

-- ---- an operator leaves

module _ {Config TheEdit Node : Type 0} (m : Meaning Config TheEdit Node) (r : RecordedState Config Node) where
  with_fewer : (given : Option ℕ) → IfSome (left_with m r (open_on r given)) (λ (now : Moved Config Node). Fewer r now.device)
  with_fewer None = tt
  with_fewer (Some session) = cond_both (is_open r.device.sessions session) (Some session) None (λ o. IfSome (left_with m r o) (λ (now : Moved Config Node). Fewer r now.device)) (λ _. parted_fewer (lost m r session) (lost_fewer m r session)) (λ _. tt)
    where
      parted_fewer : (parted : Option (Parted Config Node)) → IfSome parted (λ (one : Parted Config Node). Fewer r one.after) → IfSome (parted_by parted) (λ (now : Moved Config Node). Fewer r now.device)
      parted_fewer None fewer = tt
      parted_fewer (Some parted) fewer = fewer

  -- its session ends
  pub record Ends (given : Option ℕ) (done : Option (Moved Config Node)) : Type 0 where
    pub now : Moved Config Node
    pub is : done ≡ Some now
    pub closed : is_some (open_on now.device given) ≡ false

  ends_by : (given : Option ℕ) → is_some (open_on r given) ≡ true → Ends given (left_with m r (open_on r given))
  ends_by None e = absurd (let f : false ≡ true = e in cc)
  ends_by (Some session) e = go (is_open r.device.sessions session) refl e
    where
      go : (b : Bool) → is_open r.device.sessions session ≡ b → is_some (cond b (Some session) None) ≡ true → Ends (Some session) (left_with m r (cond b (Some session) None))
      go false is e = absurd (let f : false ≡ true = e in cc)
      go true is e = record {
        now = _;
        is = ap parted_by (lost_is m r session is);
        closed = ap (λ (b : Bool). is_some (cond b (Some session) None)) (closed_there m r session);
      }

module _ {Config TheEdit Node : Type 0} (m : Meaning Config TheEdit Node) (setting : Setting TheEdit) (w : WorldState Config Node) where
  -- the world where a device was moved alone
  moved_quiet : (event : Event) (device : ℕ) (r : RecordedState Config Node) → slice_get w.devices (device - 1) ≡ Some r → (done : Option (Moved Config Node))
      → IfSome done (λ (now : Moved Config Node). Fewer r now.device)
      → ((j : ℕ) → FewerAt (slice_get w.devices j) (slice_get (moved (core_of w) device done).after.devices j)) × (length (moved (core_of w) device done).after.devices ≡ length w.devices)
  moved_quiet event device r here None fewer = (λ j. fewer_same (slice_get w.devices j), refl)
  moved_quiet event device r here (Some now) fewer =
      (set_relates FewerAt fewer_same w.devices (device - 1) r now.device here fewer, set_length w.devices (device - 1) now.device)

  moved_operators : (device : ℕ) (done : Option (Moved Config Node)) → (moved (core_of w) device done).after.operators ≡ w.operators
  moved_operators device None = refl
  moved_operators device (Some now) = refl

  moved_manager : (device : ℕ) (done : Option (Moved Config Node)) → manager_in (moved (core_of w) device done).after ≡ manager_in (core_of w)
  moved_manager device None = refl
  moved_manager device (Some now) = refl

  leave_fewer : (number device : ℕ) (operator : Option (List (Option ℕ))) (found : Option (RecordedState Config Node)) → slice_get w.devices (device - 1) ≡ found
      → ((j : ℕ) → FewerAt (slice_get w.devices j) (slice_get (moved (core_of w) device (leaving_at m device operator found)).after.devices j))
      × (length (moved (core_of w) device (leaving_at m device operator found)).after.devices ≡ length w.devices)
  leave_fewer number device None found here = (λ j. fewer_same (slice_get w.devices j), refl)
  leave_fewer number device (Some operator) None here = (λ j. fewer_same (slice_get w.devices j), refl)
  leave_fewer number device (Some operator) (Some r) here =
      moved_quiet (Leave number device) device r here (left_with m r (has_on operator r (device - 1))) (with_fewer m r (given_on operator (device - 1)))

  leave_quiet : (number device : ℕ) → IsQuieter w (world_step m setting w (Leave number device))
  leave_quiet number device =
      let done = leaving_at m device (operator_at w.operators number) (slice_get w.devices (device - 1)) in
      let moves = leave_fewer number device (operator_at w.operators number) (slice_get w.devices (device - 1)) refl in
      record {
        fewer = moves.0;
        count = moves.1;
        operators = moved_operators device done;
        dull = λ change d. subst (λ s. Duller (wire_in (manager_in (core_of w)) change d) (wire_in s change d)) (sym (moved_manager device done)) (dull_same (wire_in (manager_in (core_of w)) change d));
      }

  -- the operator has no session there then
  leave_done : (number device : ℕ) (operator : List (Option ℕ)) (r : RecordedState Config Node) → slice_get w.devices (device - 1) ≡ Some r → (did : Option (Moved Config Node))
      → Ends m r (given_on operator (device - 1)) did
      → one_if (leave_by (moved (core_of w) device did).after.devices w.operators number device (Some operator) (slice_get (moved (core_of w) device did).after.devices (device - 1))) ≡ 0
  leave_done number device operator r here did ends =
      subst (λ o. one_if (leave_by (moved (core_of w) device o).after.devices w.operators number device (Some operator) (slice_get (moved (core_of w) device o).after.devices (device - 1))) ≡ 0) (sym ends.is)
      (ap (λ (o : Option (RecordedState Config Node)). one_if (leave_by w.devices w.operators number device (Some operator) o)) (set_there w.devices (device - 1) r ends.now.device here)
      ∙ ap (λ b. one_if (event_if b (Leave number device))) ends.closed)

  leave_less_by : (number device : ℕ) (operator : Option (List (Option ℕ))) (found : Option (RecordedState Config Node)) → operator_at w.operators number ≡ operator → slice_get w.devices (device - 1) ≡ found → (x : Event)
      → leave_by w.devices w.operators number device operator found ≡ Some x
      → (Leave number device ≡ x)
      × (one_if (leave_by (moved (core_of w) device (leaving_at m device operator found)).after.devices w.operators number device operator (slice_get (moved (core_of w) device (leaving_at m device operator found)).after.devices (device - 1))) ≡ 0)
  leave_less_by number device None found named here x e = absurd (let f : None ≡ Some x = e in cc)
  leave_less_by number device (Some operator) None named here x e = absurd (let f : None ≡ Some x = e in cc)
  leave_less_by number device (Some operator) (Some r) named here x e =
      let is = true_there (is_some (has_on operator r (device - 1))) (Leave number device) x e in
      (is.1, leave_done number device operator r here (left_with m r (has_on operator r (device - 1))) (ends_by m r (given_on operator (device - 1)) is.0))

  abbrev At : Event → WorldState Config Node
  At event = world_step m setting w event

  leave_less : (x : Event) (number device : ℕ) → leave_on w.devices w.operators number device ≡ Some x
      → suc (has_session (At x).devices w.operators number device) ≤ has_session w.devices w.operators number device
  unfolding leave_on
  leave_less x number device e =
      let is = leave_less_by number device (operator_at w.operators number) (slice_get w.devices (device - 1)) refl refl x e in
      let none : has_session (At (Leave number device)).devices w.operators number device ≡ 0 = is.1 in
      let now : has_session (At x).devices w.operators number device ≡ 0 = subst (λ y. has_session (At y).devices w.operators number device ≡ 0) is.0 none in
      let one : has_session w.devices w.operators number device ≡ 1 = ap one_if e in
      omega (arith, now, one)

  -- ---- a link is lost

  abbrev state : ManagerState
  state = manager_in (core_of w)

  module _ (change device link : ℕ) where
    -- what a loss leaves
    abbrev IsLoss : RecordedState Config Node → Meeting Config Node → Type 0
    IsLoss r now = Fewer r now.device × (now.manager ≡ lost_on state change device link)

    loss_of : (r : RecordedState Config Node) (session : Option ℕ) → IfSome (loses m r state change device link session) (IsLoss r)
    loss_of r None = (λ session is. is, refl)
    loss_of r (Some session) = by_lost (lost m r session) (lost_fewer m r session)
      where
        by_lost : (parted : Option (Parted Config Node)) → IfSome parted (λ (one : Parted Config Node). Fewer r one.after) → IfSome (lost_by state change device link parted) (IsLoss r)
        by_lost None fewer = tt
        by_lost (Some parted) fewer = (fewer, refl)

    loss_at : (found : Option (RecordedState Config Node)) → IfSome found (λ r. IfSome (losing_at m state change device link found) (IsLoss r))
    loss_at None = tt
    loss_at (Some r) =
        let links = wire_in state change device in
        cond_both (is_side_open r links link) (loses m r state change device link (session_at links link)) None (λ (o : Option (Meeting Config Node)). IfSome o (IsLoss r))
        (λ _. loss_of r (session_at links link)) (λ _. tt)

    abbrev Now : Option (Meeting Config Node) → CoreState Config Node
    Now done = (met (core_of w) device done).after

    pub record IsMetQuiet (now : CoreState Config Node) : Type 0 where
      pub fewer : (j : ℕ) → FewerAt (slice_get w.devices j) (slice_get now.devices j)
      pub count : length now.devices ≡ length w.devices
      pub operators : now.operators ≡ w.operators
      pub dull : (c d : ℕ) → Duller (wire_in state c d) (wire_in (manager_in now) c d)

    met_quiet : (r : RecordedState Config Node) → slice_get w.devices (device - 1) ≡ Some r → (done : Option (Meeting Config Node)) → IfSome done (IsLoss r) → IsMetQuiet (Now done)
    met_quiet r here None loss = record { fewer = λ j. fewer_same (slice_get w.devices j); count = refl; operators = refl; dull = λ c d. dull_same (wire_in state c d) }
    met_quiet r here (Some now) loss = record {
      fewer = set_relates FewerAt fewer_same w.devices (device - 1) r now.device here loss.0;
      count = set_length w.devices (device - 1) now.device;
      operators = refl;
      dull = λ c d. subst (λ s. Duller (wire_in state c d) (wire_in s c d)) (sym loss.1) (all_dull state change device link c d);
    }

    losing_quiet : (found : Option (RecordedState Config Node)) → slice_get w.devices (device - 1) ≡ found → IsMetQuiet (Now (losing_at m state change device link found))
    losing_quiet None here = record { fewer = λ j. fewer_same (slice_get w.devices j); count = refl; operators = refl; dull = λ c d. dull_same (wire_in state c d) }
    losing_quiet (Some r) here = met_quiet r here (losing_at m state change device link (Some r)) (loss_at (Some r))

    lose_quiet : IsQuieter w (At (Lose change device link))
    lose_quiet =
        let q = losing_quiet (slice_get w.devices (device - 1)) refl in
        record { fewer = q.fewer; count = q.count; operators = q.operators; dull = q.dull }

    -- the link that is found is lost
    happens : (r : RecordedState Config Node) → is_side_open r (wire_in state change device) link ≡ true → is_some (losing_at m state change device link (Some r)) ≡ true
    happens r open_there =
        let links = wire_in state change device in
        ap (λ (b : Bool). is_some (cond b (loses m r state change device link (session_at links link)) None)) open_there
        ∙ by_session (session_at links link) (both_there (is_open_at links link) (is_session_open r (session_at links link)) open_there)
      where
        both_there : (a b : Bool) → (a && b) ≡ true → b ≡ true
        both_there true b h = h
        both_there false b h = absurd (let e : false ≡ true = h in cc)

        by_session : (session : Option ℕ) → is_session_open r session ≡ true → is_some (loses m r state change device link session) ≡ true
        by_session None open_one = refl
        by_session (Some session) open_one = ap (λ (o : Option (Parted Config Node)). is_some (lost_by state change device link o)) (lost_is m r session open_one)

    lost_there : (r : RecordedState Config Node) → slice_get w.devices (device - 1) ≡ Some r → (done : Option (Meeting Config Node)) → is_some done ≡ true → IfSome done (IsLoss r)
        → is_open_at (wire_in (manager_in (Now done)) change device) link ≡ false
    lost_there r here None is loss = absurd (let f : false ≡ true = is in cc)
    lost_there r here (Some now) is loss = ap (λ s. is_open_at (wire_in s change device) link) loss.1 ∙ here_closed state change device link

    lost_then : (r : RecordedState Config Node) → slice_get w.devices (device - 1) ≡ Some r → is_left r (wire_in state change device) link ≡ true
        → is_open_at (wire_in (manager_in (core_of (At (Lose change device link)))) change device) link ≡ false
    lost_then r here left =
        subst (λ o. is_open_at (wire_in (manager_in (Now (losing_at m state change device link o))) change device) link ≡ false) (sym here)
        (lost_there r here (losing_at m state change device link (Some r)) (happens r (first_of (is_side_open r (wire_in state change device) link) (not (is_current (wire_in state change device) link)) left)) (loss_at (Some r)))
      where
        first_of : (a b : Bool) → (a && b) ≡ true → a ≡ true
        first_of true b h = refl
        first_of false b h = absurd (let e : false ≡ true = h in cc)

  -- ---- what is left falls

  shut : (b : Bool) → b ≡ false → (rest others : Bool) → ((b && rest) && others) ≡ false
  shut true e rest others = absurd (let f : true ≡ false = e in cc)
  shut false e rest others = refl

  gone : {Config Node : Type 0} (r : RecordedState Config Node) (links : WireState) (change device link : ℕ) → is_open_at links link ≡ false → one_if (lose_link r links change device link) ≡ 0
  unfolding lose_link
  gone r links change device link closed =
      ap (λ b. one_if (event_if b (Lose change device link))) (shut (is_open_at links link) closed (is_session_open r (session_at links link)) (not (is_current links link)))

  left_is : {Config Node : Type 0} (r : RecordedState Config Node) (links : WireState) (change device link : ℕ) (x : Event) → lose_link r links change device link ≡ Some x
      → (is_left r links link ≡ true) × (Lose change device link ≡ x)
  unfolding lose_link
  left_is r links change device link x e = true_there (is_left r links link) (Lose change device link) x e

  module _ (x : Event) (quiet : IsQuieter w (At x)) where
    abbrev after : ManagerState
    after = manager_in (core_of (At x))

    module _ (change device : ℕ) (r : RecordedState Config Node) (here : slice_get w.devices (device - 1) ≡ Some r) where
      abbrev old : WireState
      old = wire_in state change device

      abbrev new : WireState
      new = wire_in after change device

      link_less : (n : RecordedState Config Node) → (link : ℕ) → lose_link r old change device link ≡ Some x
          → suc (one_if (lose_link n new change device link)) ≤ one_if (lose_link r old change device link)
      link_less n link e =
          let is = left_is r old change device link x e in
          let closed : is_open_at new link ≡ false = subst (λ y. is_open_at (wire_in (manager_in (core_of (At y))) change device) link ≡ false) is.1 (lost_then change device link r here is.0) in
          let none : one_if (lose_link n new change device link) ≡ 0 = gone n new change device link closed in
          let one : one_if (lose_link r old change device link) ≡ 1 = ap one_if e in
          omega (arith, none, one)

      on_less : (n : RecordedState Config Node) → Fewer r n → first_from (lose_link r old change device) 1 (length old.links) ≡ Some x
          → suc (left_on change device new (Some n)) ≤ left_on change device old (Some r)
      on_less n fewer e = subst (λ k. suc (sum_from (λ link. one_if (lose_link n new change device link)) 1 k) ≤ left_on change device old (Some r)) (sym (quiet.dull change device).count)
          (sum_falls (λ link. one_if (lose_link r old change device link)) (λ link. one_if (lose_link n new change device link))
          (λ link. link_within r n fewer old new (quiet.dull change device) change device link) (lose_link r old change device) x (link_less n) 1 (length old.links) e)

      pub any_less : (n : Option (RecordedState Config Node)) → FewerAt (Some r) n → first_from (lose_link r old change device) 1 (length old.links) ≡ Some x
          → suc (left_on change device new n) ≤ left_on change device old (Some r)
      any_less None fewer e = absurd fewer
      any_less (Some n) fewer e = on_less n fewer e

    -- what finds the first of them, of a change set and of a device
    module _ (of : ℕ → Option Event) (at : ℕ → ℕ → Option Event) (first : (change : ℕ) → of change ≡ first_from (at change) 1 (length w.devices))
        (there : (change device : ℕ) (r : RecordedState Config Node) → slice_get w.devices (device - 1) ≡ Some r
        → at change device ≡ first_from (lose_link r (wire_in state change device) change device) 1 (length (wire_in state change device).links))
        (none : (change device : ℕ) → slice_get w.devices (device - 1) ≡ None → at change device ≡ None) where
      at_less : (change device : ℕ) (found : Option (RecordedState Config Node)) → slice_get w.devices (device - 1) ≡ found → at change device ≡ Some x
          → suc (left_at (At x).devices after change device) ≤ left_on change device (wire_in state change device) found
      at_less change device None here e = absurd (let f : None ≡ Some x = sym (none change device here) ∙ e in cc)
      at_less change device (Some r) here e =
          any_less change device r here (slice_get (At x).devices (device - 1)) (subst (λ o. FewerAt o (slice_get (At x).devices (device - 1))) here (quiet.fewer (device - 1)))
          (sym (there change device r here) ∙ e)

      of_less : (change : ℕ) → of change ≡ Some x → suc (left_of (At x).devices after change) ≤ left_of w.devices state change
      of_less change e = subst (λ n. suc (sum_from (left_at (At x).devices after change) 1 n) ≤ left_of w.devices state change) (sym quiet.count)
          (sum_falls (left_at w.devices state change) (left_at (At x).devices after change) (at_within w.devices (At x).devices state after quiet.fewer quiet.count quiet.dull change) (at change) x
          (λ device. at_less change device (slice_get w.devices (device - 1)) refl) 1 (length w.devices) (sym (first change) ∙ e))

      links_less : (changes : ℕ) → first_from of 1 changes ≡ Some x → suc (links_left (At x).devices after changes) ≤ links_left w.devices state changes
      links_less changes e =
          sum_falls (left_of w.devices state) (left_of (At x).devices after) (change_within w.devices (At x).devices state after quiet.fewer quiet.count quiet.dull) of x of_less 1 changes e

    loses_less : (changes : ℕ) → loses_links w.devices state changes ≡ Some x → suc (links_left (At x).devices after changes) ≤ links_left w.devices state changes
    unfolding at_devices at_pair
    loses_less changes e = links_less _ _ (λ change. refl) (λ change device r here. rw here refl) (λ change device here. rw here refl) changes e

    -- no operator has more sessions
    sessions_so : sessions_left (At x).devices (At x).operators ≤ sessions_left w.devices w.operators
    sessions_so = subst (λ operators. sessions_left (At x).devices operators ≤ sessions_left w.devices w.operators) (sym quiet.operators)
        (sessions_within w.devices (At x).devices w.operators quiet.fewer quiet.count)

    links_so : (changes : ℕ) → links_left (At x).devices after changes ≤ links_left w.devices state changes
    links_so changes = links_within w.devices (At x).devices state after quiet.fewer quiet.count quiet.dull changes

    -- an operator that leaves has fewer
    operator_less : (number : ℕ) → leave_of w.devices w.operators number ≡ Some x → suc (sessions_of (At x).devices w.operators number) ≤ sessions_of w.devices w.operators number
    unfolding leave_of
    operator_less number e = subst (λ n. suc (sum_from (has_session (At x).devices w.operators number) 1 n) ≤ sessions_of w.devices w.operators number) (sym quiet.count)
        (sum_falls (has_session w.devices w.operators number) (has_session (At x).devices w.operators number) (session_within w.devices (At x).devices w.operators quiet.fewer quiet.count number)
        (leave_on w.devices w.operators number) x (leave_less x number) 1 (length w.devices) e)

    leaves_less : leaves w.devices w.operators ≡ Some x → suc (sessions_left (At x).devices (At x).operators) ≤ sessions_left w.devices w.operators
    leaves_less e = subst (λ operators. suc (sessions_left (At x).devices operators) ≤ sessions_left w.devices w.operators) (sym quiet.operators)
        (sum_falls (sessions_of w.devices w.operators) (sessions_of (At x).devices w.operators) (of_within w.devices (At x).devices w.operators quiet.fewer quiet.count)
        (leave_of w.devices w.operators) x operator_less 1 (length w.operators) e)

    left_by_leave : leaves w.devices w.operators ≡ Some x → suc (left_to_close setting (At x)) ≤ left_to_close setting w
    left_by_leave e = omega (arith, leaves_less e, links_so (length setting.plans))

    left_by_lose : loses_links w.devices state (length setting.plans) ≡ Some x → suc (left_to_close setting (At x)) ≤ left_to_close setting w
    left_by_lose e = omega (arith, loses_less (length setting.plans) e, sessions_so)

-- ---- the steps

module _ {Config TheEdit Node : Type 0} (m : Meaning Config TheEdit Node) (setting : Setting TheEdit) where
  abbrev Next : WorldState Config Node → Event → WorldState Config Node
  Next w event = world_step m setting w event

  leave_quieter : (w : WorldState Config Node) (x : Event) (number : ℕ) → leave_of w.devices w.operators number ≡ Some x → IsQuieter w (Next w x)
  unfolding leave_of leave_on
  leave_quieter w x number e =
      let two = found_in (leave_on w.devices w.operators number) 1 (length w.devices) x e in
      let is = leave_less_by m setting w number two.number (operator_at w.operators number) (slice_get w.devices (two.number - 1)) refl refl x two.found in
      subst (λ y. IsQuieter w (Next w y)) is.0 (leave_quiet m setting w number two.number)

  pub leave_found : (w : WorldState Config Node) (x : Event) → leaves w.devices w.operators ≡ Some x → suc (left_to_close setting (Next w x)) ≤ left_to_close setting w
  leave_found w x e =
      let one = found_in (leave_of w.devices w.operators) 1 (length w.operators) x e in
      left_by_leave m setting w x (leave_quieter w x one.number one.found) e

  module _ (w : WorldState Config Node) (x : Event) where
    module _ (of : ℕ → Option Event) (at : ℕ → ℕ → Option Event) (first : (change : ℕ) → of change ≡ first_from (at change) 1 (length w.devices))
        (there : (change device : ℕ) (r : RecordedState Config Node) → slice_get w.devices (device - 1) ≡ Some r
        → at change device ≡ first_from (lose_link r (wire_in (manager_in (core_of w)) change device) change device) 1 (length (wire_in (manager_in (core_of w)) change device).links))
        (none : (change device : ℕ) → slice_get w.devices (device - 1) ≡ None → at change device ≡ None) where
      at_quieter : (change device : ℕ) (found : Option (RecordedState Config Node)) → slice_get w.devices (device - 1) ≡ found → at change device ≡ Some x → IsQuieter w (Next w x)
      at_quieter change device None here e = absurd (let f : None ≡ Some x = sym (none change device here) ∙ e in cc)
      at_quieter change device (Some r) here e =
          let links = wire_in (manager_in (core_of w)) change device in
          let three = found_in (lose_link r links change device) 1 (length links.links) x (sym (there change device r here) ∙ e) in
          let is = left_is m setting w r links change device three.number x three.found in
          subst (λ y. IsQuieter w (Next w y)) is.1 (lose_quiet m setting w change device three.number)

      lose_quieter : (changes : ℕ) → first_from of 1 changes ≡ Some x → IsQuieter w (Next w x)
      lose_quieter changes e =
          let one = found_in of 1 changes x e in
          let two = found_in (at one.number) 1 (length w.devices) x (sym (first one.number) ∙ one.found) in
          at_quieter one.number two.number (slice_get w.devices (two.number - 1)) refl two.found

    lost_quieter : (changes : ℕ) → loses_links w.devices (manager_in (core_of w)) changes ≡ Some x → IsQuieter w (Next w x)
    unfolding at_devices at_pair
    lost_quieter changes e = lose_quieter _ _ (λ change. refl) (λ change device r here. rw here refl) (λ change device here. rw here refl) changes e

    pub lose_found : loses_links w.devices (manager_in (core_of w)) (length setting.plans) ≡ Some x → suc (left_to_close setting (Next w x)) ≤ left_to_close setting w
    lose_found e = left_by_lose m setting w x (lost_quieter (length setting.plans) e) e

  -- ---- all of them

  one_more : (w : WorldState Config Node) (x : Event) (most : ℕ) → drain_event setting w ≡ Some x → ClosesWithin m setting (Next w x) most → ClosesWithin m setting w (suc most)
  one_more w x most e c = record {
    steps = suc c.steps;
    few = omega (arith, c.few);
    closed = subst (λ next. IsClosed setting (drained m setting c.steps next)) (sym (ap (drain_by m setting w) e)) c.closed;
  }

  abbrev rest : WorldState Config Node → Option Event
  rest w = goes_on_with w.devices (manager_in (core_of w)) (first_ready (length setting.plans) w.entries)

  over : (w : WorldState Config Node) (most : ℕ) → IsClosed setting w → ClosesWithin m setting w most
  over w most closed = record { steps = 0; few = omega arith; closed = closed }

  step_on : (w : WorldState Config Node) (n : ℕ) → ((next : WorldState Config Node) → left_to_close setting next ≤ n → ClosesWithin m setting next n) → left_to_close setting w ≤ suc n
      → (leaving losing : Option Event) → leaves w.devices w.operators ≡ leaving → loses_links w.devices (manager_in (core_of w)) (length setting.plans) ≡ losing → ClosesWithin m setting w (suc n)
  step_on w n later h (Some x) losing is lose =
      one_more w x n (ap (λ o. found_or o (found_or (loses_links w.devices (manager_in (core_of w)) (length setting.plans)) (rest w))) is) (later (Next w x) (omega (arith, h, leave_found w x is)))
  step_on w n later h None (Some x) is lose =
      one_more w x n (ap (λ o. found_or o (found_or (loses_links w.devices (manager_in (core_of w)) (length setting.plans)) (rest w))) is ∙ ap (λ o. found_or o (rest w)) lose)
      (later (Next w x) (omega (arith, h, lose_found w x lose)))
  step_on w n later h None None is lose = over w (suc n) (record { sessions = is; links = lose })

  at_zero : (w : WorldState Config Node) → left_to_close setting w ≤ 0 → (leaving losing : Option Event) → leaves w.devices w.operators ≡ leaving
      → loses_links w.devices (manager_in (core_of w)) (length setting.plans) ≡ losing → ClosesWithin m setting w 0
  at_zero w h (Some x) losing is lose = absurd (omega (arith, h, leave_found w x is))
  at_zero w h None (Some x) is lose = absurd (omega (arith, h, lose_found w x lose))
  at_zero w h None None is lose = over w 0 (record { sessions = is; links = lose })

  pub closes_in : (n : ℕ) (w : WorldState Config Node) → left_to_close setting w ≤ n → ClosesWithin m setting w n
  closes_in zero w h = at_zero w h (leaves w.devices w.operators) (loses_links w.devices (manager_in (core_of w)) (length setting.plans)) refl refl
  closes_in (suc n) w h = step_on w n (closes_in n) h (leaves w.devices w.operators) (loses_links w.devices (manager_in (core_of w)) (length setting.plans)) refl refl

  pub drain_closes : (w : WorldState Config Node) → ClosesWithin m setting w (left_to_close setting w)
  drain_closes w = closes_in (left_to_close setting w) w (omega arith)
