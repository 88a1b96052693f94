-- What a drain finds to do for a change set, in a world in which nothing is left to close.
use Rattle.std.proofs.Common.{◌≡◌, ◌∙◌, ℕ, suc, ◌+◌, ◌-◌, ◌^◌, ◌≤◌, ◌<◌, ◌==◌, nat_lt, Bool, true, false, cond, not, ◌&&◌, length, Option, Some, None, IfSome, is_some, option_and_then, slice_get, refl, sym, ap, subst, arith}
use Rattle.std.proofs.lemmas.Bool.Decides.{nat_tests}
use Rattle.std.proofs.lemmas.Option.{none-some}
use Rattle.nm_proto.specs.declared.ask.Ask.TheVariants as ask
use Rattle.nm_proto.specs.declared.message.Request.{Request}
use Rattle.nm_proto.specs.declared.plan.ChangePlan.{ChangePlan}
use Rattle.nm_proto.specs.declared.plan.Event.{Event}
use Rattle.nm_proto.specs.Content.{Meaning}
use Rattle.nm_proto.specs.Plan.{devices_in}
use Rattle.nm_sessions.specs.Sessions.{is_open}
use Rattle.nm_device.specs.Table.{is_opening}
use Rattle.nm_history.specs.History.{RecordedState, Served, served}
use Rattle.nm_decider.specs.declared.seat.Seat.{Seat}
use Rattle.nm_wire.specs.declared.link.Exchange.{Exchange}
use Rattle.nm_wire.specs.declared.link.Way.{Way}
use Rattle.nm_wire.specs.declared.link.Way.TheVariants.{Quiet, Asked, Told}
use Rattle.nm_wire.specs.Asks.{ask_of, same_ask}
use Rattle.nm_wire.specs.Link.{LinkState, session_of, asked_on, due_on, told_on_way, told_count}
use Rattle.nm_wire.specs.Wire.{WireState, link_at, current_link, session_at, is_open_link, counts_of, due, is_current}
use Rattle.nm_manager.specs.Slot.{SideState, SlotState, wire_of_side, side_at}
use Rattle.nm_manager.specs.Manager.{ManagerState, slot_at, wire_of, wire_in, told_on}
use Rattle.nm_world.specs.World.{Setting, CoreState, manager_in, with_manager, with_device, breaking, answering, is_session_open, is_side_open, replies_on}
use Rattle.nm_world.specs.Drain.{event_if, is_awaited}
use Rattle.nm_safety.specs.Support.{IsKept, IsLinked, IsOwned, IsOurs, IsDevice}
use Rattle.nm_safety.proofs.Lists.{some_is, to_some, down}
use Rattle.nm_safety.proofs.Managed.{kept_here}
use Rattle.nm_safety.specs.Step.{GoesWith}
use Rattle.nm_safety.proofs.Gone.{not_zero}
use Rattle.nm_rest_laws.specs.Steady.{IsTrue, IsTrueBy, HasServed, IsSteady, IsAble, IsRightSeat, is_right}
use Rattle.nm_rest_laws.proofs.rest.Measure.{will_end}
use Rattle.nm_rest_laws.proofs.rest.Serving.{is_replied}
use Rattle.nm_rest_laws.proofs.rest.Calm.{IsCalm, seat_by, no_sessions}
use Rattle.nm_rest_laws.proofs.rest.Lasting.{IsLasting}
use Rattle.nm_rest_laws.proofs.rest.PairSteps.{IsPairStep}
use Rattle.nm_rest_laws.proofs.rest.Stepping.{broken_step, answered_step}
use Rattle.nm_rest_laws.proofs.rest.Delivering.{told_well}
use Rattle.nm_rest_laws.proofs.rest.Sendings.{delivered_step}

pub true_there : (b : Bool) (event x : Event) → event_if b event ≡ Some x → (b ≡ true) × (event ≡ x)
true_there true event x e = (refl, cc)
true_there false event x e = absurd (none-some x e)

both : (a b : Bool) → (a && b) ≡ true → (a ≡ true) × (b ≡ true)
both true b h = (refl, h)
both false b h = absurd (let e : false ≡ true = h in cc)

-- a change set's current link to a device, with all that is known of it
pub record IsAt {Config Node : Type 0} (w : CoreState Config Node) (change device : ℕ) (r : RecordedState Config Node) : Type 0 where
  pub slot : SlotState
  pub there : slice_get w.slots (change - 1) ≡ Some slot
  pub seat : Seat
  pub here : slice_get slot.course.seats (device - 1) ≡ Some seat
  pub side : SideState
  pub at : slice_get slot.sides (device - 1) ≡ Some side
  pub number : ℕ
  pub cur : side.wire.current ≡ Some number
  pub link : LinkState
  pub link_is : link_at side.wire number ≡ Some link
  pub goes : GoesWith slot.course.verdict seat side
  pub steady : IsSteady side.wire
  pub right : is_right slot.course.verdict slot.course.trouble seat.stage seat.awaited ≡ true
  pub within : (l : ℕ) (one : LinkState) → slice_get side.wire.links l ≡ Some one → (s : ℕ) → session_of one ≡ Some s → s ≤ r.device.sessions.last
  pub ours : IfSome (asked_on link.way) (λ request. same_ask (ask_of request) ask.Resync ≡ false)

module _ {Config TheEdit Node : Type 0} (m : Meaning Config TheEdit Node) (setting : Setting TheEdit) (n : ℕ) (w : CoreState Config Node) (k : IsLasting m setting n w) (change device : ℕ) (r : RecordedState Config Node) (has : slice_get w.devices (device - 1) ≡ Some r) where
  abbrev state : ManagerState
  state = manager_in w

  abbrev links : WireState
  links = wire_in state change device

  module _ (slot : SlotState) (there : slice_get w.slots (change - 1) ≡ Some slot) (side : SideState) (at : slice_get slot.sides (device - 1) ≡ Some side) (number : ℕ) (cur : side.wire.current ≡ Some number) where
    able : IsAble (suc (change - 1)) w.entries slot
    able = some_is slot (IsAble (suc (change - 1)) w.entries) (slice_get w.slots (change - 1)) there (k.going.slots (change - 1))

    steady : IsSteady side.wire
    steady = some_is side (λ one. IsSteady one.wire) (slice_get slot.sides (device - 1)) at (able.wires (device - 1))

    linked_at : (plan : ChangePlan) → slice_get setting.plans (change - 1) ≡ Some plan → (l : ℕ) (one : LinkState) → slice_get side.wire.links l ≡ Some one → IsOwned (suc (change - 1)) (k.supported.owners (device - 1)) r.device.sessions.last l one
    linked_at plan planned l one found =
        let kept : IsKept (suc (change - 1)) (devices_in plan.edits) w.entries k.supported.owners w.devices slot = kept_here m setting w k.supported (suc (change - 1)) (omega arith) plan slot (down setting.plans (change - 1) ∙ planned) (down w.slots (change - 1) ∙ there) in
        some_is r (λ x. IsOwned (suc (change - 1)) (k.supported.owners (device - 1)) x.device.sessions.last l one) (slice_get w.devices (device - 1)) has
        (some_is one (IsLinked (suc (change - 1)) w.entries (k.supported.owners (device - 1)) (slice_get w.devices (device - 1)) l) (slice_get side.wire.links l) found
        (some_is side (λ x. (place : ℕ) → IfSome (slice_get x.wire.links place) (IsLinked (suc (change - 1)) w.entries (k.supported.owners (device - 1)) (slice_get w.devices (device - 1)) place)) (slice_get slot.sides (device - 1)) at (kept.linked (device - 1)) l)).owned

    at_by : (link : Option LinkState) → current_link side.wire ≡ link → HasServed link → IsAt w change device r
    at_by None e h = absurd h
    at_by (Some link) e h =
        let link_is : link_at side.wire number ≡ Some link = sym (ap (option_and_then (link_at side.wire)) cur) ∙ e in
        let there_link = (not_zero (number == 0) (slice_get side.wire.links (number - 1)) link link_is).1 in
        seat_by m setting n w k (change - 1) (device - 1) slot there side at (IsAt w change device r)
        (λ plan seat planned here seated goes. record {
          slot = slot;
          there = there;
          seat = seat;
          here = here;
          side = side;
          at = at;
          number = number;
          cur = cur;
          link = link;
          link_is = link_is;
          goes = goes;
          steady = steady;
          right = some_is seat (IsRightSeat slot.course.verdict slot.course.trouble) (slice_get slot.course.seats (device - 1)) here (able.course (device - 1)) (goes.member (ap is_some cur));
          within = λ l one found s is. (linked_at plan planned l one found).opened s is;
          ours = to_some (λ request. same_ask (ask_of request) ask.Resync ≡ false) (asked_on link.way) (λ request is. (some_is request (IsOurs (suc (change - 1))) (asked_on link.way) is (linked_at plan planned (number - 1) link there_link).asked).known);
        })

    at_now : IsAt w change device r
    at_now = at_by (current_link side.wire) refl (steady.current (ap is_some cur))

  at_side : (slot : SlotState) → slice_get w.slots (change - 1) ≡ Some slot → (side : Option SideState) → slice_get slot.sides (device - 1) ≡ side → (number : ℕ) → (wire_of_side side).current ≡ Some number → IsAt w change device r
  at_side slot there None at number cur = absurd (none-some number cur)
  at_side slot there (Some side) at number cur = at_now slot there side at number cur

  at_slot : (slot : Option SlotState) → slice_get w.slots (change - 1) ≡ slot → (number : ℕ) → (wire_of device slot).current ≡ Some number → IsAt w change device r
  at_slot None there number cur = absurd (none-some number cur)
  at_slot (Some slot) there number cur = at_side slot there (side_at slot device) refl number cur

  pub is_at : (number : ℕ) → links.current ≡ Some number → IsAt w change device r
  is_at number cur = at_slot (slot_at state change) refl number cur

  module _ (a : IsAt w change device r) where
    pub links_is : links ≡ a.side.wire
    links_is = ap (wire_of device) a.there ∙ ap wire_of_side a.at

    pub at_link : link_at links a.number ≡ Some a.link
    at_link = ap (λ wire. link_at wire a.number) links_is ∙ a.link_is

    link_there : slice_get a.side.wire.links (a.number - 1) ≡ Some a.link
    link_there = (not_zero (a.number == 0) (slice_get a.side.wire.links (a.number - 1)) a.link a.link_is).1

    true_now : IsTrue a.link
    true_now = some_is a.link IsTrue (slice_get a.side.wire.links (a.number - 1)) link_there (a.steady.each (a.number - 1))

    pub side_open : is_side_open r links a.number ≡ (a.link.is_open && is_session_open r (session_of a.link))
    side_open = ap (λ o. is_open_link o && is_session_open r (option_and_then session_of o)) at_link

    not_awaited : (way : Way) → nat_lt (length a.link.past) (length a.link.past + told_count way) ≡ false → will_end way ≡ false
    not_awaited Quiet e = refl
    not_awaited (Asked request) e = refl
    not_awaited (Told exchange) e = absurd (less (length a.link.past) e)
      where
        less : (x : ℕ) → nat_lt x (x + 1) ≡ false → ⊥
        less x e = grind (arith, nat_tests)

    pub awaited_is : is_awaited links a.number ≡ nat_lt (length a.link.past) (length a.link.past + told_count a.link.way)
    awaited_is = ap (λ o. nat_lt (counts_of o).1 (counts_of o).0) at_link

    not_true : (b : Bool) → not b ≡ true → b ≡ false
    not_true false e = refl
    not_true true e = absurd (let f : false ≡ true = e in cc)

    -- a stranded link breaks
    pub break_step : (not (is_side_open r links a.number) && not (is_awaited links a.number)) ≡ true → IsPairStep w (breaking w change device).after (change - 1) (device - 1)
    break_step h =
        let parts = both (not (is_side_open r links a.number)) (not (is_awaited links a.number)) h in
        let shut : (a.link.is_open && is_session_open r (session_of a.link)) ≡ false = sym side_open ∙ not_true (is_side_open r links a.number) parts.0 in
        let over : will_end a.link.way ≡ false = not_awaited a.link.way (sym awaited_is ∙ not_true (is_awaited links a.number) parts.1) in
        broken_step m setting w change device a.slot a.there a.seat a.here a.side a.at r has a.number a.cur a.link a.link_is
        (ap (λ b. not b && not (will_end a.link.way)) shut ∙ ap not over)

    -- a reply is answered
    told_now : (way : Way) → nat_lt (length a.link.past) (length a.link.past + told_count way) ≡ true → (P : Type 0) → ((exchange : Exchange) → way ≡ Told exchange → P) → P
    told_now Quiet e P step = absurd (no (length a.link.past) e)
      where
        no : (x : ℕ) → nat_lt x (x + 0) ≡ true → ⊥
        no x e = grind (arith, nat_tests)
    told_now (Asked request) e P step = absurd (no (length a.link.past) e)
      where
        no : (x : ℕ) → nat_lt x (x + 0) ≡ true → ⊥
        no x e = grind (arith, nat_tests)
    told_now (Told exchange) e P step = step exchange refl

    pub answer_step : is_awaited links a.number ≡ true → IsPairStep w (answering w change device a.number (replies_on links a.number)).after (change - 1) (device - 1)
    answer_step h =
        told_now a.link.way (sym awaited_is ∙ h) _
        (λ exchange told.
        answered_step m setting w change device a.slot a.there a.seat a.here a.side a.at r has a.number a.cur a.link a.link_is a.goes a.steady (replies_on links a.number) exchange told
        (due_is_it exchange told))
      where
        number_same : (x : ℕ) → (x == x) ≡ true
        number_same x = grind (arith, nat_tests)

        count : (exchange : Exchange) → a.link.way ≡ Told exchange → replies_on links a.number ≡ length a.link.past + 1
        count exchange told = ap (λ o. (counts_of o).0) at_link ∙ ap (λ way. length a.link.past + told_count way) told

        due_is_it : (exchange : Exchange) → a.link.way ≡ Told exchange → due a.side.wire a.number (replies_on links a.number) ≡ Some exchange
        due_is_it exchange told =
            ap (λ b. cond b (option_and_then (due_on (replies_on links a.number)) (link_at a.side.wire a.number)) None) (ap (λ c. is_current (record { links = a.side.wire.links; current = c }) a.number) a.cur ∙ number_same a.number)
            ∙ ap (option_and_then (due_on (replies_on links a.number))) a.link_is
            ∙ ap (λ x. cond (x == length a.link.past + 1) (told_on_way a.link.way) None) (count exchange told) ∙ ap (λ b. cond b (told_on_way a.link.way) None) (number_same (length a.link.past + 1)) ∙ ap told_on_way told

    -- a request is delivered
    module _ (calm : IsCalm w) (small : n < 2 ^ 32 - 1) (request : Request) (asked : a.link.way ≡ Asked request) (open_now : a.link.is_open ≡ true) (session_now : is_session_open r (session_of a.link) ≡ true) where
      known : same_ask (ask_of request) ask.Resync ≡ false
      known = some_is request (λ one. same_ask (ask_of one) ask.Resync ≡ false) (asked_on a.link.way) (ap asked_on asked) a.ours

      fresh : is_opening request ≡ true → (session_of a.link ≡ None) × (((t : ℕ) → is_open r.device.sessions t ≡ true → ⊥) × (r.device.sessions.last < 2 ^ 32 - 1))
      fresh o =
          let none : session_of a.link ≡ None = subst (IsTrueBy a.link) asked true_now o in
          let low = some_is r (λ one. one.device.sessions.last ≤ n) (slice_get w.devices (device - 1)) has (k.last (device - 1)) in
          (none, (no_sessions m setting n w k calm (change - 1) (device - 1) a.slot a.there a.side a.at a.link (ap (option_and_then (link_at a.side.wire)) a.cur ∙ a.link_is) (ap is_some a.cur) none r has, omega (arith, low, small)))

      session_is : session_at links a.number ≡ session_of a.link
      session_is = ap (option_and_then session_of) at_link

      pub deliver_served : (sv : Served Config Node) → served m setting.tables r (session_of a.link) request ≡ Some sv → IsPairStep w (with_manager (with_device w device sv.after) (told_on state change device a.number sv.reply)) (change - 1) (device - 1)
      deliver_served sv e =
          let numbered = (some_is r (IsDevice m (k.supported.owners (device - 1))) (slice_get w.devices (device - 1)) has (k.supported.devices (device - 1))).numbered in
          delivered_step w change device a.slot a.there a.seat a.here a.side a.at r has a.number a.cur a.link a.link_is a.goes request asked sv.reply sv.after
          (told_well m setting.tables r numbered (session_of a.link) request sv known session_now fresh e) (is_replied m setting.tables r numbered (session_of a.link) request sv e) open_now a.slot.course.trouble a.right a.within
