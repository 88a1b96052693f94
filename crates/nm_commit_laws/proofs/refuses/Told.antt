-- What is kept of a change set where a device does what one of its links asks, or something else happens there.
use Rattle.std.proofs.Common.{ℕ, ◌≡◌, ◌∙◌, zero, suc, ◌+◌, ◌-◌, ◌≤◌, true, false, List, Option, Some, None, IfSome, is_some, slice_get, slice_set, unwrap_or, refl, sym, ap, subst, arith}
use Rattle.std.proofs.lemmas.Bool.Decides.{nat_tests}
use Rattle.std.proofs.lemmas.Option.{none-some}
use Rattle.nm_base.specs.Token.{token_of}
use Rattle.nm_proto.specs.declared.ask.Ask.{Ask}
use Rattle.nm_proto.specs.declared.ask.Ask.TheVariants as ask
use Rattle.nm_proto.specs.declared.message.Request.TheVariants.{OpenSession}
use Rattle.nm_proto.specs.declared.message.Reply.TheVariants.{Done}
use Rattle.nm_proto.specs.declared.message.Store.TheVariants.{Candidate}
use Rattle.nm_proto.specs.declared.plan.ChangePlan.{ChangePlan}
use Rattle.nm_proto.specs.Content.{Meaning}
use Rattle.nm_proto.specs.Plan.{devices_in}
use Rattle.nm_sessions.specs.Sessions.{is_open}
use Rattle.nm_history.specs.declared.event.DeviceEvent.{DeviceEvent}
use Rattle.nm_history.specs.declared.event.DeviceEvent.TheVariants.{Entered}
use Rattle.nm_history.specs.History.{Happened, RecordedState, recorded_with}
use Rattle.nm_recovery.specs.Recovery.{verdict_in}
use Rattle.nm_device_laws.specs.Moment.{Happens}
use Rattle.nm_device_laws.specs.Keeps.{KeepsFor, KeepsOpen}
use Rattle.nm_device_laws.specs.Token.{commits_done}
use Rattle.nm_device_laws.proofs.Keeping.{session_kept}
use Rattle.nm_decider.specs.declared.seat.Seat.{Seat}
use Rattle.nm_wire.specs.Asks.{ask_of, same_ask}
use Rattle.nm_wire.specs.Words.{commit_count, commits_sent, owns, owns_by}
use Rattle.nm_wire.specs.Link.{LinkState, asked_on, first_session, fresh_link, session_of, told_on}
use Rattle.nm_wire.specs.Wire.{link_at}
use Rattle.nm_manager.specs.Slot.{told_wire, wires_on}
use Rattle.nm_safety.specs.Pair.{EachLink, PairHolds, first_link, undelivered as on_its_way}
use Rattle.nm_safety.proofs.Answered.{sent_told, told_link}
use Rattle.nm_safety.proofs.PairSteps.{pair_at}
use Rattle.nm_safety.proofs.Wires.{changed_current}
use Rattle.nm_world.specs.World.{Setting, WorldState}
use Rattle.nm_safety.specs.Support.{IsDevice}
use Rattle.nm_safety.specs.Keeping.{Delivery, IsDone, IsOthers, Site, device_then, devices_then, slot_then}
use Rattle.nm_safety.proofs.EachLink.{Stays, links_aside, links_told}
use Rattle.nm_safety.proofs.Lists.{some_is}
use Rattle.nm_safety.proofs.SlotLinks.{links_at}
use Rattle.nm_commit_laws.specs.RefusesSupport.{AllFirst, AsksFitly, IsFit, IsFitted, OwnsOn}
use Rattle.nm_commit_laws.proofs.refuses.Links.{P}
use Rattle.nm_commit_laws.proofs.refuses.Slots.{holds_there, moved_knows, sides_know}
use Rattle.nm_commit_laws.proofs.refuses.Words.{owns_told}

first_place : (number : ℕ) → (1 ≤ number → ⊥) → number ≡ 0
first_place zero not = refl
first_place (suc n) not = absurd (not (omega arith))

pub counts_one : (what : Ask) → same_ask what ask.CommitConfirmed ≡ true → commit_count what ≡ 1
counts_one what e = grind (arith, nat_tests)

module _ {Config TheEdit Node : Type 0} (m : Meaning Config TheEdit Node) (setting : Setting TheEdit) (B : WorldState Config Node → Type 0) where
  abbrev pub Fits : ChangePlan → ℕ → Option (RecordedState Config Node) → ℕ → LinkState → Type 0
  Fits plan d r place link = IsFit plan r place link

  -- what a session keeps
  fit_stays : (plan : ChangePlan) (d : ℕ) (r : RecordedState Config Node) (event : DeviceEvent) (h : Happened Config Node)
      → Stays m setting B (Fits plan) d r event h
  fit_stays plan d r event h place link keeps p = record { asked = p.asked; sent = p.sent; held = owns_still; unheld = p.unheld }
    where
      owns_still : OwnsOn link (recorded_with r event h)
      owns_still session owned at opened =
          let known : KeepsFor session r.device h.after × (session ≤ r.device.sessions.last) = keeps session at in
          let kept : KeepsOpen session r.device h.after = known.0.kept opened in
          let was : is_open r.device.sessions session ≡ true = sym (ap is_some (kept.user known.1)) ∙ opened in
          kept.owner Candidate (p.held session owned at was)

  -- something else happens
  pub aside_fits : (x : Site m setting B) (d : ℕ) (r : RecordedState Config Node) → slice_get x.w.devices d ≡ Some r → IsDevice m (x.owners d) r
      → (event : DeviceEvent) (h : Happened Config Node) → Happens m setting.tables r.device event h → IsOthers x.change (x.owners d) r event
      → IsFitted x.plan x.w.devices x.slot → IsFitted x.plan (slice_set x.w.devices d (recorded_with r event h)) x.slot
  aside_fits x d r here known event h happens others f = record {
    course = moved_knows x.w.devices x.slot f.course d r (recorded_with r event h) here;
    links = links_aside m setting B (Fits x.plan) x d r here known event h happens others (fit_stays x.plan d r event h) f.links;
  }

  -- ---- the first link of a device

  module _ (x : Delivery m setting B) where
    -- what is kept of the device's seat
    pub pair_here : (T : Type 0) → ((seat : Seat) → PairHolds x.change (verdict_in x.change x.w.entries) seat x.side.wire x.r → T) → T
    pair_here T step = by_seat (slice_get x.slot.course.seats (x.device - 1)) refl
      where
        by_seat : (seat : Option Seat) → slice_get x.slot.course.seats (x.device - 1) ≡ seat → T
        by_seat None seated =
            absurd (pair_at x.change (devices_in x.plan.edits) x.w.entries x.slot x.kept.in_step (x.device - 1) None (Some x.side) seated x.at_side)
        by_seat (Some seat) seated =
            step seat
            (holds_there x.change (devices_in x.plan.edits) x.owners x.w.devices x.w.entries x.slot x.kept (x.device - 1) seat x.side x.r seated
            x.at_side x.here)

    pub count_now : commits_done (token_of x.change) x.r.history + on_its_way (first_link x.side.wire) ≤ commits_sent (first_link x.side.wire)
    count_now =
        pair_here (commits_done (token_of x.change) x.r.history + on_its_way (first_link x.side.wire) ≤ commits_sent (first_link x.side.wire))
        (λ seat pair. pair.first.count)

    pub first_is : x.link - 1 ≡ 0 → first_link x.side.wire ≡ x.one
    first_is zero_is =
        ap (λ o. unwrap_or o fresh_link) (subst (λ place. slice_get x.side.wire.links place ≡ Some x.one) zero_is x.at_place)

    -- the confirmed commit is asked for on it
    pub commit_first : same_ask (ask_of x.request) ask.CommitConfirmed ≡ true → x.link - 1 ≡ 0
    commit_first e =
        pair_here (x.link - 1 ≡ 0)
        (λ seat pair.
        let each : EachLink (verdict_in x.change x.w.entries) (x.link - 1) x.one =
        some_is x.one (EachLink (verdict_in x.change x.w.entries) (x.link - 1)) (slice_get x.side.wire.links (x.link - 1)) x.at_place
        (pair.each (x.link - 1)) in
        first_place (x.link - 1) (λ late. none_of (each.later late)))
      where
        none_of : commits_sent x.one ≡ 0 → ⊥
        none_of none =
            let sent : commit_count (ask_of x.request) ≤ commits_sent x.one = (told_link x.one x.request Done x.way).sent in
            let one : commit_count (ask_of x.request) ≡ 1 = counts_one (ask_of x.request) e in
            absurd (omega (arith, sent, one, none))

  -- ---- a link of it asks

  module _ (x : Delivery m setting B) (f : IsFitted x.plan x.w.devices x.slot) where
    pub fit_at : (place : ℕ) (link : LinkState) → slice_get x.side.wire.links place ≡ Some link → IsFit x.plan (Some x.r) place link
    fit_at place link found =
        subst (λ o. IsFit x.plan o place link) x.here
        (some_is link (IsFit x.plan (slice_get x.w.devices (x.device - 1)) place) (slice_get x.side.wire.links place) found
        (links_at (P x.plan x.w.devices x.slot) x.slot f.links (x.device - 1) x.side x.at_side place))

    -- as it was
    pub own_fit : IsFit x.plan (Some x.r) (x.link - 1) x.one
    own_fit = fit_at (x.link - 1) x.one x.at_place

    pub asks_now : AsksFitly x.plan true (x.link - 1) x.one x.request
    asks_now = subst (λ found. IfSome found (AsksFitly x.plan true (x.link - 1) x.one)) (ap asked_on x.way) own_fit.asked

    module _ {event : DeviceEvent} (done : IsDone m setting B x event) where
      course_told : AllFirst x.w.devices (slot_then m setting B x done)
      course_told =
          subst (λ found. AllFirst x.w.devices (wires_on (told_wire x.link done.reply) x.slot x.device found)) x.at_side
          (sides_know x.w.devices x.slot f.course (told_wire x.link done.reply)
          (λ wire. changed_current (told_on done.reply) wire x.link (link_at wire x.link)) x.device)

      -- it is told
      pub told_fits : IsFit x.plan (Some (device_then m setting B x done)) (x.link - 1) (told_on done.reply x.one)
          → IsFitted x.plan (devices_then m setting B x done) (slot_then m setting B x done)
      told_fits new = record {
        course =
            moved_knows x.w.devices (slot_then m setting B x done) course_told (x.device - 1) x.r (device_then m setting B x done) x.here;
        links = links_told m setting B (Fits x.plan) x done (fit_stays x.plan (x.device - 1) x.r event done.h) new f.links;
      }

      pub none_asked : IfSome (asked_on (told_on done.reply x.one).way) (AsksFitly x.plan true (x.link - 1) (told_on done.reply x.one))
      none_asked =
          subst (λ found. IfSome found (AsksFitly x.plan true (x.link - 1) (told_on done.reply x.one)))
          (sym (told_link x.one x.request done.reply x.way).none) tt

    -- ---- a session is asked for

    module _ (user : List ℕ) (opening : x.request ≡ OpenSession user) (done : IsDone m setting B x (Entered user)) where
      abbrev now : LinkState
      now = told_on done.reply x.one

      owns_same : owns now ≡ owns x.one
      owns_same = owns_told x.one x.request done.reply x.way ∙ ap (λ q. owns_by (owns x.one) (ask_of q) done.reply) opening

      told_is : (before : Option ℕ) → session_of x.one ≡ before
          → session_of now ≡ first_session before (record { request = x.request; reply = done.reply })
      told_is before e =
          (told_link x.one x.request done.reply x.way).session
          ∙ ap (λ o. first_session o (record { request = x.request; reply = done.reply })) e

      -- who had a session keeps it, and who had none has locked nothing
      stayed : IsFit x.plan (Some (device_then m setting B x done)) (x.link - 1) x.one
      stayed =
          fit_stays x.plan (x.device - 1) x.r (Entered user) done.h (x.link - 1) x.one
          (λ t at. (
            session_kept m setting.tables x.r.device x.known.numbered t (Entered user) done.h done.happens refl,
            (x.owned (x.link - 1) x.one x.at_place).opened t at,
          )) own_fit

      held_now : (before : Option ℕ) → session_of x.one ≡ before → OwnsOn now (device_then m setting B x done)
      held_now (Some q) e t held at opened = stayed.held t (sym owns_same ∙ held) (e ∙ sym (told_is (Some q) e) ∙ at) opened
      held_now None e t held at opened = absurd (let g : false ≡ true = sym (own_fit.unheld e) ∙ sym owns_same ∙ held in cc)

      unheld_now : (before : Option ℕ) → session_of x.one ≡ before → session_of now ≡ None → owns now ≡ false
      unheld_now (Some q) e none = absurd (none-some q (sym none ∙ told_is (Some q) e))
      unheld_now None e none = owns_same ∙ own_fit.unheld e

      pub opened_fits : IsFitted x.plan (devices_then m setting B x done) (slot_then m setting B x done)
      opened_fits =
          told_fits done
          (record {
            asked = none_asked done;
            sent = λ sent. owns_same ∙ own_fit.sent (subst (λ n. 1 ≤ n) (sent_told x.one done.reply).commits sent);
            held = held_now (session_of x.one) refl;
            unheld = unheld_now (session_of x.one) refl;
          })
