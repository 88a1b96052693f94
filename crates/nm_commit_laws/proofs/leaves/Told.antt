-- What is kept of a change set where a device does what one of its links asks, or something else happens there.
use Rattle.std.proofs.Common.{ℕ, ◌≡◌, ◌∙◌, ◌-◌, ◌≤◌, true, List, Option, Some, None, IfSome, is_some, slice_get, slice_set, refl, sym, ap, subst, arith}
use Rattle.std.proofs.lemmas.Option.{same_Some}
use Rattle.nm_proto.specs.declared.message.Request.TheVariants.{OpenSession}
use Rattle.nm_proto.specs.Content.{Meaning, Laws}
use Rattle.nm_proto.specs.Plan.{devices_in}
use Rattle.nm_sessions.specs.Sessions.{is_open}
use Rattle.nm_history.specs.declared.event.DeviceEvent.{DeviceEvent}
use Rattle.nm_history.specs.declared.event.DeviceEvent.TheVariants.{Entered, Asked}
use Rattle.nm_history.specs.History.{Happened, RecordedState, recorded_with}
use Rattle.nm_device_laws.specs.Moment.{Happens}
use Rattle.nm_device_laws.specs.Keeps.{KeepsFor, KeepsOpen}
use Rattle.nm_device_laws.proofs.Events.{is_asked}
use Rattle.nm_decider.specs.declared.seat.Seat.{Seat}
use Rattle.nm_wire.specs.Asks.{ask_of}
use Rattle.nm_wire.specs.Link.{LinkState, asked_on, first_session, session_of, told_on}
use Rattle.nm_wire.specs.Wire.{told}
use Rattle.nm_manager.specs.Slot.{SideState, with_wire}
use Rattle.nm_safety.proofs.Answered.{told_link}
use Rattle.nm_world.specs.World.{Setting, WorldState}
use Rattle.nm_safety.specs.Support.{IsDevice}
use Rattle.nm_safety.specs.Keeping.{Delivery, IsDone, IsOthers, Site, device_then, devices_then, slot_then}
use Rattle.nm_safety.proofs.EachLink.{Stays, links_aside, links_told}
use Rattle.nm_safety.proofs.Lists.{some_is}
use Rattle.nm_safety.proofs.Managed.{others_stay}
use Rattle.nm_safety.proofs.SlotLinks.{links_at}
use Rattle.nm_commit_laws.specs.Standing.{stands_by, standing}
use Rattle.nm_commit_laws.specs.LeavesSupport.{AsksClean, HoldsCandidate, HoldsOn, IsClean, IsHolding, KnownPair}
use Rattle.nm_safety.specs.Pairs.{PairAt}
use Rattle.nm_commit_laws.proofs.leaves.Course.{told_known}
use Rattle.nm_commit_laws.proofs.leaves.Others.{holds_kept}
use Rattle.nm_commit_laws.proofs.leaves.Own.{told_holds}
use Rattle.nm_commit_laws.proofs.leaves.Slots.{goes_at, known_at}
use Rattle.nm_commit_laws.proofs.leaves.Words.{standing_told}

module _ {Config TheEdit Node : Type 0} (m : Meaning Config TheEdit Node) (setting : Setting TheEdit) (B : WorldState Config Node → Type 0) where
  abbrev pub Holds : ℕ → Option (RecordedState Config Node) → ℕ → LinkState → Type 0
  Holds d r place link = IsHolding r link

  -- what a session keeps
  holding_stays : (d : ℕ) (r : RecordedState Config Node) (event : DeviceEvent) (h : Happened Config Node) → Stays m setting B Holds d r event h
  holding_stays d r event h place link keeps p = record { asked = p.asked; holds = held }
    where
      held : HoldsOn link (recorded_with r event h)
      held session at opened =
          let known : KeepsFor session r.device h.after × (session ≤ r.device.sessions.last) = keeps session at in
          let kept : KeepsOpen session r.device h.after = known.0.kept opened in
          let was : is_open r.device.sessions session ≡ true = sym (ap is_some (kept.user known.1)) ∙ opened in
          holds_kept (standing link) session r.device h.after kept (p.holds session at was)

  -- something else happens
  pub aside_clean : (x : Site m setting B) (d : ℕ) (r : RecordedState Config Node) → slice_get x.w.devices d ≡ Some r → IsDevice m (x.owners d) r
      → (event : DeviceEvent) (h : Happened Config Node) → Happens m setting.tables r.device event h → IsOthers x.change (x.owners d) r event
      → IsClean x.w.devices x.slot → IsClean (slice_set x.w.devices d (recorded_with r event h)) x.slot
  aside_clean x d r here known event h happens others c = record {
    course = c.course;
    links = links_aside m setting B Holds x d r here known event h happens others (holding_stays d r event h) c.links;
  }

  module _ (x : Delivery m setting B) (c : IsClean x.w.devices x.slot) where
    -- the link as it was
    pub own_link : IsHolding (slice_get x.w.devices (x.device - 1)) x.one
    own_link =
        some_is x.one (IsHolding (slice_get x.w.devices (x.device - 1))) (slice_get x.side.wire.links (x.link - 1)) x.at_place
        (links_at (λ d. Holds d (slice_get x.w.devices d)) x.slot c.links (x.device - 1) x.side x.at_side (x.link - 1))

    module _ {event : DeviceEvent} (done : IsDone m setting B x event) where
      abbrev told_side : SideState
      told_side = with_wire x.side (told x.side.wire x.link done.reply)

      course_here : (seat : Option Seat) → slice_get x.slot.course.seats (x.device - 1) ≡ seat → PairAt KnownPair (x.device - 1) x.slot.course.verdict seat (Some told_side)
      course_here None seated = tt
      course_here (Some seat) seated =
          told_known x.slot.course.verdict seat x.side
          (known_at x.change (devices_in x.plan.edits) x.w.entries x.slot x.kept.in_step c.course (x.device - 1) seat x.side seated x.at_side)
          (goes_at x.change (devices_in x.plan.edits) x.w.entries x.slot x.kept.in_step c.course (x.device - 1) seat x.side seated x.at_side)
          x.link x.request done.reply x.out

      none_asked : IfSome (asked_on (told_on done.reply x.one).way) (AsksClean (told_on done.reply x.one))
      none_asked =
          subst (λ found. IfSome found (AsksClean (told_on done.reply x.one))) (sym (told_link x.one x.request done.reply x.way).none) tt

      -- the link is told
      told_clean : HoldsOn (told_on done.reply x.one) (device_then m setting B x done) → IsClean (devices_then m setting B x done) (slot_then m setting B x done)
      told_clean held = record {
        course =
            others_stay (λ j o. PairAt KnownPair j x.slot.course.verdict (slice_get x.slot.course.seats j) o) x.slot.sides (x.device - 1) x.side told_side x.at_side
            (course_here (slice_get x.slot.course.seats (x.device - 1)) refl) (λ j ne. c.course j);
        links = links_told m setting B Holds x done (holding_stays (x.device - 1) x.r event done.h) (record { asked = none_asked; holds = held }) c.links;
      }

    -- ---- a session asks

    module _ (laws : Laws m) (u : ℕ) (session : session_of x.one ≡ Some u) (done : IsDone m setting B x (Asked u x.request)) where
      pub held_before : HoldsCandidate (standing x.one) u x.r.device
      held_before =
          some_is x.r (HoldsOn x.one) (slice_get x.w.devices (x.device - 1)) x.here own_link.holds u session
          (is_asked m setting.tables x.r.device u x.request done.h done.happens).asker

      told_session : session_of (told_on done.reply x.one) ≡ Some u
      told_session =
          (told_link x.one x.request done.reply x.way).session ∙ ap (λ o. first_session o (record { request = x.request; reply = done.reply })) session

      new_held : HoldsOn (told_on done.reply x.one) (device_then m setting B x done)
      new_held t at opened =
          let same : u ≡ t = same_Some u t (sym told_session ∙ at) in
          subst (λ q. HoldsCandidate (standing (told_on done.reply x.one)) q done.h.after) same
          (subst (λ n. HoldsCandidate n u done.h.after) (sym (standing_told x.one x.request done.reply x.way))
          (told_holds m laws setting.tables x.r.device u done.h (standing x.one) held_before x.request done.happens done.reply done.replies done.answer))

      pub asked_clean : IsClean (devices_then m setting B x done) (slot_then m setting B x done)
      asked_clean = told_clean done new_held

    -- ---- a session is asked for

    module _ (user : List ℕ) (opening : x.request ≡ OpenSession user) (done : IsDone m setting B x (Entered user)) where
      zero_now : standing (told_on done.reply x.one) ≡ 0
      zero_now = standing_told x.one x.request done.reply x.way ∙ ap (λ q. stands_by (standing x.one) (ask_of q) done.reply) opening

      zero_held : (t : ℕ) → HoldsCandidate 0 t done.h.after
      zero_held t = record { owner = λ one. absurd (omega (arith, one)); unmodified = λ two. absurd (omega (arith, two)) }

      pub opened_clean : IsClean (devices_then m setting B x done) (slot_then m setting B x done)
      opened_clean = told_clean done (λ t at opened. subst (λ n. HoldsCandidate n t done.h.after) (sym zero_now) (zero_held t))
