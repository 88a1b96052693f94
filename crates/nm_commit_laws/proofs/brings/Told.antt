-- What is kept of a change set where a device does what one of its links asks, or something else happens there.
use Rattle.std.proofs.Common.{ℕ, ◌≡◌, ◌∙◌, suc, ◌-◌, ◌≤◌, true, List, Option, Some, None, IfSome, is_some, slice_get, slice_set, refl, sym, ap, subst, arith}
use Rattle.std.proofs.lemmas.Option.{same_Some}
use Rattle.nm_proto.specs.declared.message.Request.TheVariants.{OpenSession}
use Rattle.nm_proto.specs.declared.journal.Verdict.{Verdict}
use Rattle.nm_proto.specs.Content.{Meaning, Laws}
use Rattle.nm_proto.specs.Plan.{devices_in}
use Rattle.nm_sessions.specs.Sessions.{is_open}
use Rattle.nm_history.specs.declared.event.DeviceEvent.{DeviceEvent}
use Rattle.nm_history.specs.declared.event.DeviceEvent.TheVariants.{Entered, Asked}
use Rattle.nm_history.specs.History.{Happened, RecordedState, recorded_with}
use Rattle.nm_recovery.specs.Recovery.{verdict_in}
use Rattle.nm_device_laws.specs.Moment.{Happens}
use Rattle.nm_device_laws.proofs.Events.{is_asked}
use Rattle.nm_decider.specs.declared.seat.Seat.{Seat}
use Rattle.nm_wire.specs.Asks.{ask_of}
use Rattle.nm_wire.specs.Link.{asked_on, first_session, session_of, told_on}
use Rattle.nm_wire.specs.Wire.{told}
use Rattle.nm_manager.specs.Slot.{SideState, with_wire}
use Rattle.nm_safety.specs.Keeping.{Delivery, IsDone, IsOthers, Site, device_then, devices_then, slot_then}
use Rattle.nm_safety.specs.Pair.{HoldsRunning, first_link}
use Rattle.nm_safety.specs.Pairs.{PairAt}
use Rattle.nm_safety.specs.Step.{GoesWith}
use Rattle.nm_safety.specs.Support.{IsDevice, IsOrdered}
use Rattle.nm_safety.proofs.Answered.{told_link}
use Rattle.nm_safety.proofs.EachLink.{links_aside_there, links_told_there}
use Rattle.nm_safety.proofs.EachPair.{known_at}
use Rattle.nm_safety.proofs.Lists.{some_is}
use Rattle.nm_safety.proofs.Managed.{others_stay}
use Rattle.nm_safety.proofs.PairSteps.{pair_at}
use Rattle.nm_safety.proofs.SlotLinks.{links_at}
use Rattle.nm_world.specs.World.{Setting, WorldState}
use Rattle.nm_commit_laws.specs.Course.{steps_by, steps_of}
use Rattle.nm_commit_laws.specs.BringsSupport.{CoursePair, EditsOwn, IsBrought, IsOwnLink, IsPrepared, IsPreparedOn}
use Rattle.nm_commit_laws.proofs.brings.Course.{told_course}
use Rattle.nm_commit_laws.proofs.brings.Others.{OwnAt, first_found, first_same, own_stays, running_held}
use Rattle.nm_commit_laws.proofs.brings.Own.{few_prepared, told_prepared}
use Rattle.nm_commit_laws.proofs.brings.Slots.{holds_at, none_now, same_on_course}
use Rattle.nm_commit_laws.proofs.brings.Words.{steps_told}

module _ {Config TheEdit Node : Type 0} (m : Meaning Config TheEdit Node) (setting : Setting TheEdit) (B : WorldState Config Node → Type 0) where
  -- something else happens
  pub aside_brought : (x : Site m setting B) (d : ℕ) (r : RecordedState Config Node) → slice_get x.w.devices d ≡ Some r → IsDevice m (x.owners d) r
      → (event : DeviceEvent) (h : Happened Config Node) → Happens m setting.tables r.device event h → IsOthers x.change (x.owners d) r event
      → IsBrought m setting x.change x.w.entries x.w.devices x.slot
      → IsBrought m setting x.change x.w.entries (slice_set x.w.devices d (recorded_with r event h)) x.slot
  aside_brought x d r here known event h happens others b = record {
    numbered = b.numbered;
    course = same_on_course (verdict_in x.change x.w.entries) x.w.devices x.slot b.course d r (recorded_with r event h) here;
    links = links_aside_there m setting B (OwnAt m setting x.w.entries x.change) x d r here known event h happens others
        (own_stays m setting x.w.entries x.change B (devices_in x.plan.edits) x.owners x.w.devices x.slot x.kept d r here event h) b.links;
  }

  module _ (x : Delivery m setting B) (b : IsBrought m setting x.change x.w.entries x.w.devices x.slot) where
    abbrev d : ℕ
    d = x.device - 1

    abbrev members : ℕ
    members = devices_in x.plan.edits

    abbrev found : Option Verdict
    found = verdict_in x.change x.w.entries

    -- the link as it was
    own_link : IsOwnLink m setting x.w.entries x.change (suc d) (slice_get x.w.devices d) (x.link - 1) x.one
    own_link =
        some_is x.one (OwnAt m setting x.w.entries x.change d (slice_get x.w.devices d) (x.link - 1)) (slice_get x.side.wire.links (x.link - 1))
        x.at_place (links_at (λ j. OwnAt m setting x.w.entries x.change j (slice_get x.w.devices j)) x.slot b.links d x.side x.at_side (x.link - 1))

    edits_own : EditsOwn setting.plans x.w.entries x.change (suc d) x.request
    edits_own = subst (λ asks. IfSome asks (EditsOwn setting.plans x.w.entries x.change (suc d))) (ap asked_on x.way) own_link.asked

    pub is_first : x.link - 1 ≡ 0 → first_link x.side.wire ≡ x.one
    is_first first = first_same x.side x.one (first_found x.side.wire.links (x.link - 1) x.one x.at_place first)

    -- the link is told
    module _ (ordered : IsOrdered x.change x.w.entries) {event : DeviceEvent} (done : IsDone m setting B x event) where
      abbrev told_side : SideState
      told_side = with_wire x.side (told x.side.wire x.link done.reply)

      course_here : (seat : Option Seat) → slice_get x.slot.course.seats d ≡ seat
          → PairAt (CoursePair found (devices_then m setting B x done)) d x.slot.course.verdict seat (Some told_side)
      course_here None seated = tt
      course_here (Some seat) seated = λ some.
          told_course x.change seat x.side x.r x.link x.request done.reply x.out found
          (λ none.
          subst (λ v. GoesWith v seat x.side) (none_now x.change members x.w.entries x.owners x.w.devices x.slot x.kept ordered none)
          (pair_at x.change members x.w.entries x.slot x.kept.in_step d (Some seat) (Some x.side) seated x.at_side).1)
          (holds_at x.change members x.w.entries x.owners x.w.devices x.slot x.kept d seat x.side x.r seated x.at_side x.here)
          (known_at (CoursePair found x.w.devices) x.change members x.w.entries x.slot x.kept.in_step b.course d seat x.side seated x.at_side
          (ap is_some x.here))

      none_asked : IfSome (asked_on (told_on done.reply x.one).way) (EditsOwn setting.plans x.w.entries x.change (suc d))
      none_asked =
          subst (λ asks. IfSome asks (EditsOwn setting.plans x.w.entries x.change (suc d)))
          (sym (told_link x.one x.request done.reply x.way).none) tt

      told_brought : (x.link - 1 ≡ 0
          → IsPreparedOn m setting x.w.entries x.change (suc d) (told_on done.reply x.one) (device_then m setting B x done))
          → IsBrought m setting x.change x.w.entries (devices_then m setting B x done) (slot_then m setting B x done)
      told_brought prepared = record {
        numbered = b.numbered;
        course =
            others_stay (λ j o. PairAt (CoursePair found (devices_then m setting B x done)) j x.slot.course.verdict (slice_get x.slot.course.seats j) o)
            x.slot.sides d x.side told_side x.at_side (course_here (slice_get x.slot.course.seats d) refl)
            (λ j ne. same_on_course found x.w.devices x.slot b.course d x.r (device_then m setting B x done) x.here j);
        links = links_told_there m setting B (OwnAt m setting x.w.entries x.change) x done
            (own_stays m setting x.w.entries x.change B members x.owners x.w.devices x.slot x.kept d x.r x.here event done.h)
            (record { asked = none_asked; prepared = prepared }) b.links;
      }

    -- ---- a session asks

    module _ (u : ℕ) (session : session_of x.one ≡ Some u) (done : IsDone m setting B x (Asked u x.request)) where
      asker_open : is_open x.r.device.sessions u ≡ true
      asker_open = (is_asked m setting.tables x.r.device u x.request done.h done.happens).asker

      pub prepared_before : x.link - 1 ≡ 0 → IsPrepared m setting x.w.entries x.change (suc d) (steps_of x.one) u x.r.device
      prepared_before first =
          some_is x.r (IsPreparedOn m setting x.w.entries x.change (suc d) x.one) (slice_get x.w.devices d) x.here (own_link.prepared first) u
          session asker_open

      held_before : x.link - 1 ≡ 0 → 1 ≤ steps_of x.one → HoldsRunning u x.r.device
      held_before first =
          running_held m setting x.change members x.w.entries x.owners x.w.devices x.slot x.kept d x.r x.here x.side x.at_side x.one
          (is_first first) u session asker_open

      told_session : session_of (told_on done.reply x.one) ≡ Some u
      told_session =
          (told_link x.one x.request done.reply x.way).session ∙ ap (λ o. first_session o (record { request = x.request; reply = done.reply })) session

      new_prepared : Laws m → x.link - 1 ≡ 0
          → IsPreparedOn m setting x.w.entries x.change (suc d) (told_on done.reply x.one) (device_then m setting B x done)
      new_prepared laws first t at opened =
          let same : u ≡ t = same_Some u t (sym told_session ∙ at) in
          subst (λ q. IsPrepared m setting x.w.entries x.change (suc d) (steps_of (told_on done.reply x.one)) q done.h.after) same
          (subst (λ n. IsPrepared m setting x.w.entries x.change (suc d) n u done.h.after) (sym (steps_told x.one x.request done.reply x.way))
          (told_prepared m laws setting x.w.entries x.change (suc d) x.r.device u done.h (steps_of x.one) (held_before first)
          (prepared_before first) x.request edits_own done.happens done.reply done.replies done.answer))

      pub asked_brought : Laws m → IsOrdered x.change x.w.entries
          → IsBrought m setting x.change x.w.entries (devices_then m setting B x done) (slot_then m setting B x done)
      asked_brought laws ordered = told_brought ordered done (new_prepared laws)

    -- ---- a session is asked for

    module _ (user : List ℕ) (opening : x.request ≡ OpenSession user) (done : IsDone m setting B x (Entered user)) where
      zero_now : steps_of (told_on done.reply x.one) ≡ 0
      zero_now = steps_told x.one x.request done.reply x.way ∙ ap (λ q. steps_by (steps_of x.one) (ask_of q) done.reply) opening

      pub opened_brought : Laws m → IsOrdered x.change x.w.entries
          → IsBrought m setting x.change x.w.entries (devices_then m setting B x done) (slot_then m setting B x done)
      opened_brought laws ordered =
          told_brought ordered done
          (λ first t at opened.
          subst (λ n. IsPrepared m setting x.w.entries x.change (suc d) n t done.h.after) (sym zero_now)
          (few_prepared m laws setting x.w.entries x.change (suc d) 0 t done.h.after (omega arith)))
