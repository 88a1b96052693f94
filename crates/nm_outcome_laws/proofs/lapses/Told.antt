-- What is kept of the links of a change set where a device does what one of them asks, or something else happens there: a renewal that is
-- refused tells that it is over.
use Rattle.std.proofs.Common.{◌≡◌, ◌∙◌, ℕ, ◌-◌, Bool, true, false, List, Option, Some, None, IfSome, slice_get, slice_set, refl, sym, ap, subst}
use Rattle.nm_base.specs.Token.{token_of}
use Rattle.nm_proto.specs.declared.message.Request.{Request}
use Rattle.nm_proto.specs.declared.message.Request.TheVariants.{OpenSession, Lock, Unlock, PartialLock, PartialUnlock, Edit, Validate, Commit, CancelCommit, Discard, HasMark, GetConfig, Kill, CloseSession}
use Rattle.nm_proto.specs.declared.message.Store.{Store}
use Rattle.nm_proto.specs.declared.message.Store.TheVariants.{Running, Candidate}
use Rattle.nm_proto.specs.Content.{Meaning, Laws}
use Rattle.nm_device.specs.Table.{is_error}
use Rattle.nm_history.specs.declared.event.DeviceEvent.{DeviceEvent}
use Rattle.nm_history.specs.declared.event.DeviceEvent.TheVariants.{Entered, Asked}
use Rattle.nm_history.specs.declared.outcome.Outcome.{Outcome}
use Rattle.nm_history.specs.Outcome.{is_final, outcome_of}
use Rattle.nm_history.specs.History.{Happened, RecordedState, noted, recorded_with}
use Rattle.nm_device_laws.specs.Moment.{Happens, is_refused}
use Rattle.nm_device_laws.specs.Token.{waits_under}
use Rattle.nm_device_laws.proofs.Owns as owns
use Rattle.nm_decider.proofs.Actions.{both}
use Rattle.nm_wire.specs.Asks.{ask_of}
use Rattle.nm_wire.specs.Link.{asked_on, session_of}
use Rattle.nm_safety.specs.Delivered.{NamesOurs}
use Rattle.nm_safety.specs.Keeping.{Delivery, IsDone, IsOthers, Site, device_then, devices_then, slot_then, world_then}
use Rattle.nm_safety.specs.Pair.{is_never}
use Rattle.nm_safety.specs.Support.{IsDevice}
use Rattle.nm_safety.proofs.Basics.{never}
use Rattle.nm_safety.proofs.EachLink.{Stays, links_aside, links_told}
use Rattle.nm_safety.proofs.Lists.{some_is}
use Rattle.nm_safety.proofs.SlotLinks.{links_at}
use Rattle.nm_world.specs.World.{Setting, WorldState}
use Rattle.nm_outcome_laws.specs.Causes.{is_renewing}
use Rattle.nm_outcome_laws.specs.LapsesSupport.{AllRenew, Renews, RenewsCommitted, RenewsOn}
use Rattle.nm_outcome_laws.specs.RecordsSupport.{outcome_in, outcomes_at}
use Rattle.nm_outcome_laws.proofs.records.Passing.{HasRun}
use Rattle.nm_outcome_laws.proofs.records.Replies.{refused_final}
use Rattle.nm_outcome_laws.proofs.records.Said.{gone_now, managed, token_now}
use Rattle.nm_outcome_laws.proofs.lapses.Later.{link_later}
use Rattle.nm_outcome_laws.proofs.lapses.Links.{told_renews}

-- ---- a renewal

-- a commit that is confirmed and goes on with what was pending under a token (RFC 6241 section 8.4.1)
record IsRenewal (request : Request) : Type 0 where
  timeout : Option ℕ
  named : List ℕ
  form : request ≡ Commit true timeout None (Some named)

lock_none : (store : Store) → is_renewing (ask_of (Lock store)) ≡ true → IsRenewal (Lock store)
lock_none Running r = never r
lock_none Candidate r = never r

cancel_none : (persist_id : Option (List ℕ)) → is_renewing (ask_of (CancelCommit persist_id)) ≡ true → IsRenewal (CancelCommit persist_id)
cancel_none None r = never r
cancel_none (Some named) r = never r

commit_renews : (confirmed : Bool) (timeout : Option ℕ) (persist persist_id : Option (List ℕ))
    → is_renewing (ask_of (Commit confirmed timeout persist persist_id)) ≡ true → IsRenewal (Commit confirmed timeout persist persist_id)
commit_renews true timeout None None r = never r
commit_renews true timeout None (Some named) r = record { timeout = timeout; named = named; form = refl }
commit_renews true timeout (Some given) None r = never r
commit_renews true timeout (Some given) (Some named) r = never r
commit_renews false timeout None None r = never r
commit_renews false timeout None (Some named) r = never r
commit_renews false timeout (Some given) None r = never r
commit_renews false timeout (Some given) (Some named) r = never r

renewal_of : (request : Request) → is_renewing (ask_of request) ≡ true → IsRenewal request
renewal_of (OpenSession user) r = never r
renewal_of (Lock store) r = lock_none store r
renewal_of (Unlock store) r = never r
renewal_of (PartialLock select) r = never r
renewal_of (PartialUnlock id) r = never r
renewal_of (Edit edit operation marks) r = never r
renewal_of Validate r = never r
renewal_of (Commit confirmed timeout persist persist_id) r = commit_renews confirmed timeout persist persist_id r
renewal_of (CancelCommit persist_id) r = cancel_none persist_id r
renewal_of Discard r = never r
renewal_of (HasMark mark) r = never r
renewal_of GetConfig r = never r
renewal_of (Kill other) r = never r
renewal_of CloseSession r = never r

-- ---- at a device

module _ {Config TheEdit Node : Type 0} (m : Meaning Config TheEdit Node) (laws : Laws m) (setting : Setting TheEdit) (running : List Config) where
  abbrev Ran : WorldState Config Node → Type 0
  Ran = HasRun m setting running

  renews_stay : (change d : ℕ) (r : RecordedState Config Node) (event : DeviceEvent) (h : Happened Config Node)
      → Stays m setting Ran (Renews change) d r event h
  renews_stay change d r event h place link keeps p = link_later change r event h link p

  -- something else happens
  pub aside_renews : (x : Site m setting Ran) (d : ℕ) (r : RecordedState Config Node) → slice_get x.w.devices d ≡ Some r → IsDevice m (x.owners d) r
      → (event : DeviceEvent) (h : Happened Config Node) → Happens m setting.tables r.device event h → IsOthers x.change (x.owners d) r event
      → AllRenew (outcomes_at x.change x.w.devices) x.slot
      → AllRenew (outcomes_at x.change (slice_set x.w.devices d (recorded_with r event h))) x.slot
  aside_renews x d r here known event h happens others all =
      links_aside m setting Ran (Renews x.change) x d r here known event h happens others (renews_stay x.change d r event h) all

  module _ (x : Delivery m setting Ran) (all : AllRenew (outcomes_at x.change x.w.devices) x.slot) where
    -- the link as it was
    own_link : RenewsOn (outcome_in x.change (Some x.r)) x.one
    own_link =
        subst (λ found. RenewsOn (outcome_in x.change found) x.one) x.here
        (some_is x.one (RenewsOn (outcomes_at x.change x.w.devices (x.device - 1))) (slice_get x.side.wire.links (x.link - 1)) x.at_place
        (links_at (λ d. Renews x.change d (slice_get x.w.devices d)) x.slot all (x.device - 1) x.side x.at_side (x.link - 1)))

    module _ {event : DeviceEvent} (done : IsDone m setting Ran x event) where
      abbrev after : RecordedState Config Node
      after = device_then m setting Ran x done

      abbrev o : Outcome
      o = outcome_of (token_of x.change) after.history

      -- with the change set as it is then
      link_now : RenewsOn (Some o) x.one
      link_now = link_later x.change x.r event done.h x.one own_link

      -- a renewal was on its way to where the change set was committed
      committed : is_renewing (ask_of x.request) ≡ true → is_never o ≡ false
      committed = subst (λ found. IfSome found (RenewsCommitted (Some o))) (ap asked_on x.way) link_now.asked

      told_all : (is_renewing (ask_of x.request) ≡ true → is_error done.reply ≡ true → is_final o ≡ true)
          → AllRenew (outcomes_at x.change (devices_then m setting Ran x done)) (slot_then m setting Ran x done)
      told_all over =
          links_told m setting Ran (Renews x.change) x done (renews_stay x.change (x.device - 1) x.r event done.h)
          (told_renews (Some o) x.one x.request done.reply x.way
          (λ lapsed. let parts = both (is_renewing (ask_of x.request)) (is_error done.reply) lapsed in over parts.0 parts.1) link_now) all

    -- ---- a session asks

    module _ (u : ℕ) (session : session_of x.one ≡ Some u) (done : IsDone m setting Ran x (Asked u x.request))
        (later : Ran (world_then m setting Ran x done)) where
      module _ (renewal : IsRenewal x.request) (refused : is_error done.reply ≡ true) where
        abbrev form : Request
        form = Commit true renewal.timeout None (Some renewal.named)

        named_ours : renewal.named ≡ token_of x.change
        named_ours =
            let names : NamesOurs (token_of x.change) form = subst (NamesOurs (token_of x.change)) renewal.form x.ours.names in names.1

        refused_now : is_refused done.h.reply ≡ true
        refused_now = ap is_refused done.replies ∙ refused

        quiet : waits_under (token_of x.change) x.r.device.pending ≡ false
        quiet =
            gone_now m laws setting running x done later (noted (Asked u x.request) done.h) refl
            (record {
              session = u;
              request = form;
              asked = ap (Asked u) renewal.form;
              names = ap Some named_ours;
              managed = managed m laws setting running x u session done;
              refused = refused_now;
            })

        same : done.h.after ≡ x.r.device
        same = owns.refused_same m setting.tables x.r.device u x.request done.h done.happens refused_now

        over_now : is_never (outcome_of (token_of x.change) (device_then m setting Ran x done).history) ≡ false
            → is_final (outcome_of (token_of x.change) (device_then m setting Ran x done).history) ≡ true
        over_now began =
            refused_final (outcome_of (token_of x.change) (device_then m setting Ran x done).history)
            (sym (token_now m laws setting running x done later)
            ∙ ap (λ device. waits_under (token_of x.change) device.pending) same ∙ quiet) began

      pub asked_renews : AllRenew (outcomes_at x.change (devices_then m setting Ran x done)) (slot_then m setting Ran x done)
      asked_renews =
          told_all done
          (λ renewing refused. over_now (renewal_of x.request renewing) refused (committed done renewing))

    -- ---- a session is asked for

    module _ (user : List ℕ) (opening : x.request ≡ OpenSession user) (done : IsDone m setting Ran x (Entered user)) where
      pub opened_renews : AllRenew (outcomes_at x.change (devices_then m setting Ran x done)) (slot_then m setting Ran x done)
      opened_renews = told_all done (λ renewing refused. never (sym (ap (λ q. is_renewing (ask_of q)) opening) ∙ renewing))
