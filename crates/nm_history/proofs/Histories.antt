-- A history grows by what happens, and stays legal and whole, and keeps locks.
use Rattle.std.proofs.Common.{◌≡◌, ℕ, List, [], ◌∷◌, ◌++◌, Option, Some, None, refl, sym, ap, ◌∙◌, subst}
use Rattle.std.proofs.lemmas.Option.{same_Some, none-some}
use Rattle.nm_proto.specs.declared.message.Request.{Request}
use Rattle.nm_proto.specs.declared.message.Reply.{Reply}
use Rattle.nm_proto.specs.Content.{Meaning, Laws, TablesState}
use Rattle.nm_device.specs.Device.{DeviceState, IsSteady, fresh_device}
use Rattle.nm_history.specs.declared.event.DeviceEvent.{DeviceEvent}
use Rattle.nm_history.specs.declared.event.DeviceEvent.TheVariants.{Lost}
use Rattle.nm_history.specs.declared.event.Noted.{Noted}
use Rattle.nm_history.specs.History.{Happened, RecordedState, noted, loss_of, recorded, recorded_with, recorded_if, recorded_after, recorded_run, after_or, device_event, replayed, replay, Fits, IsLegal, Served, Parted, event_of, replied_with, served_as, parted_as, served_event, served, lost}
use Rattle.nm_history.specs.Effect.{noted_effect}
use Rattle.nm_history.specs.Whole.{Becomes, began_after, began_of, IsWhole}
use Rattle.nm_history.specs.Locks.{asker, Respects, Spares, RespectsLocks}
use Rattle.nm_history.specs.Leads.{Leads}
use Rattle.nm_history.proofs.Keeping.{event_keeps}

-- ---- what is served is what an event does

-- the event that is served, and what it does
pub record IsServed {Config TheEdit Node : Type 0} (m : Meaning Config TheEdit Node) (tables : TablesState TheEdit) (r : RecordedState Config Node) (session : Option ℕ) (request : Request) (s : Served Config Node) : Type 0 where
  pub event : DeviceEvent
  pub h : Happened Config Node
  pub event_is : event_of session request ≡ Some event
  pub happens : device_event m tables r.device event ≡ Some h
  pub replies : h.reply ≡ Some s.reply
  pub after_is : s.after ≡ recorded_with r event h

module _ {Config TheEdit Node : Type 0} (m : Meaning Config TheEdit Node) (tables : TablesState TheEdit) (r : RecordedState Config Node) (session : Option ℕ) (request : Request) (s : Served Config Node) where
  replied_is : (event : DeviceEvent) (h : Happened Config Node) (reply : Option Reply) → event_of session request ≡ Some event → device_event m tables r.device event ≡ Some h → h.reply ≡ reply
      → replied_with r event h reply ≡ Some s → IsServed m tables r session request s
  replied_is event h None asks happens replies e = absurd (none-some s e)
  replied_is event h (Some reply) asks happens replies e =
      let made : Served Config Node = record { reply = reply; undone = h.undone; after = recorded_with r event h } in
      subst (IsServed m tables r session request) (same_Some made s e)
      (record { event = event; h = h; event_is = asks; happens = happens; replies = replies; after_is = refl })

  happened_is : (event : DeviceEvent) (done : Option (Happened Config Node)) → event_of session request ≡ Some event → device_event m tables r.device event ≡ done
      → served_as r event done ≡ Some s → IsServed m tables r session request s
  happened_is event None asks happens e = absurd (none-some s e)
  happened_is event (Some h) asks happens e = replied_is event h h.reply asks happens refl e

  event_is_served : (event : Option DeviceEvent) → event_of session request ≡ event → served_event m tables r event ≡ Some s → IsServed m tables r session request s
  event_is_served None asks e = absurd (none-some s e)
  event_is_served (Some event) asks e = happened_is event (device_event m tables r.device event) asks refl e

  pub is_served : served m tables r session request ≡ Some s → IsServed m tables r session request s
  is_served e = event_is_served (event_of session request) refl e

-- ---- histories

module _ {Config TheEdit Node : Type 0} (m : Meaning Config TheEdit Node) (laws : Laws m) (tables : TablesState TheEdit) where
  replay_push : (s : DeviceState Config Node) (history : List Noted) (entry : Noted) → replay m tables s (history ++ entry ∷ []) ≡ replayed m tables (replay m tables s history) entry
  replay_push s [] entry = refl
  replay_push s (first ∷ history) entry = replay_push (replayed m tables s first) history entry

  legal_push : (s : DeviceState Config Node) (history : List Noted) (entry : Noted) → IsLegal m tables s history
      → Fits entry (device_event m tables (replay m tables s history) entry.event) → IsLegal m tables s (history ++ entry ∷ [])
  legal_push s [] entry legal fits = (fits, tt)
  legal_push s (first ∷ history) entry legal fits = (legal.0, legal_push (replayed m tables s first) history entry legal.1 fits)

  -- what is kept of a device is what an entry that happened makes of it
  began_so : (s : DeviceState Config Node) (entry : Noted) (done : Option (Happened Config Node)) → device_event m tables s entry.event ≡ done → Fits entry done
      → began_of (after_or s done).pending ≡ began_after s.stores.running (began_of s.pending) (noted_effect entry)
  began_so s entry None e fits = absurd fits
  began_so s entry (Some h) e fits = (event_keeps m laws tables s entry.event h e).moved.began ∙ ap (λ (one : Noted). began_after s.stores.running (began_of s.pending) (noted_effect one)) (sym fits)

  -- what is kept stays what the device keeps, entry by entry
  pub began_next : (s : DeviceState Config Node) (began : Option Config) (entry : Noted) → began ≡ began_of s.pending → Fits entry (device_event m tables s entry.event)
      → began_after s.stores.running began (noted_effect entry) ≡ began_of (replayed m tables s entry).pending
  began_next s began entry is fits = ap (λ (o : Option Config). began_after s.stores.running o (noted_effect entry)) is ∙ sym (began_so s entry (device_event m tables s entry.event) refl fits)

  whole_push : (s : DeviceState Config Node) (began : Option Config) (history : List Noted) (entry : Noted) → began ≡ began_of s.pending → IsLegal m tables s history → IsWhole m tables s began history
      → let last = replay m tables s history in Becomes last (began_of last.pending) (noted_effect entry) (replayed m tables last entry).stores.running
      → m.violation (replayed m tables last entry).stores.running ≡ None → IsWhole m tables s began (history ++ entry ∷ [])
  whole_push s began [] entry is legal whole moves valid =
      (whole, subst (λ (o : Option Config). Becomes s o (noted_effect entry) (replayed m tables s entry).stores.running) (sym is) moves, valid)
  whole_push s began (first ∷ history) entry is legal whole moves valid =
      (whole.0, whole.1, whole_push (replayed m tables s first) (began_after s.stores.running began (noted_effect first)) history entry (began_next s began first is legal.0) legal.1 whole.2 moves valid)

  locks_push : (s : DeviceState Config Node) (history : List Noted) (entry : Noted) → RespectsLocks m tables s history
      → (let last = replay m tables s history in Respects m last (asker entry) (replayed m tables last entry).stores.running)
      → (let last = replay m tables s history in Spares m last entry.undone (replayed m tables last entry).stores.running) → RespectsLocks m tables s (history ++ entry ∷ [])
  locks_push s [] entry locks respects spares = (respects, spares, tt)
  locks_push s (first ∷ history) entry locks respects spares = (locks.0, locks.1, locks_push (replayed m tables s first) history entry locks.2 respects spares)

  pushed : (first : DeviceState Config Node) (r : RecordedState Config Node) (event : DeviceEvent) (done : Option (Happened Config Node)) → device_event m tables r.device event ≡ done
      → Leads m tables first r → Leads m tables first (recorded_if r event done)
  pushed first r event None e leads = leads
  pushed first r event (Some h) e leads =
      let entry = noted event h in
      let last = replay m tables first r.history in
      let at : device_event m tables last event ≡ Some h = ap (λ s. device_event m tables s event) leads.reaches ∙ e in
      let after : replayed m tables last entry ≡ h.after = ap (after_or last) at in
      let st : IsSteady m last = subst (IsSteady m) (sym leads.reaches) leads.steady in
      let k = event_keeps m laws tables last event h at in
      let now = k.steady st in
      record {
        legal = legal_push first r.history entry leads.legal (subst (Fits entry) (sym at) refl);
        whole = whole_push first (began_of first.pending) r.history entry refl leads.legal leads.whole
            (subst (λ (s : DeviceState Config Node). Becomes last (began_of last.pending) (noted_effect entry) s.stores.running) (sym after) k.moved.moves)
            (ap (λ (s : DeviceState Config Node). m.violation s.stores.running) after ∙ now.valid);
        locks = locks_push first r.history entry leads.locks
            (subst (λ (s : DeviceState Config Node). Respects m last (asker entry) s.stores.running) (sym after) k.respects)
            (subst (λ (s : DeviceState Config Node). Spares m last entry.undone s.stores.running) (sym after) (k.spares st));
        reaches = replay_push first r.history entry ∙ after;
        steady = now;
      }

  -- what happens keeps a history legal and whole
  pub leads_push : (first : DeviceState Config Node) (r : RecordedState Config Node) (event : DeviceEvent) → Leads m tables first r → Leads m tables first (recorded_after m tables r event)
  leads_push first r event leads = pushed first r event (device_event m tables r.device event) refl leads

  pub leads_run : (first : DeviceState Config Node) (r : RecordedState Config Node) (events : List DeviceEvent) → Leads m tables first r → Leads m tables first (recorded_run m tables r events)
  leads_run first r [] leads = leads
  leads_run first r (event ∷ events) leads = leads_run first (recorded_after m tables r event) events (leads_push first r event leads)

  -- a device begins with nothing
  pub leads_none : (running : Config) → m.violation running ≡ None → Leads m tables (fresh_device running) (recorded running)
  leads_none running valid = record { legal = tt; whole = valid; locks = tt; reaches = refl; steady = record { valid = valid; before_valid = tt; guarded = tt } }

  -- whatever happens at a fresh device
  pub every_history : (running : Config) (events : List DeviceEvent) → m.violation running ≡ None → Leads m tables (fresh_device running) (recorded_run m tables (recorded running) events)
  every_history running events valid = leads_run (fresh_device running) (recorded running) events (leads_none running valid)

  -- what is served keeps a history so
  pub served_leads : (first : DeviceState Config Node) (r : RecordedState Config Node) (session : Option ℕ) (request : Request) (s : Served Config Node)
      → served m tables r session request ≡ Some s → Leads m tables first r → Leads m tables first s.after
  served_leads first r session request s e leads =
      let is = is_served m tables r session request s e in
      subst (Leads m tables first) (sym is.after_is) (pushed first r is.event (Some is.h) is.happens leads)

  parted_leads : (first : DeviceState Config Node) (r : RecordedState Config Node) (session : ℕ) (done : Option (Happened Config Node)) (parted : Parted Config Node)
      → loss_of m r.device session ≡ done → parted_as r (Lost session) done ≡ Some parted → Leads m tables first r → Leads m tables first parted.after
  parted_leads first r session None parted happens e leads = absurd (none-some parted e)
  parted_leads first r session (Some h) parted happens e leads =
      let made : Parted Config Node = record { undone = h.undone; after = recorded_with r (Lost session) h } in
      subst (λ (now : Parted Config Node). Leads m tables first now.after) (same_Some made parted e) (pushed first r (Lost session) (Some h) happens leads)

  -- and so does a loss
  pub lost_leads : (first : DeviceState Config Node) (r : RecordedState Config Node) (session : ℕ) (parted : Parted Config Node)
      → lost m r session ≡ Some parted → Leads m tables first r → Leads m tables first parted.after
  lost_leads first r session parted e leads = parted_leads first r session (loss_of m r.device session) parted refl e leads
