-- What is kept of a change set that is to be aborted, where something happens at a device that it doesn't ask for.
use Rattle.std.proofs.Common.{◌≡◌, ◌∙◌, ℕ, ◌≤◌, ◌==◌, Bool, true, false, List, Some, is_some, slice_get, slice_set, refl, sym, ap, subst, arith}
use Rattle.std.proofs.lemmas.Bool.Decides.{nat_tests}
use Rattle.std.proofs.lemmas.Option.{none-some}
use Rattle.nm_base.specs.Token.{token_of}
use Rattle.nm_proto.specs.declared.journal.Entry.{Entry}
use Rattle.nm_proto.specs.Content.{Meaning, TablesState}
use Rattle.nm_proto.specs.Plan.{devices_in}
use Rattle.nm_sessions.specs.Sessions.{is_open}
use Rattle.nm_device.specs.Device.{DeviceState}
use Rattle.nm_history.specs.declared.event.DeviceEvent.{DeviceEvent}
use Rattle.nm_history.specs.declared.event.DeviceEvent.TheVariants.{Entered, Asked, Lost, Advanced, Restarted}
use Rattle.nm_history.specs.Outcome.{is_pending}
use Rattle.nm_history.specs.History.{Happened, RecordedState, noted, recorded_with}
use Rattle.nm_device_laws.specs.Moment.{Happens}
use Rattle.nm_device_laws.specs.Keeps.{KeepsOpen, is_asker}
use Rattle.nm_device_laws.specs.Numbered.{IsNumbered}
use Rattle.nm_device_laws.specs.Token.{KeepsToken, leaves_token}
use Rattle.nm_device_laws.proofs.Events.{is_asked}
use Rattle.nm_device_laws.proofs.Keeping.{session_kept}
use Rattle.nm_device_laws.proofs.Tokens.{token_kept}
use Rattle.nm_wire.specs.Link.{session_of}
use Rattle.nm_manager.specs.Slot.{SideState, SlotState}
use Rattle.nm_safety.specs.Pair.{first_link}
use Rattle.nm_safety.specs.Support.{IsDevice, IsKept, Owners}
use Rattle.nm_safety.proofs.Lists.{to_some}
use Rattle.nm_safety.proofs.Others.{first_is_owned}
use Rattle.nm_world.specs.World.{Setting, WorldState}
use Rattle.nm_safety.specs.Keeping.{IsOthers, Site}
use Rattle.nm_safety.proofs.EachLink.{owned_at}
use Rattle.nm_outcome_laws.specs.AbortsSupport.{IsGone, OfAborted, is_over}
use Rattle.nm_outcome_laws.proofs.aborts.Slots.{moved_aborts}

pub same_nat : (a b : ℕ) → (a == b) ≡ true → a ≡ b
same_nat a b e = grind (arith, nat_tests)

-- ---- a session that isn't open never is again

module _ {Config TheEdit Node : Type 0} (m : Meaning Config TheEdit Node) (tables : TablesState TheEdit) (s : DeviceState Config Node)
    (numbered : IsNumbered s) (t : ℕ) (within : t ≤ s.sessions.last) (closed : is_open s.sessions t ≡ false)
    (event : DeviceEvent) (h : Happened Config Node) (happens : Happens m tables s event h) where
  open_after : is_asker event t ≡ false → (b : Bool) → is_open h.after.sessions t ≡ b → b ≡ false
  open_after other false e = refl
  open_after other true e =
      let kept : KeepsOpen t s h.after = (session_kept m tables s numbered t event h happens other).kept e in
      sym e ∙ ap is_some (kept.user within) ∙ closed

  -- who asks is open
  asks_open : (one : DeviceEvent) → event ≡ one → is_asker one t ≡ true → ⊥
  asks_open (Asked session request) is e =
      let same : session ≡ t = same_nat session t e in
      let opened : is_open s.sessions session ≡ true =
      (is_asked m tables s session request h (subst (λ one. Happens m tables s one h) is happens)).asker in
      absurd (let g : false ≡ true = sym closed ∙ ap (is_open s.sessions) (sym same) ∙ opened in cc)
  asks_open (Entered user) is e = absurd (let g : false ≡ true = e in cc)
  asks_open (Lost session) is e = absurd (let g : false ≡ true = e in cc)
  asks_open (Advanced seconds) is e = absurd (let g : false ≡ true = e in cc)
  asks_open Restarted is e = absurd (let g : false ≡ true = e in cc)

  by_asker : (b : Bool) → is_asker event t ≡ b → is_open h.after.sessions t ≡ false
  by_asker true e = absurd (asks_open event refl e)
  by_asker false e = open_after e (is_open h.after.sessions t) refl

  pub stays_closed : is_open h.after.sessions t ≡ false
  stays_closed = by_asker (is_asker event t) refl

-- ---- a change set whose token isn't named

module _ {Config TheEdit Node : Type 0} (m : Meaning Config TheEdit Node) (setting : Setting TheEdit) (change members : ℕ)
    (entries : List Entry) (owners : ℕ → Owners) (devices : List (RecordedState Config Node)) (slot : SlotState)
    (k : IsKept change members entries owners devices slot) (d : ℕ) (r : RecordedState Config Node)
    (here : slice_get devices d ≡ Some r) (device : IsDevice m (owners d) r) (side : SideState)
    (there : slice_get slot.sides d ≡ Some side) where
  -- the session of the first link was opened before
  pub first_opened : (t : ℕ) → session_of (first_link side.wire) ≡ Some t → t ≤ r.device.sessions.last
  first_opened =
      first_is_owned (λ link. (t : ℕ) → session_of link ≡ Some t → t ≤ r.device.sessions.last) side.wire.links
      (λ t e. absurd (none-some t e))
      (to_some (λ link. (t : ℕ) → session_of link ≡ Some t → t ≤ r.device.sessions.last) (slice_get side.wire.links 0)
      (λ link found. (owned_at change members entries owners devices slot k d r here side there 0 link found).opened))

  module _ (event : DeviceEvent) (h : Happened Config Node) (happens : Happens m setting.tables r.device event h) where
    pub gone_other : leaves_token (token_of change) r.device event ≡ true → IsGone (token_of change) (first_link side.wire) r
        → IsGone (token_of change) (first_link side.wire) (recorded_with r event h)
    gone_other leaves gone =
        let kept : KeepsToken (token_of change) r.device (noted event h) h.after =
        token_kept m setting.tables (token_of change) r.device event h happens leaves in
        record {
          outcome = ap is_pending (kept.settled r.history gone.outcome) ∙ gone.outcome;
          shut = λ t some at.
              stays_closed m setting.tables r.device device.numbered t (first_opened t at) (gone.shut t some at) event h happens;
        }

-- ---- all devices of it

-- something happens at a device that the change set doesn't ask for
pub aside_aborts : {Config TheEdit Node : Type 0} (m : Meaning Config TheEdit Node) (setting : Setting TheEdit) (B : WorldState Config Node → Type 0)
    (x : Site m setting B) (d : ℕ) (r : RecordedState Config Node) → slice_get x.w.devices d ≡ Some r → IsDevice m (x.owners d) r
    → (event : DeviceEvent) (h : Happened Config Node) → Happens m setting.tables r.device event h → IsOthers x.change (x.owners d) r event
    → OfAborted x.change x.plan x.w.entries x.w.devices x.slot
    → OfAborted x.change x.plan x.w.entries (slice_set x.w.devices d (recorded_with r event h)) x.slot
aside_aborts m setting B x d r here known event h happens others a =
    moved_aborts (devices_in x.plan.edits) (is_over x.change x.w.entries) (token_of x.change) x.w.devices x.slot a d r (recorded_with r event h) here
    (λ side at_side.
    gone_other m setting x.change (devices_in x.plan.edits) x.w.entries x.owners x.w.devices x.slot x.kept d r here known side at_side event h happens
    others.token)
