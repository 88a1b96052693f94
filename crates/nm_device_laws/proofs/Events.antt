-- What each event leaves so: a request of an open session, the end of one, and what nobody asks for.
use Rattle.std.proofs.Common.{◌≡◌, ℕ, List, Bool, true, false, not, ◌&&◌, Option, Some, None, refl, subst}
use Rattle.std.proofs.lemmas.Bool.{cond_both}
use Rattle.std.proofs.lemmas.Option.{cond_some, same_Some}
use Rattle.nm_proto.specs.declared.message.Request.{Request}
use Rattle.nm_proto.specs.Content.{Meaning, TablesState}
use Rattle.nm_sessions.specs.Sessions.{next_id, entered, is_open}
use Rattle.nm_pending.specs.Pending.{PendingState}
use Rattle.nm_device.specs.Device.{DeviceState}
use Rattle.nm_device.specs.Undoing.{undone_by, undone, undone_if, ended, advanced, restarted}
use Rattle.nm_device.specs.Table.{open_with, device_step, is_opening}
use Rattle.nm_history.specs.declared.event.DeviceEvent.{DeviceEvent}
use Rattle.nm_history.specs.declared.event.DeviceEvent.TheVariants.{Entered, Asked, Lost, Advanced, Restarted}
use Rattle.nm_history.specs.History.{Happened, entering, answered, losing, advancing, restarting}
use Rattle.nm_history.specs.Effect.{is_done_reply}
use Rattle.nm_device_laws.specs.Moment.{Happens}

-- a session asks this, and it is answered Done
pub record IsDone {Config TheEdit Node : Type 0} (m : Meaning Config TheEdit Node) (tables : TablesState TheEdit) (s : DeviceState Config Node) (session : ℕ) (request : Request) (h : Happened Config Node) : Type 0 where
  pub happens : Happens m tables s (Asked session request) h
  pub done : is_done_reply h.reply ≡ true

both_true : (a b : Bool) → (a && b) ≡ true → a ≡ true
both_true true b e = refl
both_true false b e = cc

module _ {Config TheEdit Node : Type 0} (m : Meaning Config TheEdit Node) (tables : TablesState TheEdit) (s : DeviceState Config Node) where
  -- a request that happens is that of an open session, and does what the table says
  pub record IsAsked (session : ℕ) (request : Request) (h : Happened Config Node) : Type 0 where
    pub asker : is_open s.sessions session ≡ true
    pub does : answered s request (device_step m tables s session request) ≡ h

  pub is_asked : (session : ℕ) (request : Request) (h : Happened Config Node) → Happens m tables s (Asked session request) h → IsAsked session request h
  is_asked session request h e =
      let c = cond_some (is_open s.sessions session && not (is_opening request)) (answered s request (device_step m tables s session request)) h e in
      record { asker = both_true (is_open s.sessions session) (not (is_opening request)) c.0; does = c.1 }

  pub lost_does : (session : ℕ) (h : Happened Config Node) → Happens m tables s (Lost session) h → losing m s session ≡ h
  lost_does session h e = (cond_some (is_open s.sessions session) (losing m s session) h e).1

  -- ---- what holds after each event

  -- what holds of a device of a device that something undid
  undone_by_keeps : (P : DeviceState Config Node → Type 0) (t : DeviceState Config Node) → P t
      → ((p : PendingState Config) → t.pending ≡ Some p → P (undone_by m t (Some p))) → (pending : Option (PendingState Config)) → t.pending ≡ pending → P (undone_by m t pending)
  undone_by_keeps P t same back None e = same
  undone_by_keeps P t same back (Some p) e = back p e

  pub undone_keeps : (P : DeviceState Config Node → Type 0) (t : DeviceState Config Node) → P t
      → ((p : PendingState Config) → t.pending ≡ Some p → P (undone_by m t (Some p))) → P (undone m t)
  undone_keeps P t same back = undone_by_keeps P t same back t.pending refl

  pub undone_if_keeps : (P : DeviceState Config Node → Type 0) (t : DeviceState Config Node) (undoes : Bool) → P t
      → ((p : PendingState Config) → t.pending ≡ Some p → P (undone_by m t (Some p))) → P (undone_if m t undoes)
  undone_if_keeps P t undoes same back = cond_both undoes (undone m t) t P (λ _. undone_keeps P t same back) (λ _. same)

  -- the changes that events are made of which no session asks for
  pub record Moves (P : DeviceState Config Node → Type 0) : Type 0 where
    pub same : P s
    pub entered_by : (user : List ℕ) → P (record s { sessions = entered s.sessions user })
    pub left : (other : ℕ) → P (ended m s other)
    pub risen : (seconds : ℕ) → P (advanced m s seconds)
    pub started : P (restarted m s)

  entering_keeps : (P : DeviceState Config Node → Type 0) → Moves P → (user : List ℕ) (id : Option ℕ) → P (open_with s id user).after
  entering_keeps P c user None = c.same
  entering_keeps P c user (Some id) = c.entered_by user

  -- it holds after each event, where it does after each request
  pub event_moves : (P : DeviceState Config Node → Type 0) → Moves P
      → (event : DeviceEvent) (h : Happened Config Node) → Happens m tables s event h
      → ((session : ℕ) (request : Request) → event ≡ Asked session request → is_open s.sessions session ≡ true → P (device_step m tables s session request).after)
      → P h.after
  event_moves P c (Entered user) h e asked = subst (λ (one : Happened Config Node). P one.after) (same_Some (entering s user) h e) (entering_keeps P c user (next_id s.sessions))
  event_moves P c (Asked session request) h e asked =
      let is = is_asked session request h e in subst (λ (one : Happened Config Node). P one.after) is.does (asked session request refl is.asker)
  event_moves P c (Lost session) h e asked = subst (λ (one : Happened Config Node). P one.after) (lost_does session h e) (c.left session)
  event_moves P c (Advanced seconds) h e asked = subst (λ (one : Happened Config Node). P one.after) (same_Some (advancing m s seconds) h e) (c.risen seconds)
  event_moves P c Restarted h e asked = subst (λ (one : Happened Config Node). P one.after) (same_Some (restarting m s) h e) c.started
