-- A session ends at a device: no other opens.
use Rattle.std.proofs.Common.{◌≡◌, ◌∙◌, ◌==◌, ℕ, Bool, true, false, Option, Some, None, IfSome, refl, sym, ap, subst, if◌then◌else◌}
use Rattle.std.proofs.lemmas.Bool.{cond_both}
use Rattle.std.proofs.lemmas.Bool.Decides.{Decides-eqb}
use Rattle.std.proofs.lemmas.Option.{none-some, same_Some}
use Rattle.nm_proto.specs.Content.{Meaning, TablesState}
use Rattle.nm_sessions.specs.Sessions.{SessionsState, is_open}
use Rattle.nm_pending.specs.Pending.{PendingState, ends_with}
use Rattle.nm_device.specs.Device.{DeviceState}
use Rattle.nm_device.specs.Undoing.{undone_by, undone, undone_if, left_by}
use Rattle.nm_history.specs.declared.event.DeviceEvent.TheVariants as device_event
use Rattle.nm_history.specs.History.{Happened, RecordedState, Parted, recorded_with, losing, happened_if, parted_as, lost}
use Rattle.nm_device_laws.specs.Moment.{Happens}
use Rattle.nm_device_laws.proofs.Numbers.{open_left}
use Rattle.nm_rest_laws.proofs.rest.Closer.{Fewer}

still : (b o : Bool) → (if b then false else o) ≡ true → o ≡ true
still true o e = absurd (let f : false ≡ true = e in cc)
still false o e = e

module _ {Config TheEdit Node : Type 0} (m : Meaning Config TheEdit Node) where
  sessions_of_undone : (s : DeviceState Config Node) (p : Option (PendingState Config)) → (undone_by m s p).sessions ≡ s.sessions
  sessions_of_undone s None = refl
  sessions_of_undone s (Some p) = refl

  sessions_then : (s : DeviceState Config Node) (undoes : Bool) → (undone_if m s undoes).sessions ≡ s.sessions
  sessions_then s undoes = cond_both undoes (undone m s) s (λ (one : DeviceState Config Node). one.sessions ≡ s.sessions) (λ _. sessions_of_undone s s.pending) (λ _. refl)

  module _ (r : RecordedState Config Node) (session : ℕ) where
    abbrev pub without_it : RecordedState Config Node
    without_it = recorded_with r (device_event.Lost session) (losing m r.device session)

    open_then : (other : ℕ) → is_open without_it.device.sessions other ≡ (if other == session then false else is_open r.device.sessions other)
    open_then other = ap (λ (now : SessionsState). is_open now other) (sessions_then (left_by r.device session) (ends_with r.device.pending session)) ∙ open_left r.device.sessions session other

    pub fewer_then : Fewer r without_it
    fewer_then other is = still (other == session) (is_open r.device.sessions other) (sym (open_then other) ∙ is)

    pub closed_there : is_open without_it.device.sessions session ≡ false
    closed_there = open_then session ∙ ap (λ (b : Bool). if b then false else is_open r.device.sessions session) ((Decides-eqb session session).1 refl)

    -- what is lost is so
    pub lost_fewer : IfSome (lost m r session) (λ (parted : Parted Config Node). Fewer r parted.after)
    lost_fewer = cond_both (is_open r.device.sessions session) (Some (losing m r.device session)) None
        (λ (o : Option (Happened Config Node)). IfSome (parted_as r (device_event.Lost session) o) (λ (parted : Parted Config Node). Fewer r parted.after)) (λ _. fewer_then) (λ _. tt)

    pub lost_is : is_open r.device.sessions session ≡ true → lost m r session ≡ Some (record { undone = (losing m r.device session).undone; after = without_it })
    lost_is e = ap (λ (b : Bool). parted_as r (device_event.Lost session) (happened_if b (losing m r.device session))) e

    closed_by : (h : Happened Config Node) (b : Bool) → happened_if b (losing m r.device session) ≡ Some h → is_open h.after.sessions session ≡ false
    closed_by h true e = subst (λ (one : Happened Config Node). is_open one.after.sessions session ≡ false) (same_Some (losing m r.device session) h e) closed_there
    closed_by h false e = absurd (none-some h e)

    pub lost_closed : (tables : TablesState TheEdit) (h : Happened Config Node) → Happens m tables r.device (device_event.Lost session) h → is_open h.after.sessions session ≡ false
    lost_closed tables h happens = closed_by h (is_open r.device.sessions session) happens
