-- Who has a session keeps it, and nobody else gets it.
use Rattle.std.proofs.Common.{◌≡◌, ℕ, ◌≤◌, true, refl}
use Rattle.nm_proto.specs.Content.{Meaning, TablesState}
use Rattle.nm_sessions.specs.Sessions.{user_of, is_open}
use Rattle.nm_device.specs.Device.{DeviceState, Stepped}
use Rattle.nm_history.specs.declared.event.DeviceEvent.{DeviceEvent}
use Rattle.nm_history.specs.History.{Happened}
use Rattle.nm_device_laws.specs.Moment.{Happens}
use Rattle.nm_device_laws.specs.Numbered.{IsNumbered}
use Rattle.nm_device_laws.specs.Keeps.{KeepsFor}
use Rattle.nm_device_laws.proofs.Acts.{Acts, step_acts}
use Rattle.nm_device_laws.proofs.Events.{undone_keeps, Moves, event_moves}
use Rattle.nm_device_laws.proofs.Keeping.{kept_moves}

module _ {Config TheEdit Node : Type 0} (m : Meaning Config TheEdit Node) (tables : TablesState TheEdit) (s : DeviceState Config Node) (n : IsNumbered s) (t : ℕ) where
  abbrev KeepsUser : DeviceState Config Node → Type 0
  KeepsUser now = is_open now.sessions t ≡ true → t ≤ s.sessions.last → user_of now.sessions t ≡ user_of s.sessions t

  so : (now : DeviceState Config Node) → KeepsFor t s now → KeepsUser now
  so now k is within = (k.kept is).user within

  same : KeepsUser s
  same is within = refl

  user_moves : Moves m tables s KeepsUser
  user_moves =
      let moves = kept_moves m tables s n t in
      record {
        same = same;
        entered_by = λ user. so _ (moves.entered_by user);
        left = λ other. so _ (moves.left other);
        risen = λ seconds. so _ (moves.risen seconds);
        started = so _ moves.started;
      }

  user_acts : (session : ℕ) → Acts m tables s session (λ (stepped : Stepped Config Node). KeepsUser stepped.after)
  user_acts session = record {
    same = λ reply. same;
    taken = λ held least free. same;
    candidate_taken = λ held unmodified. same;
    freed = λ store own. same;
    parts_taken = λ id nodes held free. same;
    parts_freed = λ id. same;
    edited = λ config free. same;
    dropped = λ free. same;
    left = user_moves.left;
    taken_back = λ free. undone_keeps m tables s KeepsUser s same (λ p e. same);
    committed = λ form passed free. same;
  }

  pub users_kept : (event : DeviceEvent) (h : Happened Config Node) → Happens m tables s event h → KeepsUser h.after
  users_kept event h e = event_moves m tables s KeepsUser user_moves event h e
      (λ session request asked is. step_acts m tables s session (λ (stepped : Stepped Config Node). KeepsUser stepped.after) (user_acts session) request)
