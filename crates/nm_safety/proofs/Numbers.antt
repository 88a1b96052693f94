-- A session opens at a device only where one is asked for.
use Rattle.std.proofs.Common.{◌≡◌, ◌∙◌, ℕ, ◌+◌, ◌≤◌, ◌<◌, ◌==◌, List, Bool, true, false, cond, Option, Some, None, refl, sym, ap, subst, arith, if◌then◌else◌}
use Rattle.std.proofs.lemmas.Bool.Decides.{nat_tests}
use Rattle.std.proofs.lemmas.Option.{same_Some}
use Rattle.nm_proto.specs.Content.{Meaning, TablesState}
use Rattle.nm_sessions.specs.Sessions.{user_of, is_open, next_id, entered}
use Rattle.nm_sessions.proofs.SessionLemmas.{user_of-entered}
use Rattle.nm_pending.specs.Pending.{ends_with, ends_at}
use Rattle.nm_device.specs.Device.{DeviceState, Stepped}
use Rattle.nm_device.specs.Undoing.{left_by, later, emptied, ended}
use Rattle.nm_device.specs.Table.{open_with}
use Rattle.nm_history.specs.declared.event.DeviceEvent.{DeviceEvent}
use Rattle.nm_history.specs.declared.event.DeviceEvent.TheVariants.{Entered, Asked, Lost, Advanced, Restarted}
use Rattle.nm_history.specs.History.{Happened, entering, advancing, restarting}
use Rattle.nm_device_laws.specs.Moment.{Happens}
use Rattle.nm_device_laws.specs.Numbered.{IsNumbered}
use Rattle.nm_device_laws.proofs.Acts.{Acts, step_acts}
use Rattle.nm_device_laws.proofs.Events.{undone_keeps, undone_if_keeps, is_asked, lost_does}
use Rattle.nm_device_laws.proofs.Numbers.{fresh_number, open_entered}

-- a session is asked for
abbrev pub is_entry : DeviceEvent → Bool
is_entry (Entered user) = true
is_entry _ = false

module _ {Config TheEdit Node : Type 0} (m : Meaning Config TheEdit Node) (tables : TablesState TheEdit) (s : DeviceState Config Node) where
  abbrev NoMore : DeviceState Config Node → Type 0
  NoMore t = t.sessions.last ≤ s.sessions.last

  stays : s.sessions.last ≤ s.sessions.last
  stays = omega arith

  left_no_more : (other : ℕ) → NoMore (ended m s other)
  left_no_more other = undone_if_keeps m tables s NoMore (left_by s other) (ends_with s.pending other) stays (λ p e. stays)

  no_more_acts : (session : ℕ) → Acts m tables s session (λ (stepped : Stepped Config Node). NoMore stepped.after)
  no_more_acts session = record {
    same = λ reply. stays;
    taken = λ held least free. stays;
    candidate_taken = λ held same. stays;
    freed = λ store own. stays;
    parts_taken = λ id nodes held free. stays;
    parts_freed = λ id. stays;
    edited = λ config free. stays;
    dropped = λ free. stays;
    left = left_no_more;
    taken_back = λ free. undone_keeps m tables s NoMore s stays (λ p e. stays);
    committed = λ form passed free. stays;
  }

  -- no number is given where no session is asked for
  pub no_more : (event : DeviceEvent) (h : Happened Config Node) → Happens m tables s event h → is_entry event ≡ false → NoMore h.after
  no_more (Entered user) h e other = absurd (let g : true ≡ false = other in cc)
  no_more (Asked session request) h e other =
      subst (λ (one : Happened Config Node). NoMore one.after) (is_asked m tables s session request h e).does
      (step_acts m tables s session (λ (stepped : Stepped Config Node). NoMore stepped.after) (no_more_acts session) request)
  no_more (Lost session) h e other = subst (λ (one : Happened Config Node). NoMore one.after) (lost_does m tables s session h e) (left_no_more session)
  no_more (Advanced seconds) h e other =
      subst (λ (one : Happened Config Node). NoMore one.after) (same_Some (advancing m s seconds) h e)
      (undone_if_keeps m tables s NoMore (later s seconds) (ends_at s.pending (s.clock + seconds)) stays (λ p e. stays))
  no_more Restarted h e other =
      subst (λ (one : Happened Config Node). NoMore one.after) (same_Some (restarting m s) h e) (undone_keeps m tables s NoMore (emptied s) stays (λ p e. stays))

-- ---- an opening

-- who is open then and wasn't before is the one that asked, under the next number
pub record IsNew {Config Node : Type 0} (s : DeviceState Config Node) (user : List ℕ) (now : DeviceState Config Node) (session : ℕ) : Type 0 where
  pub number : session ≡ s.sessions.last + 1
  pub user_is : user_of now.sessions session ≡ Some user

module _ {Config Node : Type 0} (s : DeviceState Config Node) (n : IsNumbered s) (user : List ℕ) where
  not_before : (session : ℕ) → is_open s.sessions session ≡ true → s.sessions.last < session → ⊥
  not_before session is above = let within : session ≤ s.sessions.last = n.opened session is in absurd (omega (arith, within, above))

  new_by : (session : ℕ) → is_open (entered s.sessions user) session ≡ true → s.sessions.last < session → (b : Bool) → (session == s.sessions.last + 1) ≡ b
      → (session ≡ s.sessions.last + 1) × (user_of (entered s.sessions user) session ≡ Some user)
  new_by session is above true e = (number session (s.sessions.last + 1) e, user_of-entered s.sessions user session (fresh_number s n) ∙ ap (λ (b : Bool). cond b (Some user) (user_of s.sessions session)) e)
    where
      number : (a b : ℕ) → (a == b) ≡ true → a ≡ b
      number a b e = grind (arith, nat_tests)
  new_by session is above false e =
      absurd (not_before session (sym (open_entered s.sessions user session (fresh_number s n) ∙ ap (λ (b : Bool). if b then true else is_open s.sessions session) e) ∙ is) above)

  new_opened : (next : Option ℕ) (session : ℕ) → is_open (open_with s next user).after.sessions session ≡ true → s.sessions.last < session → IsNew s user (open_with s next user).after session
  new_opened None session is above = absurd (not_before session is above)
  new_opened (Some id) session is above =
      let new = new_by session is above (session == s.sessions.last + 1) refl in record { number = new.0; user_is = new.1 }

  pub new_entered : {TheEdit : Type 0} (m : Meaning Config TheEdit Node) (tables : TablesState TheEdit) (h : Happened Config Node) → Happens m tables s (Entered user) h
      → (session : ℕ) → is_open h.after.sessions session ≡ true → s.sessions.last < session → IsNew s user h.after session
  new_entered m tables h e session =
      subst (λ (one : Happened Config Node). is_open one.after.sessions session ≡ true → s.sessions.last < session → IsNew s user one.after session) (same_Some (entering s user) h e)
      (new_opened (next_id s.sessions) session)
