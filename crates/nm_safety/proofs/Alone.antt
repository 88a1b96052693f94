-- What is kept of a device by itself, whatever happens at it.
use Rattle.std.proofs.Common.{◌≡◌, ◌∙◌, ℕ, ◌+◌, ◌≤◌, ◌<◌, nat_le, List, Bool, true, false, Option, Some, None, is_some, refl, sym, ap, subst, arith}
use Rattle.std.specs.List.{All}
use Rattle.std.proofs.lemmas.Bool.Decides.{nat_tests}
use Rattle.std.proofs.lemmas.Option.{same_Some}
use Rattle.nm_proto.specs.Content.{Meaning, Laws, TablesState}
use Rattle.nm_sessions.specs.Sessions.{user_of, is_open, next_id}
use Rattle.nm_device.specs.Device.{DeviceState, is_manager}
use Rattle.nm_device.specs.Table.{open_with}
use Rattle.nm_device.proofs.Belonging.{Belongs, ended_belongs, advanced_belongs, restarted_belongs, step_belongs}
use Rattle.nm_history.specs.declared.event.DeviceEvent.{DeviceEvent}
use Rattle.nm_history.specs.declared.event.DeviceEvent.TheVariants.{Entered, Asked, Lost, Advanced, Restarted}
use Rattle.nm_history.specs.History.{Happened, RecordedState, entering, advancing, restarting, recorded_with}
use Rattle.nm_device_laws.specs.Moment.{Happens}
use Rattle.nm_device_laws.specs.Numbered.{IsNumbered}
use Rattle.nm_device_laws.proofs.Events.{is_asked, lost_does}
use Rattle.nm_device_laws.proofs.Numbers.{numbers_keep}
use Rattle.nm_device_laws.proofs.Tells.{pending_told}
use Rattle.nm_device_laws.proofs.Users.{users_kept}
use Rattle.nm_safety.specs.Support.{Owners, IsDevice}
use Rattle.nm_safety.proofs.Numbers.{is_entry, no_more, IsNew, new_entered}

module _ {Config TheEdit Node : Type 0} (m : Meaning Config TheEdit Node) (laws : Laws m) (tables : TablesState TheEdit) (edits : All m.edit_belongs tables.edits) (s : DeviceState Config Node) where
  opened_belongs : (user : List ℕ) (next : Option ℕ) → Belongs m s → Belongs m (open_with s next user).after
  opened_belongs user None b = b
  opened_belongs user (Some id) b = b

  -- configurations go on to belong to the content
  pub event_belongs : (event : DeviceEvent) (h : Happened Config Node) → Happens m tables s event h → Belongs m s → Belongs m h.after
  event_belongs (Entered user) h e b = subst (λ (one : Happened Config Node). Belongs m one.after) (same_Some (entering s user) h e) (opened_belongs user (next_id s.sessions) b)
  event_belongs (Asked session request) h e b = subst (λ (one : Happened Config Node). Belongs m one.after) (is_asked m tables s session request h e).does (step_belongs m laws tables edits s session request b)
  event_belongs (Lost session) h e b = subst (λ (one : Happened Config Node). Belongs m one.after) (lost_does m tables s session h e) (ended_belongs m s session b)
  event_belongs (Advanced seconds) h e b = subst (λ (one : Happened Config Node). Belongs m one.after) (same_Some (advancing m s seconds) h e) (advanced_belongs m s seconds b)
  event_belongs Restarted h e b = subst (λ (one : Happened Config Node). Belongs m one.after) (same_Some (restarting m s) h e) (restarted_belongs m s b)

-- whose a session is that opens now, where one is asked for
pub record OpensFor {Config Node : Type 0} (owners now : Owners) (r : RecordedState Config Node) (event : DeviceEvent) (after : DeviceState Config Node) : Type 0 where
  pub same : (session : ℕ) → session ≤ r.device.sessions.last → now session ≡ owners session
  pub fresh : (session : ℕ) → after.sessions.last < session → now session ≡ None
  pub new : (user : List ℕ) → event ≡ Entered user → (session : ℕ) → is_open after.sessions session ≡ true → session ≡ r.device.sessions.last + 1 → is_manager (Some user) ≡ is_some (now session)

module _ {Config TheEdit Node : Type 0} (m : Meaning Config TheEdit Node) (laws : Laws m) (tables : TablesState TheEdit) (edits : All m.edit_belongs tables.edits) (owners now : Owners) (r : RecordedState Config Node) (event : DeviceEvent) (h : Happened Config Node)
    (happens : Happens m tables r.device event h) (k : IsDevice m owners r) (opens : OpensFor owners now r event h.after) where
  numbered_after : IsNumbered h.after
  numbered_after = numbers_keep m tables r.device k.numbered event h happens

  user_before : (session : ℕ) → is_open h.after.sessions session ≡ true → session ≤ r.device.sessions.last → is_manager (user_of h.after.sessions session) ≡ is_some (now session)
  user_before session is within =
      let same : user_of h.after.sessions session ≡ user_of r.device.sessions session = users_kept m tables r.device k.numbered session event h happens is within in
      ap is_manager same ∙ k.users session (sym (ap is_some same) ∙ is) ∙ sym (ap is_some (opens.same session within))

  user_new : (event_is : DeviceEvent) → event ≡ event_is → (session : ℕ) → is_open h.after.sessions session ≡ true → r.device.sessions.last < session → is_manager (user_of h.after.sessions session) ≡ is_some (now session)
  user_new (Entered user) e session is above =
      let new : IsNew r.device user h.after session = new_entered r.device k.numbered user m tables h (subst (λ one. Happens m tables r.device one h) e happens) session is above in
      ap is_manager new.user_is ∙ opens.new user e session is new.number
  user_new (Asked asker request) e session is above = no_new (ap is_entry e) session is above
    where
      no_new : is_entry event ≡ false → (session : ℕ) → is_open h.after.sessions session ≡ true → r.device.sessions.last < session → is_manager (user_of h.after.sessions session) ≡ is_some (now session)
      no_new other session is above =
          let within : session ≤ h.after.sessions.last = numbered_after.opened session is in
          let few : h.after.sessions.last ≤ r.device.sessions.last = no_more m tables r.device event h happens other in
          absurd (omega (arith, within, few, above))
  user_new (Lost asker) e session is above =
      let within : session ≤ h.after.sessions.last = numbered_after.opened session is in
      let few : h.after.sessions.last ≤ r.device.sessions.last = no_more m tables r.device event h happens (ap is_entry e) in
      absurd (omega (arith, within, few, above))
  user_new (Advanced seconds) e session is above =
      let within : session ≤ h.after.sessions.last = numbered_after.opened session is in
      let few : h.after.sessions.last ≤ r.device.sessions.last = no_more m tables r.device event h happens (ap is_entry e) in
      absurd (omega (arith, within, few, above))
  user_new Restarted e session is above =
      let within : session ≤ h.after.sessions.last = numbered_after.opened session is in
      let few : h.after.sessions.last ≤ r.device.sessions.last = no_more m tables r.device event h happens (ap is_entry e) in
      absurd (omega (arith, within, few, above))

  user_by : (session : ℕ) → is_open h.after.sessions session ≡ true → (b : Bool) → nat_le session r.device.sessions.last ≡ b → is_manager (user_of h.after.sessions session) ≡ is_some (now session)
  user_by session is true e = user_before session is (below session r.device.sessions.last e)
    where
      below : (a b : ℕ) → nat_le a b ≡ true → a ≤ b
      below a b e = grind (arith, nat_tests)
  user_by session is false e = user_new event refl session is (above session r.device.sessions.last e)
    where
      above : (a b : ℕ) → nat_le a b ≡ false → b < a
      above a b e = grind (arith, nat_tests)

  pub device_kept : IsDevice m now (recorded_with r event h)
  device_kept = record {
    numbered = numbered_after;
    belong = event_belongs m laws tables edits r.device event h happens k.belong;
    tells = λ token. pending_told m laws tables token r event h happens (k.tells token);
    users = λ session is. user_by session is (nat_le session r.device.sessions.last) refl;
    fresh = opens.fresh;
  }
