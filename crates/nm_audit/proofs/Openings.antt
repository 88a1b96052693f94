-- No session is opened twice at a device.
use Rattle.std.proofs.Common.{◌≡◌, ◌<◌, ℕ, zero, suc, ◌+◌, Bool, true, false, List, [], ◌∷◌, length, slice_get, Option, Some, None, refl, sym, ap, subst, ◌∙◌, arith}
use Rattle.std.proofs.lemmas.Bool.{eqb-true}
use Rattle.std.proofs.lemmas.Option.{same_Some, none-some}
use Rattle.nm_proto.specs.declared.message.Request.{Request}
use Rattle.nm_proto.specs.declared.message.Reply.{Reply}
use Rattle.nm_proto.specs.declared.message.Reply.TheVariants.{Done, Opened, LockId, Mark, Rows, Error}
use Rattle.nm_proto.specs.Content.{Meaning, TablesState}
use Rattle.nm_sessions.specs.Sessions.{next_id}
use Rattle.nm_sessions.proofs.Tables.{next_is}
use Rattle.nm_device.specs.Device.{DeviceState, fresh_device}
use Rattle.nm_device.specs.Table.{device_step, open_with}
use Rattle.nm_history.specs.declared.event.DeviceEvent.{DeviceEvent}
use Rattle.nm_history.specs.declared.event.DeviceEvent.TheVariants.{Entered, Asked, Lost, Advanced, Restarted}
use Rattle.nm_history.specs.declared.event.Noted.{Noted}
use Rattle.nm_history.specs.History.{Happened, entering, answered, losing, advancing, restarting, device_event, after_or, replayed, Fits, IsLegal}
use Rattle.nm_device_laws.specs.Moment.{Happens}
use Rattle.nm_device_laws.specs.Numbered.{IsNumbered}
use Rattle.nm_device_laws.proofs.Events.{is_asked, lost_does}
use Rattle.nm_device_laws.proofs.Numbers.{fresh_numbered, numbers_keep, numbers_rise}
use Rattle.nm_cells.specs.Kept.{opens}
use Rattle.nm_audit.proofs.Replies.{opens_none, step_opens}

-- ---- replies that open sessions

pub opens_is : (session : ℕ) (reply : Option Reply) → opens session reply ≡ true → reply ≡ Some (Opened session)
opens_is session None e = absurd (let g : false ≡ true = e in cc)
opens_is session (Some Done) e = absurd (let g : false ≡ true = e in cc)
opens_is session (Some (Opened other)) e = ap (λ (n : ℕ). Some (Opened n)) (eqb-true other session e)
opens_is session (Some (LockId id)) e = absurd (let g : false ≡ true = e in cc)
opens_is session (Some (Mark there)) e = absurd (let g : false ≡ true = e in cc)
opens_is session (Some (Rows count)) e = absurd (let g : false ≡ true = e in cc)
opens_is session (Some (Error tag holder path)) e = absurd (let g : false ≡ true = e in cc)

never : (b : Bool) → b ≡ true → b ≡ false → ⊥
never b is isnt = cc

-- ---- sessions are counted up

-- an opening gives the next number, which is the last then
record IsNext {Config Node : Type 0} (s now : DeviceState Config Node) (id : ℕ) : Type 0 where
  above : s.sessions.last < id
  last : now.sessions.last ≡ id

module _ {Config TheEdit Node : Type 0} (m : Meaning Config TheEdit Node) (tables : TablesState TheEdit) where
  module _ (s : DeviceState Config Node) (id : ℕ) (h : Happened Config Node) (opened : h.reply ≡ Some (Opened id)) where
    by_next : (user : List ℕ) (next : Option ℕ) → next_id s.sessions ≡ next → (open_with s next user).reply ≡ Opened id → (open_with s next user).after ≡ h.after → IsNext s h.after id
    by_next user None e same after = absurd (let g : (open_with s None user).reply ≡ Opened id = same in cc)
    by_next user (Some number) e same after =
        let its : number ≡ id = cc in
        let next = next_is (length s.sessions.users) s.sessions.last number (sym e) in
        let is : number ≡ s.sessions.last + 1 = next.0 in
        let last : h.after.sessions.last ≡ s.sessions.last + 1 = sym (ap (λ (d : DeviceState Config Node). d.sessions.last) after) in
        record { above = omega (arith, its, is); last = last ∙ (sym is ∙ its) }

    silent : (one : Happened Config Node) → one.reply ≡ None → one ≡ h → IsNext s h.after id
    silent one none same = absurd (none-some (Opened id) (sym none ∙ (ap (λ (x : Happened Config Node). x.reply) same ∙ opened)))

    asked : (session : ℕ) (request : Request) → answered s request (device_step m tables s session request) ≡ h → IsNext s h.after id
    asked session request same =
        let reply : (device_step m tables s session request).reply ≡ Opened id = same_Some (device_step m tables s session request).reply (Opened id) (ap (λ (x : Happened Config Node). x.reply) same ∙ opened) in
        absurd (never false (subst (λ (r : Reply). opens_none r ≡ true) reply (step_opens m tables s session request)) refl)

    opening_next : (event : DeviceEvent) → Happens m tables s event h → IsNext s h.after id
    opening_next (Entered user) e =
        let same : entering s user ≡ h = same_Some (entering s user) h e in
        by_next user (next_id s.sessions) refl
        (same_Some (open_with s (next_id s.sessions) user).reply (Opened id) (ap (λ (x : Happened Config Node). x.reply) same ∙ opened))
        (ap (λ (x : Happened Config Node). x.after) same)
    opening_next (Asked session request) e = asked session request (is_asked m tables s session request h e).does
    opening_next (Lost session) e = silent (losing m s session) refl (lost_does m tables s session h e)
    opening_next (Advanced seconds) e = silent (advancing m s seconds) refl (same_Some (advancing m s seconds) h e)
    opening_next Restarted e = silent (restarting m s) refl (same_Some (restarting m s) h e)

  -- what an entry of a history did
  record Did (s : DeviceState Config Node) (entry : Noted) : Type 0 where
    h : Happened Config Node
    happens : Happens m tables s entry.event h
    reply : h.reply ≡ entry.reply
    after : replayed m tables s entry ≡ h.after

  did_as : (s : DeviceState Config Node) (entry : Noted) (happened : Option (Happened Config Node)) → device_event m tables s entry.event ≡ happened → Fits entry happened → Did s entry
  did_as s entry None e fits = absurd fits
  did_as s entry (Some h) e fits = record { h = h; happens = e; reply = sym (ap (λ (x : Noted). x.reply) fits); after = ap (after_or s) e }

  did : (s : DeviceState Config Node) (entry : Noted) → Fits entry (device_event m tables s entry.event) → Did s entry
  did s entry fits = did_as s entry (device_event m tables s entry.event) refl fits

  numbered_on : (s : DeviceState Config Node) (entry : Noted) → IsNumbered s → Did s entry → IsNumbered (replayed m tables s entry)
  numbered_on s entry n d = subst IsNumbered (sym d.after) (numbers_keep m tables s n entry.event d.h d.happens)

  -- whom a later entry opens has a number above the last
  opens_above : (history : List Noted) (s : DeviceState Config Node) → IsNumbered s → IsLegal m tables s history → (place id : ℕ) (entry : Noted) → slice_get history place ≡ Some entry → entry.reply ≡ Some (Opened id) → s.sessions.last < id
  opens_above [] s n legal place id entry at opened = absurd (none-some entry at)
  opens_above (first ∷ history) s n legal zero id entry at opened =
      let same : first ≡ entry = same_Some first entry at in
      let d = did s first legal.0 in
      (opening_next s id d.h (d.reply ∙ (ap (λ (x : Noted). x.reply) same ∙ opened)) first.event d.happens).above
  opens_above (first ∷ history) s n legal (suc place) id entry at opened =
      let d = did s first legal.0 in
      let later = opens_above history (replayed m tables s first) (numbered_on s first n d) legal.1 place id entry at opened in
      let rises = numbers_rise m tables s first.event d.h d.happens in
      let same : (replayed m tables s first).sessions.last ≡ d.h.after.sessions.last = ap (λ (x : DeviceState Config Node). x.sessions.last) d.after in
      omega (arith, later, rises, same)

  -- whom the first entry opens is the last then
  first_last : (s : DeviceState Config Node) (first : Noted) (id : ℕ) → Did s first → first.reply ≡ Some (Opened id) → (replayed m tables s first).sessions.last ≡ id
  first_last s first id d opened =
      ap (λ (x : DeviceState Config Node). x.sessions.last) d.after ∙ (opening_next s id d.h (d.reply ∙ opened) first.event d.happens).last

  opened_from : (history : List Noted) (s : DeviceState Config Node) → IsNumbered s → IsLegal m tables s history → (p q id : ℕ) (one other : Noted) → slice_get history p ≡ Some one → slice_get history q ≡ Some other
      → one.reply ≡ Some (Opened id) → other.reply ≡ Some (Opened id) → p ≡ q
  opened_from [] s n legal p q id one other at there is its = absurd (none-some one at)
  opened_from (first ∷ history) s n legal zero zero id one other at there is its = refl
  opened_from (first ∷ history) s n legal zero (suc q) id one other at there is its =
      let d = did s first legal.0 in
      let last = first_last s first id d (ap (λ (x : Noted). x.reply) (same_Some first one at) ∙ is) in
      let above = opens_above history (replayed m tables s first) (numbered_on s first n d) legal.1 q id other there its in
      absurd (omega (arith, last, above))
  opened_from (first ∷ history) s n legal (suc p) zero id one other at there is its =
      let d = did s first legal.0 in
      let last = first_last s first id d (ap (λ (x : Noted). x.reply) (same_Some first other there) ∙ its) in
      let above = opens_above history (replayed m tables s first) (numbered_on s first n d) legal.1 p id one at is in
      absurd (omega (arith, last, above))
  opened_from (first ∷ history) s n legal (suc p) (suc q) id one other at there is its =
      let d = did s first legal.0 in
      let same = opened_from history (replayed m tables s first) (numbered_on s first n d) legal.1 p q id one other at there is its in omega (arith, same)

  -- two entries of a history that open a session are one
  pub opened_once : (running : Config) (history : List Noted) → IsLegal m tables (fresh_device running) history → (p q id : ℕ) (one other : Noted) → slice_get history p ≡ Some one → slice_get history q ≡ Some other
      → one.reply ≡ Some (Opened id) → other.reply ≡ Some (Opened id) → p ≡ q
  opened_once running history legal p q id one other at there is its =
      opened_from history (fresh_device running) (fresh_numbered (fresh_device running) running refl) legal p q id one other at there is its
