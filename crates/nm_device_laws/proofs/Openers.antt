-- Who opened the sessions of a device, by its history, and who commits under reserved tokens.
use Rattle.std.proofs.Common.{◌≡◌, ℕ, zero, suc, ◌+◌, ◌==◌, List, [], ◌∷◌, ◌++◌, length, take, Bool, true, false, cond, not, ◌&&◌, ◌||◌, slice_get, Option, Some, None, refl, sym, ap, ◌∙◌, subst, arith}
use Rattle.std.proofs.lemmas.Bool.{cond_both}
use Rattle.std.proofs.lemmas.Bool.Decides.{Decides-eqb}
use Rattle.std.proofs.lemmas.List.{append_assoc, append-nil}
use Rattle.std.proofs.lemmas.Option.{same_Some, none-some}
use Rattle.std.proofs.lemmas.Slice.Eq.{bytes_eq-Decides}
use Rattle.nm_base.specs.Token.{is_reserved}
use Rattle.nm_base.specs.Words.{manager}
use Rattle.nm_proto.specs.declared.message.Request.{Request}
use Rattle.nm_proto.specs.declared.message.Reply.TheVariants.{Opened}
use Rattle.nm_proto.specs.Content.{Meaning, TablesState}
use Rattle.nm_sessions.specs.Sessions.{user_of, next_id, entered, left}
use Rattle.nm_sessions.proofs.SessionLemmas.{user_of-entered, user_of-left}
use Rattle.nm_sessions.proofs.Tables.{next_is}
use Rattle.nm_pending.specs.Pending.{ends_with, ends_at}
use Rattle.nm_device.specs.Device.{DeviceState, Stepped, is_manager, fresh_device}
use Rattle.nm_device.specs.Undoing.{left_by, later, emptied, ended, advanced, restarted}
use Rattle.nm_device.specs.Table.{open_with, device_step}
use Rattle.nm_history.specs.declared.event.DeviceEvent.{DeviceEvent}
use Rattle.nm_history.specs.declared.event.DeviceEvent.TheVariants.{Entered, Asked, Lost, Advanced, Restarted}
use Rattle.nm_history.specs.declared.event.Noted.{Noted}
use Rattle.nm_history.specs.History.{Happened, noted, entering, advancing, restarting, after_or, device_event, replayed, Fits, IsLegal}
use Rattle.nm_history.specs.Effect.{is_done_reply}
use Rattle.nm_device_laws.specs.Moment.{Happens}
use Rattle.nm_device_laws.specs.Numbered.{IsNumbered}
use Rattle.nm_device_laws.specs.Openings.{IsOpenedFor}
use Rattle.nm_device_laws.specs.Token.{gives_token, names_token, commits_done, leaves_token}
use Rattle.nm_device_laws.proofs.Acts.{Acts, step_acts}
use Rattle.nm_device_laws.proofs.Events.{is_asked, lost_does, undone_keeps, undone_if_keeps}
use Rattle.nm_device_laws.proofs.Numbers.{fresh_number, fresh_numbered, numbers_keep}
use Rattle.nm_device_laws.proofs.Readings.{count_push}
use Rattle.nm_device_laws.proofs.Tokens.{token_kept}

-- ---- places in longer histories

get_front : (front later : List Noted) (place : ℕ) (entry : Noted) → slice_get front place ≡ Some entry → slice_get (front ++ later) place ≡ Some entry
get_front [] later place entry e = absurd (none-some entry e)
get_front (first ∷ front) later zero entry e = e
get_front (first ∷ front) later (suc place) entry e = get_front front later place entry e

get_last : (front : List Noted) (entry : Noted) → slice_get (front ++ entry ∷ []) (length front) ≡ Some entry
get_last [] entry = refl
get_last (first ∷ front) entry = get_last front entry

still_opened : (user : List ℕ) (session : ℕ) (past : List Noted) (entry : Noted) → IsOpenedFor user session past → IsOpenedFor user session (past ++ entry ∷ [])
still_opened user session past entry it = record {
  place = it.place;
  entry = it.entry;
  stands = get_front past (entry ∷ []) it.place it.entry it.stands;
  event_is = it.event_is;
  reply_is = it.reply_is;
}

-- ---- what events leave of sessions

module _ {Config TheEdit Node : Type 0} (m : Meaning Config TheEdit Node) (tables : TablesState TheEdit) (s : DeviceState Config Node) where
  -- who is open by now was so before, with the same user
  abbrev pub Same : DeviceState Config Node → Type 0
  Same now = (t : ℕ) (user : List ℕ) → user_of now.sessions t ≡ Some user → user_of s.sessions t ≡ Some user

  stay : Same s
  stay t user e = e

  left_same : (other : ℕ) → Same (left_by s other)
  left_same other t user e = cond_both (t == other) None (user_of s.sessions t) (λ (o : Option (List ℕ)). o ≡ Some user → user_of s.sessions t ≡ Some user)
      (λ _ none. absurd (none-some user none)) (λ _ is. is) (sym (user_of-left s.sessions other t) ∙ e)

  emptied_same : Same (emptied s)
  emptied_same t user e = absurd (none-some user e)

  ended_same : (other : ℕ) → Same (ended m s other)
  ended_same other = undone_if_keeps m tables s Same (left_by s other) (ends_with s.pending other) (left_same other) (λ p e. left_same other)

  advanced_same : (seconds : ℕ) → Same (advanced m s seconds)
  advanced_same seconds = undone_if_keeps m tables s Same (later s seconds) (ends_at s.pending (s.clock + seconds)) stay (λ p e. stay)

  restarted_same : Same (restarted m s)
  restarted_same = undone_keeps m tables s Same (emptied s) emptied_same (λ p e. emptied_same)

  same_acts : (session : ℕ) → Acts m tables s session (λ (stepped : Stepped Config Node). Same stepped.after)
  same_acts session = record {
    same = λ reply. stay;
    taken = λ held least free. stay;
    candidate_taken = λ held unmodified. stay;
    freed = λ store own. stay;
    parts_taken = λ id nodes held free. stay;
    parts_freed = λ id. stay;
    edited = λ config free. stay;
    dropped = λ free. stay;
    left = ended_same;
    taken_back = λ free. undone_keeps m tables s Same s stay (λ p e. stay);
    committed = λ form passed free. stay;
  }

-- a numbered device whose history opened each session that is open
pub record IsTold {Config Node : Type 0} (past : List Noted) (s : DeviceState Config Node) : Type 0 where
  pub numbered : IsNumbered s
  pub opened : (t : ℕ) (user : List ℕ) → user_of s.sessions t ≡ Some user → IsOpenedFor user t past

module _ {Config TheEdit Node : Type 0} (m : Meaning Config TheEdit Node) (tables : TablesState TheEdit) (s : DeviceState Config Node) (past : List Noted) (told : IsTold past s) where
  abbrev AreOpened : DeviceState Config Node → Noted → Type 0
  AreOpened now entry = (t : ℕ) (user : List ℕ) → user_of now.sessions t ≡ Some user → IsOpenedFor user t (past ++ entry ∷ [])

  same_opened : (now : DeviceState Config Node) (entry : Noted) → Same m tables s now → AreOpened now entry
  same_opened now entry same t user e = still_opened user t past entry (told.opened t user (same t user e))

  entered_opened : (next : Option ℕ) (user : List ℕ) → next_id s.sessions ≡ next
      → AreOpened (open_with s next user).after (record { event = Entered user; reply = Some (open_with s next user).reply; undone = false })
  entered_opened None user e = same_opened s (record { event = Entered user; reply = Some (open_with s None user).reply; undone = false }) (stay m tables s)
  entered_opened (Some id) user e = λ t who is. by_test t who (t == s.sessions.last + 1) refl (sym (user_of-entered s.sessions user t (fresh_number s told.numbered)) ∙ is)
    where
      entry : Noted
      entry = record { event = Entered user; reply = Some (Opened id); undone = false }

      by_test : (t : ℕ) (who : List ℕ) (b : Bool) → (t == s.sessions.last + 1) ≡ b → cond b (Some user) (user_of s.sessions t) ≡ Some who → IsOpenedFor who t (past ++ entry ∷ [])
      by_test t who true same is =
          let next : id ≡ s.sessions.last + 1 = (next_is (length s.sessions.users) s.sessions.last id (sym e)).0 in
          let here : id ≡ t = next ∙ sym ((Decides-eqb t (s.sessions.last + 1)).0 same) in
          record { place = length past; entry = entry; stands = get_last past entry; event_is = ap Entered (same_Some user who is); reply_is = ap (λ (n : ℕ). Some (Opened n)) here }
      by_test t who false same is = still_opened who t past entry (told.opened t who is)

  event_opened : (event : DeviceEvent) (h : Happened Config Node) → Happens m tables s event h → AreOpened h.after (noted event h)
  event_opened (Entered user) h e = subst (λ (one : Happened Config Node). AreOpened one.after (noted (Entered user) one)) (same_Some (entering s user) h e) (entered_opened (next_id s.sessions) user refl)
  event_opened (Asked session request) h e = same_opened h.after (noted (Asked session request) h)
      (subst (λ (one : Happened Config Node). Same m tables s one.after) (is_asked m tables s session request h e).does
      (step_acts m tables s session (λ (stepped : Stepped Config Node). Same m tables s stepped.after) (same_acts m tables s session) request))
  event_opened (Lost session) h e = same_opened h.after (noted (Lost session) h) (subst (λ (one : Happened Config Node). Same m tables s one.after) (lost_does m tables s session h e) (ended_same m tables s session))
  event_opened (Advanced seconds) h e = same_opened h.after (noted (Advanced seconds) h) (subst (λ (one : Happened Config Node). Same m tables s one.after) (same_Some (advancing m s seconds) h e) (advanced_same m tables s seconds))
  event_opened Restarted h e = same_opened h.after (noted Restarted h) (subst (λ (one : Happened Config Node). Same m tables s one.after) (same_Some (restarting m s) h e) (restarted_same m tables s))

  told_on : (entry : Noted) (happened : Option (Happened Config Node)) → device_event m tables s entry.event ≡ happened → Fits entry happened → IsTold (past ++ entry ∷ []) (after_or s happened)
  told_on entry None e fits = absurd fits
  told_on entry (Some h) e fits = record {
    numbered = numbers_keep m tables s told.numbered entry.event h e;
    opened = subst (λ (one : Noted). AreOpened h.after one) (sym fits) (event_opened entry.event h e);
  }

-- ---- who commits

both : (a b : Bool) → a ≡ true → b ≡ true → (a && b) ≡ true
both true b e f = f
both false b e f = e

managers_name : (named reserved manages : Bool) → not (named && (not reserved || manages)) ≡ false → reserved ≡ true → manages ≡ true
managers_name named true true e is = refl
managers_name true true false e is = cc
managers_name false true false e is = cc
managers_name named false manages e is = cc

module _ {Config TheEdit Node : Type 0} (m : Meaning Config TheEdit Node) (tables : TablesState TheEdit) (token : List ℕ) (reserved : is_reserved token ≡ true) where
  -- who gives a reserved token in a commit that is done is the manager
  gives_managers : (s : DeviceState Config Node) (session : ℕ) (request : Request) (h : Happened Config Node) → Happens m tables s (Asked session request) h → gives_token token request ≡ true → is_done_reply h.reply ≡ true
      → is_manager (user_of s.sessions session) ≡ true
  gives_managers s session request h happens gives done = by_test (leaves_token token s (Asked session request)) refl
    where
      by_test : (b : Bool) → leaves_token token s (Asked session request) ≡ b → is_manager (user_of s.sessions session) ≡ true
      by_test true e =
          let entry : Noted = noted (Asked session request) h in
          let one : commits_done token (entry ∷ []) ≡ commits_done token [] + 1 = count_push token [] entry true (both (gives_token token request) (is_done_reply h.reply) gives done) in
          let none : commits_done token (entry ∷ []) ≡ commits_done token [] = (token_kept m tables token s (Asked session request) h happens e).count [] in
          absurd (omega (arith, one, none))
      by_test false e = managers_name (names_token token request) (is_reserved token) (is_manager (user_of s.sessions session)) e reserved

  opened_for : (s : DeviceState Config Node) (past : List Noted) (session : ℕ) → IsTold past s → (user : Option (List ℕ)) → user_of s.sessions session ≡ user → is_manager user ≡ true → IsOpenedFor manager session past
  opened_for s past session told None e is = absurd (let never : false ≡ true = is in cc)
  opened_for s past session told (Some who) e is = subst (λ (one : List ℕ). IsOpenedFor one session past) ((bytes_eq-Decides who manager).0 is) (told.opened session who e)

  entry_opened : (s : DeviceState Config Node) (past : List Noted) (entry : Noted) (session : ℕ) (request : Request) → IsTold past s → (happened : Option (Happened Config Node)) → device_event m tables s entry.event ≡ happened → Fits entry happened
      → entry.event ≡ Asked session request → gives_token token request ≡ true → is_done_reply entry.reply ≡ true → IsOpenedFor manager session past
  entry_opened s past entry session request told None e fits asks gives done = absurd fits
  entry_opened s past entry session request told (Some h) e fits asks gives done =
      opened_for s past session told (user_of s.sessions session) refl
      (gives_managers s session request h (subst (λ (event : DeviceEvent). Happens m tables s event h) asks e) gives (sym (ap (λ (one : Noted). is_done_reply one.reply) fits) ∙ done))

  commit_opened : (s : DeviceState Config Node) (past history : List Noted) → IsTold past s → IsLegal m tables s history → (place session : ℕ) (request : Request) (entry : Noted) → slice_get history place ≡ Some entry
      → entry.event ≡ Asked session request → gives_token token request ≡ true → is_done_reply entry.reply ≡ true → IsOpenedFor manager session (past ++ take place history)
  commit_opened s past [] told legal place session request entry at asks gives done = absurd (none-some entry at)
  commit_opened s past (first ∷ history) told legal zero session request entry at asks gives done =
      let same : first ≡ entry = same_Some first entry at in
      subst (IsOpenedFor manager session) (sym (append-nil past))
      (entry_opened s past first session request told (device_event m tables s first.event) refl legal.0 (ap (λ (one : Noted). one.event) same ∙ asks) gives (ap (λ (one : Noted). is_done_reply one.reply) same ∙ done))
  commit_opened s past (first ∷ history) told legal (suc place) session request entry at asks gives done =
      subst (IsOpenedFor manager session) (append_assoc past (first ∷ []) (take place history))
      (commit_opened (replayed m tables s first) (past ++ first ∷ []) history (told_on m tables s past told first (device_event m tables s first.event) refl legal.0) legal.1 place session request entry at asks gives done)

  pub managers_commit : (running : Config) (history : List Noted) → IsLegal m tables (fresh_device running) history → (place session : ℕ) (request : Request) (entry : Noted) → slice_get history place ≡ Some entry
      → entry.event ≡ Asked session request → gives_token token request ≡ true → is_done_reply entry.reply ≡ true → IsOpenedFor manager session (take place history)
  managers_commit running history legal place session request entry at asks gives done =
      commit_opened (fresh_device running) [] history (record { numbered = fresh_numbered (fresh_device running) running refl; opened = λ t user e. absurd (none-some user e) }) legal place session request entry at asks gives done
