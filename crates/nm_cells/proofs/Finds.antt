-- What a served caller finds, whatever the device is.
use Rattle.std.proofs.Common.{Option, Some, None, Result, Ok, Err, IfOk, ◌≡◌, ℕ, ◌+◌, ◌≤◌, ◌==◌, Bool, true, false, not, ◌&&◌, List, [], ◌∷◌, ◌++◌, drop, length, position, slice_get, slice_index_or, refl, sym, ap, ◌∙◌, subst, arith, if◌then◌else◌}
use Rattle.nm_proto.specs.declared.message.Reply.{Reply}
use Rattle.nm_proto.specs.declared.message.Reply.TheVariants.{Done, Opened, LockId, Mark, Rows, Error}
use Rattle.std.proofs.lemmas.Bool.Decides.{nat_tests}
use Rattle.std.proofs.lemmas.List.{append_assoc, append-nil, get_or-drop}
use Rattle.std.proofs.lemmas.List.Quantifiers.{position-Some}
use Rattle.std.proofs.lemmas.Option.{same_Some, get_or_from_slice_get}
use Rattle.std.specs.Str.{bytes_eq}
use Rattle.nm_base.specs.declared.fault.NoMemory.{NoMemory}
use Rattle.nm_base.specs.Words.{manager}
use Rattle.nm_proto.specs.declared.message.Request.{Request}
use Rattle.nm_proto.specs.Content.{Meaning, TablesState}
use Rattle.nm_sessions.specs.Sessions.{is_open}
use Rattle.nm_proto.specs.declared.plan.ChangePlan.{ChangePlan}
use Rattle.nm_device.specs.Device.{DeviceState, is_manager}
use Rattle.nm_device.specs.Table.{device_step, opened, opening_user, undid}
use Rattle.nm_chronicle.specs.Shares.{SlotState}
use Rattle.nm_history.specs.declared.event.DeviceEvent.{DeviceEvent}
use Rattle.nm_history.specs.declared.event.DeviceEvent.TheVariants.{Entered, Asked, Lost, Advanced, Restarted}
use Rattle.nm_history.specs.declared.event.Noted.{Noted}
use Rattle.nm_history.specs.History.{Happened, noted, entering, losing, restarting, event_by, event_of}
use Rattle.nm_proto.specs.declared.fault.PlanFault.{PlanFault}
use Rattle.nm_proto.specs.declared.fault.PlanFault.TheVariants.{Drop, Cut, Restart, Advance}
use Rattle.nm_cells.specs.declared.asked.Asked.{Asked as Told}
use Rattle.nm_cells.specs.declared.asked.Asked.TheVariants.{Answered}
use Rattle.nm_cells.specs.declared.pass.PassOwner.{PassOwner}
use Rattle.nm_cells.specs.declared.pass.PassOwner.TheVariants.{Coordinator, Operator}
use Rattle.nm_cells.specs.declared.pass.PassEntry.{PassEntry}
use Rattle.nm_cells.specs.declared.ended.Found.{Found}
use Rattle.nm_cells.specs.Faults.{due}
use Rattle.nm_cells.specs.Kept.{KeptState, with_room, is_managers, opens}
use Rattle.nm_cells.specs.Pass.{is_operator}
use Rattle.nm_cells.specs.Ended.{holds, opened_in, is_kill, coordinator_knows, operator_knows, found, found_at, found_if, knows, ends, opened_by, end_of, end_from, end_after, lost_nowhere, with_found}
use Rattle.nm_cells.specs.Serve.{prepared, Left, Leaves, entry_of, happens, tells_end, loses, restarts, cut_off, by_fault, manager_enters, asking, manager_asks, asks, serve_by, serve_of, may_ask, opened_session}
use Rattle.nm_cells.specs.Asking.{breaks, coordinator_finds, is_known, opens_for_other, IsOwn, IsBreaking, FindsBroken, FindsBy}
use Rattle.nm_cells.specs.State.{may_operate, is_in_turn}

-- ---- what broke a call

same_test : (n : ℕ) → (n == n) ≡ true
same_test n = grind (arith, nat_tests)

-- the loss of a session ends it
own_loss : (session other : ℕ) → Some session ≡ Some other → (other == session) ≡ true
own_loss session other e = subst (λ n. (n == session) ≡ true) (same_Some session other e) (same_test session)

-- the session that a call was told to have opened is opened by its reply
opened_opens : (position : ℕ) (reply : Reply) (session : ℕ) → opened_session (Answered position reply) ≡ Some session → opens session (Some reply) ≡ true
opened_opens position Done session e = absurd (let g : None ≡ Some session = e in cc)
opened_opens position (Opened other) session e = let same : other ≡ session = same_Some other session e in subst (λ n. (other == n) ≡ true) same (same_test other)
opened_opens position (LockId id) session e = absurd (let g : None ≡ Some session = e in cc)
opened_opens position (Mark there) session e = absurd (let g : None ≡ Some session = e in cc)
opened_opens position (Rows count) session e = absurd (let g : None ≡ Some session = e in cc)
opened_opens position (Error tag holder path) session e = absurd (let g : None ≡ Some session = e in cc)

-- one entry that broke the call
gained_found : (owner : PassOwner) (event : DeviceEvent) (device position : ℕ) (entries after : List PassEntry) (entry : PassEntry) → opens_for_other event ≡ false → IsBreaking owner device position event entries [] entry → after ≡ entries ++ entry ∷ []
    → FindsBroken owner device position event entries after
gained_found owner event device position entries after entry managers breaking is = record { own = []; found = entry ∷ []; after_is = is; own_is = tt; found_is = breaking; managers = managers }

-- after the request's own entry
gained_both : (owner : PassOwner) (event : DeviceEvent) (device position : ℕ) (entries after : List PassEntry) (own entry : PassEntry) → opens_for_other event ≡ false → IsOwn device event (own ∷ [])
    → IsBreaking owner device position event entries (own ∷ []) entry → after ≡ (entries ++ own ∷ []) ++ entry ∷ [] → FindsBroken owner device position event entries after
gained_both owner event device position entries after own entry managers its breaking is = record {
  own = own ∷ [];
  found = entry ∷ [];
  after_is = is ∙ append_assoc entries (own ∷ []) (entry ∷ []);
  own_is = its;
  found_is = breaking;
  managers = managers;
}

-- ---- what a caller may know

both_ways : (b : Bool) → b ≡ true → b ≡ false → ⊥
both_ways b is isnt = cc

right_true : (a b : Bool) → (a && b) ≡ true → b ≡ true
right_true true b e = e
right_true false b e = cc

not_true : (b : Bool) → not b ≡ true → b ≡ false
not_true true e = cc
not_true false e = refl

killed_new : (kill outside held : Bool) → (if kill then outside else held) ≡ true → held ≡ false → (kill && outside) ≡ true
killed_new true outside held e new = e
killed_new false outside held e new = absurd (both_ways held e new)

-- what a coordinator knows of and its pass doesn't hold
coordinator_may : (device place : ℕ) (entries : List PassEntry) (event : DeviceEvent) → coordinator_knows device place entries event ≡ true → holds device place entries ≡ false → coordinator_finds device entries event ≡ true
coordinator_may device place entries (Entered user) e new = absurd (both_ways (holds device place entries) e new)
coordinator_may device place entries (Asked asker request) e new = killed_new (is_kill request) (not (opened_in device asker entries)) (holds device place entries) e new
coordinator_may device place entries (Lost session) e new = refl
coordinator_may device place entries (Advanced seconds) e new = absurd (both_ways (holds device place entries) e new)
coordinator_may device place entries Restarted e new = refl

may_find : (owner : PassOwner) (managers : Bool) (device place : ℕ) (entries : List PassEntry) (event : DeviceEvent) → knows owner managers device place entries event ≡ true → holds device place entries ≡ false → is_known owner device entries event ≡ true
may_find (Coordinator change) managers device place entries event e new = coordinator_may device place entries event e new
may_find (Operator number) managers device place entries event e new = right_true (not managers) (operator_knows event) e

lost_known : (owner : PassOwner) (device session : ℕ) (entries : List PassEntry) → is_operator owner ≡ false → is_known owner device entries (Lost session) ≡ true
lost_known (Coordinator change) device session entries coordinates = refl
lost_known (Operator number) device session entries coordinates = cc

restart_known : (owner : PassOwner) (device : ℕ) (entries : List PassEntry) → is_known owner device entries Restarted ≡ true
restart_known (Coordinator change) device entries = refl
restart_known (Operator number) device entries = refl

-- who asks as the manager is a coordinator
by_manager : (operates managers : Bool) → (operates ≡ true → managers ≡ false) → managers ≡ true → operates ≡ false
by_manager true managers other is = absurd (both_ways managers is (other refl))
by_manager false managers other is = refl

on_managers : (open_ operates managers : Bool) → (open_ && not (operates && managers)) ≡ true → managers ≡ true → operates ≡ false
on_managers open_ false managers may is = refl
on_managers true true true may is = cc
on_managers false true true may is = cc
on_managers open_ true false may is = cc

-- what ended a session, as it is looked up
ended_at : (session before : ℕ) (history : List Noted) (entry : Noted) → end_of session history ≡ Some before → slice_get history before ≡ Some entry → ends session entry ≡ true
ended_at session before history entry e at = by_opening (position (opened_by session) history) e
  where
    by_end : (opening : ℕ) (place : Option ℕ) → position (ends session) (drop (opening + 1) history) ≡ place → end_after opening history place ≡ Some before → ends session entry ≡ true
    by_end opening None is e = absurd (let g : None ≡ Some before = e in cc)
    by_end opening (Some place) is e =
        let there : opening + 1 + place ≡ before = same_Some (opening + 1 + place) before e in
        let here : slice_index_or history before entry ≡ entry = get_or_from_slice_get history before entry entry at in
        sym (ap (ends session) (get_or-drop (opening + 1) history place entry ∙ (ap (λ n. slice_index_or history n entry) there ∙ here))) ∙ (position-Some (ends session) (drop (opening + 1) history) place entry is).1

    by_opening : (opening : Option ℕ) → end_from session history opening ≡ Some before → ends session entry ≡ true
    by_opening None e = absurd (let g : None ≡ Some before = e in cc)
    by_opening (Some opening) e = by_end opening (position (ends session) (drop (opening + 1) history)) refl e

-- what was found ended the session, and where the pass doesn't hold it the caller may find it; or it is the loss at no place
record IsEnd (owner : PassOwner) (device session : ℕ) (entries : List PassEntry) (it : Found) : Type 0 where
  nowhere : it.position ≡ 0 → it.noted ≡ (lost_nowhere session).noted
  ended : 1 ≤ it.position → ends session it.noted ≡ true
  known : 1 ≤ it.position → holds device it.position entries ≡ false → is_known owner device entries it.noted.event ≡ true

module _ (owner : PassOwner) (managers : Bool) (device session : ℕ) (entries : List PassEntry) (history : List Noted) where
  is_end_nowhere : IsEnd owner device session entries (lost_nowhere session)
  is_end_nowhere = record { nowhere = λ e. refl; ended = λ le. absurd (omega (arith, le)); known = λ le new. absurd (omega (arith, le)) }

  is_end_if : (known : Bool) (before : ℕ) (entry : Noted) → knows owner managers device (before + 1) entries entry.event ≡ known → ends session entry ≡ true
      → IsEnd owner device session entries (if known then record { position = before + 1; noted = entry } else lost_nowhere session)
  is_end_if true before entry knowing it = record {
    nowhere = λ e. absurd (omega (arith, e));
    ended = λ le. it;
    known = λ le new. may_find owner managers device (before + 1) entries entry.event knowing new;
  }
  is_end_if false before entry knowing it = is_end_nowhere

  is_end_entry : (before : ℕ) (entry : Option Noted) → end_of session history ≡ Some before → slice_get history before ≡ entry → IsEnd owner device session entries (found_if owner managers device session entries (before + 1) entry)
  is_end_entry before None e at = is_end_nowhere
  is_end_entry before (Some entry) e at = is_end_if (knows owner managers device (before + 1) entries entry.event) before entry refl (ended_at session before history entry e at)

  is_end_at : (before : Option ℕ) → end_of session history ≡ before → IsEnd owner device session entries (found_at owner managers device session entries history before)
  is_end_at None e = is_end_nowhere
  is_end_at (Some before) e = is_end_entry before (slice_get history before) e refl

-- ---- what a call leaves

-- what is answered, and what isn't
abbrev replied : {Config Node : Type 0} → Reply → Bool → DeviceState Config Node → Happened Config Node
replied reply undone after = record { reply = Some reply; undone = undone; after = after }

abbrev silent : {Config Node : Type 0} → Bool → DeviceState Config Node → Happened Config Node
silent undone after = record { reply = None; undone = undone; after = after }

module _ {Config Node : Type 0} (device : ℕ) (owner : PassOwner) where
  -- the caller finds what a call left
  abbrev FindsLeft : DeviceEvent → List PassEntry → Left Config Node → Type 0
  FindsLeft event entries left = FindsBy owner (Some event) left.told entries left.entries device

  finds_answer : (counts : Bool) (kept : KeptState Config Node) (entries : List PassEntry) (event : DeviceEvent) (reply : Reply) (undone : Bool) (after : DeviceState Config Node)
      → FindsLeft event entries (happens device counts kept entries event (replied reply undone after))
  finds_answer counts kept entries event reply undone after = (omega arith, (undone, refl))

  finds_break : (counts : Bool) (kept : KeptState Config Node) (entries : List PassEntry) (event other : DeviceEvent) (undone : Bool) (after : DeviceState Config Node) → opens_for_other other ≡ false
      → breaks other [] (noted event (silent undone after)) ≡ true → is_known owner device (entries ++ []) event ≡ true → FindsLeft other entries (happens device counts kept entries event (silent undone after))
  finds_break counts kept entries event other undone after managers broke known =
      gained_found owner other device (length kept.recorded.history + 1) entries (entries ++ entry_of device kept event (silent undone after) ∷ []) (entry_of device kept event (silent undone after)) managers
      (record { device_is = refl; position_is = refl; nowhere = λ e. absurd (omega (arith, e)); breaks_it = λ le. broke; known = λ le. known }) refl

-- the manager's requests, which are coordinators'
module _ {Config TheEdit Node : Type 0} (m : Meaning Config TheEdit Node) (device : ℕ) (owner : PassOwner) (coordinates : is_operator owner ≡ false) where
  module _ (kept : KeptState Config Node) (entries : List PassEntry) (event : DeviceEvent) (managers : opens_for_other event ≡ false) (reply : Reply) (undone : Bool) (after : DeviceState Config Node) where
    -- the request is done
    abbrev done : Left Config Node
    done = happens device true kept entries event (replied reply undone after)

    abbrev own : PassEntry
    own = entry_of device kept event (replied reply undone after)

    finds_loss : (session : ℕ) → breaks event (own ∷ []) (noted (Lost session) (losing m after session)) ≡ true → FindsLeft device owner event entries (loses m device false done.kept done.entries session)
    finds_loss session broke =
        gained_both owner event device (length done.kept.recorded.history + 1) entries (done.entries ++ entry_of device done.kept (Lost session) (losing m after session) ∷ []) own (entry_of device done.kept (Lost session) (losing m after session)) managers (refl, omega arith, refl)
        (record {
          device_is = refl;
          position_is = refl;
          nowhere = λ e. absurd (omega (arith, e));
          breaks_it = λ le. broke;
          known = λ le. lost_known owner device session (entries ++ own ∷ []) coordinates;
        }) refl

    finds_cut_if : (open_ : Bool) (session : ℕ) → breaks event (own ∷ []) (noted (Lost session) (losing m after session)) ≡ true
        → FindsLeft device owner event entries (if open_ then loses m device false done.kept done.entries session else done)
    finds_cut_if true session broke = finds_loss session broke
    finds_cut_if false session broke = finds_answer device owner true kept entries event reply undone after

    finds_cut_off : (lost : Option ℕ) → ((session : ℕ) → lost ≡ Some session → breaks event (own ∷ []) (noted (Lost session) (losing m after session)) ≡ true) → FindsLeft device owner event entries (cut_off m device lost done)
    finds_cut_off None broke = finds_answer device owner true kept entries event reply undone after
    finds_cut_off (Some session) broke = finds_cut_if (is_open after.sessions session) session (broke session refl)

  module _ (kept : KeptState Config Node) (entries : List PassEntry) where
    finds_restart : (event : DeviceEvent) → opens_for_other event ≡ false → ((undone : Bool) (after : DeviceState Config Node) → breaks event [] (noted Restarted (silent undone after)) ≡ true) → FindsLeft device owner event entries (restarts m device kept entries)
    finds_restart event managers broke =
        let h = restarting m kept.recorded.device in finds_break device owner true kept entries Restarted event h.undone h.after managers (broke h.undone h.after) (restart_known owner device (entries ++ []))

    finds_opening : (fault : Option PlanFault) (user : List ℕ) → opens_for_other (Entered user) ≡ false → (reply : Reply) (undone : Bool) (after : DeviceState Config Node)
        → FindsLeft device owner (Entered user) entries (by_fault m device fault kept entries (Entered user) (replied reply undone after))
    finds_opening None user managers reply undone after = finds_answer device owner true kept entries (Entered user) reply undone after
    finds_opening (Some (Advance seconds)) user managers reply undone after = finds_answer device owner true kept entries (Entered user) reply undone after
    finds_opening (Some Drop) user managers reply undone after =
        finds_cut_off kept entries (Entered user) managers reply undone after (opened_session (Answered (length kept.recorded.history + 1) reply)) (opened_opens (length kept.recorded.history + 1) reply)
    finds_opening (Some Cut) user managers reply undone after =
        finds_cut_off kept entries (Entered user) managers reply undone after (opened_session (Answered (length kept.recorded.history + 1) reply)) (opened_opens (length kept.recorded.history + 1) reply)
    finds_opening (Some Restart) user managers reply undone after = finds_restart (Entered user) managers (λ undone after. refl)

    finds_manager : (fault : Option PlanFault) (session : ℕ) (request : Request) (reply : Reply) (undone : Bool) (after : DeviceState Config Node)
        → FindsLeft device owner (Asked session request) entries (by_fault m device fault kept entries (Asked session request) (replied reply undone after))
    finds_manager None session request reply undone after = finds_answer device owner true kept entries (Asked session request) reply undone after
    finds_manager (Some (Advance seconds)) session request reply undone after = finds_answer device owner true kept entries (Asked session request) reply undone after
    finds_manager (Some Drop) session request reply undone after =
        let h = losing m kept.recorded.device session in
        finds_break device owner true kept entries (Lost session) (Asked session request) h.undone h.after refl (same_test session) (lost_known owner device session (entries ++ []) coordinates)
    finds_manager (Some Cut) session request reply undone after = finds_cut_off kept entries (Asked session request) refl reply undone after (Some session) (λ other e. own_loss session other e)
    finds_manager (Some Restart) session request reply undone after = finds_restart (Asked session request) refl (λ undone after. refl)

-- ---- whose request it is

unheld : (held : Bool) (n : ℕ) → (held && not (n == 0)) ≡ false → 1 ≤ n → held ≡ false
unheld false n e le = refl
unheld true n e le = let other : not (n == 0) ≡ false = e in let none : n ≡ 0 = grind (arith, nat_tests, other) in absurd (omega (arith, le, none))

module _ {Config TheEdit Node : Type 0} (m : Meaning Config TheEdit Node) (tables : TablesState TheEdit) (device : ℕ) (owner : PassOwner) where
  finds_entering : (managers : Bool) (kept : KeptState Config Node) (entries : List PassEntry) (user : List ℕ) → bytes_eq user manager ≡ managers → (is_operator owner ≡ true → managers ≡ false)
      → FindsLeft device owner (Entered user) entries (if managers then manager_enters m device (prepared m kept) entries user else happens device false kept entries (Entered user) (entering kept.recorded.device user))
  finds_entering true kept entries user is other =
      let now = prepared m kept in
      let h = opened now.recorded.device user in
      finds_opening m device owner (by_manager (is_operator owner) true other refl) now entries (due now.faults) user (ap not is) h.reply false h.after
  finds_entering false kept entries user is other = let h = opened kept.recorded.device user in finds_answer device owner false kept entries (Entered user) h.reply false h.after

  finds_asking : (managers : Bool) (kept : KeptState Config Node) (entries : List PassEntry) (session : ℕ) (request : Request) → (managers ≡ true → is_operator owner ≡ false)
      → FindsLeft device owner (Asked session request) entries (if managers then manager_asks m tables device (prepared m kept) entries session request else happens device false kept entries (Asked session request) (asking m tables kept session request))
  finds_asking true kept entries session request coordinates =
      let now = prepared m kept in
      let h = device_step m tables now.recorded.device session request in
      finds_manager m device owner (coordinates refl) now entries (due now.faults) session request h.reply (undid request now.recorded.device h.after) h.after
  finds_asking false kept entries session request coordinates =
      let h = device_step m tables kept.recorded.device session request in
      finds_answer device owner false kept entries (Asked session request) h.reply (undid request kept.recorded.device h.after) h.after

  -- what ended a session is held once it was found
  found_held : (known : Bool) (entries after : List PassEntry) (it : Found) (session : ℕ) (request : Request) → (holds device it.position entries && not (it.position == 0)) ≡ known → IsEnd owner device session entries it
      → after ≡ (if known then entries else entries ++ record { device = device; position = it.position; noted = it.noted } ∷ []) → FindsBroken owner device it.position (Asked session request) entries after
  found_held true entries after it session request e is_end is = record {
    own = [];
    found = [];
    after_is = is ∙ sym (append-nil entries);
    own_is = tt;
    found_is = (above (it.position) (right_true (holds device it.position entries) (not (it.position == 0)) e), left (holds device it.position entries) (not (it.position == 0)) e);
    managers = refl;
  }
    where
      left : (a b : Bool) → (a && b) ≡ true → a ≡ true
      left true b e = refl
      left false b e = e

      above : (n : ℕ) → not (n == 0) ≡ true → 1 ≤ n
      above n e = grind (arith, nat_tests)
  found_held false entries after it session request e is_end is =
      gained_found owner (Asked session request) device it.position entries after (record { device = device; position = it.position; noted = it.noted }) refl
      (record {
        device_is = refl;
        position_is = refl;
        nowhere = is_end.nowhere;
        breaks_it = is_end.ended;
        known = λ le. subst (λ (es : List PassEntry). is_known owner device es it.noted.event ≡ true) (sym (append-nil entries)) (is_end.known le (unheld (holds device it.position entries) it.position e le));
      }) is

  finds_on : (may : Bool) (kept : KeptState Config Node) (entries : List PassEntry) (session : ℕ) (request : Request) (it : Found) → may_ask owner kept session ≡ may → IsEnd owner device session entries it
      → FindsLeft device owner (Asked session request) entries (if may then asks m tables device (with_room kept) entries session request else tells_end device kept entries it)
  finds_on true kept entries session request it may is_end =
      finds_asking (is_managers session kept.recorded.history) (with_room kept) entries session request
      (on_managers (is_open kept.recorded.device.sessions session) (is_operator owner) (is_managers session kept.recorded.history) may)
  finds_on false kept entries session request it may is_end =
      found_held (holds device it.position entries && not (it.position == 0)) entries (with_found device entries it) it session request refl is_end refl

  finds_by : (user : Option (List ℕ)) (session : Option ℕ) (kept : KeptState Config Node) (entries : List PassEntry) (request : Request) → (is_operator owner ≡ true → is_manager user ≡ false)
      → FindsBy owner (event_by session request user) (serve_by m tables device owner user session kept entries request).told entries (serve_by m tables device owner user session kept entries request).entries device
  finds_by (Some user) session kept entries request other = finds_entering (bytes_eq user manager) (with_room kept) entries user refl other
  finds_by None (Some session) kept entries request other =
      finds_on (may_ask owner kept session) kept entries session request (found owner device session entries kept.recorded.history) refl
      (is_end_at owner (is_managers session kept.recorded.history) device session entries kept.recorded.history (end_of session kept.recorded.history) refl)
  finds_by None None kept entries request other = (refl, refl)

  -- what a call left, as its caller has it
  finds_told : (told : Told) (old new : KeptState Config Node) (entries after : List PassEntry) (session : Option ℕ) (request : Request) → (is_operator owner ≡ true → is_manager (opening_user request) ≡ false)
      → Leaves told new after (serve_of m tables device owner old entries session request) → FindsBy owner (event_of session request) told entries after device
  finds_told told old new entries after session request other leaves =
      subst (λ t. FindsBy owner (event_of session request) t entries after device) (sym leaves.told_is)
      (subst (λ es. FindsBy owner (event_of session request) (serve_of m tables device owner old entries session request).told entries es device) (sym leaves.entries_is)
      (finds_by (opening_user request) session old entries request other))

-- an operator's request
pub finds : {Config TheEdit Node : Type 0} (m : Meaning Config TheEdit Node) (tables : TablesState TheEdit) (device : ℕ) (owner : PassOwner) (told : Told) (old new : KeptState Config Node) (entries after : List PassEntry) (session : Option ℕ) (request : Request)
    → may_operate owner request ≡ true → Leaves told new after (serve_of m tables device owner old entries session request) → FindsBy owner (event_of session request) told entries after device
finds m tables device (Coordinator change) told old new entries after session request may leaves = absurd (let never : false ≡ true = may in cc)
finds m tables device (Operator number) told old new entries after session request may leaves =
    finds_told m tables device (Operator number) told old new entries after session request (λ operates. not_true (is_manager (opening_user request)) may) leaves

-- a coordinator's
pub finds_change : {Config TheEdit Node : Type 0} (m : Meaning Config TheEdit Node) (tables : TablesState TheEdit) (device : ℕ) (owner : PassOwner) (told : Told) (old new : KeptState Config Node) (entries after : List PassEntry) (session : Option ℕ) (request : Request)
    (changes : List ChangePlan) (slot : SlotState) → is_in_turn changes owner slot device request ≡ true → Leaves told new after (serve_of m tables device owner old entries session request)
    → FindsBy owner (event_of session request) told entries after device
finds_change m tables device (Coordinator change) told old new entries after session request changes slot turn leaves =
    finds_told m tables device (Coordinator change) told old new entries after session request (λ never. absurd (let impossible : false ≡ true = never in cc)) leaves
finds_change m tables device (Operator number) told old new entries after session request changes slot turn leaves = absurd (let never : false ≡ true = turn in cc)

-- as the calls behind a lock end
module _ {Config TheEdit Node : Type 0} (m : Meaning Config TheEdit Node) (tables : TablesState TheEdit) (device : ℕ) (owner : PassOwner) (old new : KeptState Config Node) (entries after : List PassEntry) (session : Option ℕ) (request : Request) where
  pub ask_finds : (result : Result Told NoMemory) → may_operate owner request ≡ true → IfOk result (λ told. Leaves told new after (serve_of m tables device owner old entries session request))
      → IfOk result (λ told. FindsBy owner (event_of session request) told entries after device)
  ask_finds (Ok told) may leaves = finds m tables device owner told old new entries after session request may leaves
  ask_finds (Err fault) may leaves = tt

  pub change_finds : (changes : List ChangePlan) (slot : SlotState) (result : Result Told NoMemory) → is_in_turn changes owner slot device request ≡ true → IfOk result (λ told. Leaves told new after (serve_of m tables device owner old entries session request))
      → IfOk result (λ told. FindsBy owner (event_of session request) told entries after device)
  change_finds changes slot (Ok told) turn leaves = finds_change m tables device owner told old new entries after session request changes slot turn leaves
  change_finds changes slot (Err fault) turn leaves = tt
