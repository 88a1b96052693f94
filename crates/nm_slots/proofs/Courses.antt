-- What a call finds keeps the course of its pass, and why the change set was aborted.
use Rattle.std.proofs.Common.{◌≡◌, ℕ, zero, suc, ◌-◌, ◌==◌, Bool, true, false, not, ◌&&◌, ◌||◌, arith, List, [], ◌∷◌, ◌++◌, refl, sym, ap, ◌∙◌, subst, if◌then◌else◌}
use Rattle.std.specs.Prelude.{Option, Some, None, is_some, Result, Ok, Err, IfOk, OnErr, slice_get}
use Rattle.std.specs.List.{list_any}
use Rattle.std.proofs.lemmas.List.{append_assoc, append-nil}
use Rattle.std.proofs.lemmas.List.Folds.{list_any-append}
use Rattle.std.proofs.lemmas.Option.{same_Some}
use Rattle.std.proofs.lemmas.Bool.Decides.{nat_tests}
use Rattle.nm_base.specs.declared.tag.Tag.{Tag}
use Rattle.nm_base.specs.declared.fault.NoMemory.{NoMemory}
use Rattle.nm_proto.specs.declared.message.Reply.{Reply}
use Rattle.nm_proto.specs.declared.message.Reply.TheVariants.{Done, Opened, LockId, Mark, Rows, Error}
use Rattle.nm_proto.specs.declared.message.Request.{Request}
use Rattle.nm_proto.specs.declared.message.Request.TheVariants.{OpenSession, Lock, Unlock, PartialLock, PartialUnlock, Edit, Validate, Commit, CancelCommit, Discard, HasMark, GetConfig, Kill, CloseSession}
use Rattle.nm_proto.specs.declared.journal.AbortCause.{AbortCause}
use Rattle.nm_proto.specs.declared.journal.AbortCause.TheVariants.{Refused, Broken as IsBroken, Forgotten, Lapsed}
use Rattle.nm_proto.specs.declared.journal.Verdict.{Verdict}
use Rattle.nm_proto.specs.declared.journal.Verdict.TheVariants.{Abort}
use Rattle.nm_proto.specs.declared.plan.ChangePlan.{ChangePlan}
use Rattle.nm_history.specs.declared.event.DeviceEvent.{DeviceEvent}
use Rattle.nm_history.specs.declared.event.DeviceEvent.TheVariants.{Entered, Asked, Lost, Advanced, Restarted}
use Rattle.nm_history.specs.declared.event.Noted.{Noted}
use Rattle.nm_chronicle.specs.Shares.{SlotState, slot_decided}
use Rattle.nm_cells.specs.declared.asked.Asked.{Asked as Told}
use Rattle.nm_cells.specs.declared.asked.Asked.TheVariants.{Answered, Broken}
use Rattle.nm_cells.specs.declared.pass.PassEntry.{PassEntry}
use Rattle.nm_cells.specs.declared.pass.PassOwner.TheVariants.{Coordinator}
use Rattle.nm_cells.specs.Pass.{PassState}
use Rattle.nm_cells.specs.State.{slot_after, acknowledged}
use Rattle.nm_cells.specs.Ended.{opened_in, is_opening_of, ends as ends_session, is_done}
use Rattle.nm_cells.specs.Asking.{FindsBy, IsOwn, IsFound, IsBreaking, IsNowhere, breaks, is_known, kills_from_outside}
use Rattle.nm_slots.specs.declared.course.Reached.{Reached}
use Rattle.nm_slots.specs.declared.course.Reached.TheVariants.{Six, Over}
use Rattle.nm_slots.specs.Course.{is_number, is_later, is_later_request, first_session, answered_with, is_next, may_come, goes, goes_at, then_goes, reached, asks_on, may_go, may_ask, KeepsCourse, is_refused_with, is_tag, session_of, breaks_course, may_break, cause_stands}
use Rattle.nm_slots.specs.Slot.{SlotView, IsSlotKept, begun, verdict_stands, view_decided}
use Rattle.nm_slots.proofs.Steps.{pushed}

-- ---- Bool

both_right : (a b : Bool) → (a && b) ≡ true → b ≡ true
both_right true b e = e
both_right false b e = absurd (let g : false ≡ true = e in cc)

both_left : (a b : Bool) → (a && b) ≡ true → a ≡ true
both_left true b e = refl
both_left false b e = absurd (let g : false ≡ true = e in cc)

both : (a b : Bool) → a ≡ true → b ≡ true → (a && b) ≡ true
both true b ea eb = eb
both false b ea eb = ea

either_right : (a b : Bool) → b ≡ true → (a || b) ≡ true
either_right true b e = refl
either_right false b e = e

either_left : (a b : Bool) → a ≡ true → (a || b) ≡ true
either_left true b e = refl
either_left false b e = absurd (let g : false ≡ true = e in cc)

same_place : (one other : ℕ) → (one == other) ≡ true → one ≡ other
same_place one other e = grind (arith, nat_tests)

implied : {X : Type 0} (p q : X → Bool) → ((x : X) → p x ≡ true → q x ≡ true) → (xs : List X) → list_any p xs ≡ true → list_any q xs ≡ true
implied p q holds [] e = e
implied p q holds (x ∷ xs) e = by_first (p x) refl (implied p q holds xs) e
  where
    by_first : (b : Bool) → p x ≡ b → (list_any p xs ≡ true → list_any q xs ≡ true) → (b || list_any p xs) ≡ true → (q x || list_any q xs) ≡ true
    by_first true is rest got = either_left (q x) (list_any q xs) (holds x is)
    by_first false is rest got = either_right (q x) (list_any q xs) (rest got)

-- ---- one entry more at one device

module _ (plan : ChangePlan) (change : ℕ) (entries : List PassEntry) (entry : PassEntry) where
  later_comes : (device : ℕ) (at : Reached) (event : DeviceEvent) → is_later change device entries event ≡ true → may_come plan change device entries at event ≡ true
  later_comes device (Six done session) event later = either_right (is_next plan change device done session event) (is_later change device entries event) later
  later_comes device (Over done session refused) event later = later

  goes_if : (device : ℕ) (at : Reached) (b : Bool) → (entry.device == device) ≡ b → (b ≡ true → may_come plan change device entries at entry.noted.event ≡ true)
      → is_some (goes_at plan change device entries at entry) ≡ true
  goes_if device at true e may = rw (e, may refl) refl
  goes_if device at false e may = rw e refl

  goes_by : (device other : ℕ) (at : Option Reached) → reached plan change other entries ≡ at → is_some at ≡ true → entry.device ≡ device
      → ((here : Reached) → reached plan change device entries ≡ Some here → may_come plan change device entries here entry.noted.event ≡ true)
      → is_some (then_goes plan change other entries at entry) ≡ true
  goes_by device other None is there place may = absurd (let g : false ≡ true = there in cc)
  goes_by device other (Some at) is there place may =
      goes_if other at (entry.device == other) refl (λ e.
      let same : device ≡ other = sym place ∙ same_place entry.device other e in
      subst (λ d. may_come plan change d entries at entry.noted.event ≡ true) same (may at (subst (λ d. reached plan change d entries ≡ Some at) (sym same) is)))

  -- ---- what stays of where the pass had come

  -- a refusal stays
  refused_on : (device : ℕ) (tag : Tag) (done : ℕ) (session : Option ℕ) (refused : Option Tag) (here may : Bool) → is_tag tag refused ≡ true
      → is_some (if here then (if may then Some (Over done session refused) else None) else Some (Over done session refused)) ≡ true
      → is_refused_with tag (if here then (if may then Some (Over done session refused) else None) else Some (Over done session refused)) ≡ true
  refused_on device tag done session refused true true is goes_on = is
  refused_on device tag done session refused true false is goes_on = absurd (let g : false ≡ true = goes_on in cc)
  refused_on device tag done session refused false may is goes_on = is

  refused_stays : (device : ℕ) (tag : Tag) (at : Option Reached) → is_refused_with tag at ≡ true → is_some (then_goes plan change device entries at entry) ≡ true
      → is_refused_with tag (then_goes plan change device entries at entry) ≡ true
  refused_stays device tag None is goes_on = absurd (let g : false ≡ true = is in cc)
  refused_stays device tag (Some (Six done session)) is goes_on = absurd (let g : false ≡ true = is in cc)
  refused_stays device tag (Some (Over done session refused)) is goes_on =
      refused_on device tag done session refused (entry.device == device) (may_come plan change device entries (Over done session refused) entry.noted.event) is goes_on

  -- so does the session
  session_answered : (done : ℕ) (session : Option ℕ) (its : ℕ) (reply : Option Reply) → session ≡ Some its → session_of (Some (answered_with done session reply)) ≡ Some its
  session_answered done session its None e = e
  session_answered done session its (Some Done) e = e
  session_answered done session its (Some (Opened opened)) e = ap (λ s. Some (first_session s opened)) e
  session_answered done session its (Some (LockId id)) e = e
  session_answered done session its (Some (Mark there)) e = e
  session_answered done session its (Some (Rows count)) e = e
  session_answered done session its (Some (Error tag holder path)) e = e

  session_if : (done : ℕ) (session : Option ℕ) (its : ℕ) (next : Bool) → session ≡ Some its
      → session_of (Some (if next then answered_with done session entry.noted.reply else Over done session None)) ≡ Some its
  session_if done session its true e = session_answered done session its entry.noted.reply e
  session_if done session its false e = e

  session_goes : (device : ℕ) (at : Reached) (its : ℕ) → session_of (Some at) ≡ Some its → session_of (Some (goes plan change device at entry.noted)) ≡ Some its
  session_goes device (Six done session) its e = session_if done session its (is_next plan change device done session entry.noted.event) e
  session_goes device (Over done session refused) its e = e

  session_on : (at after : Reached) (its : ℕ) (here may : Bool) → session_of (Some at) ≡ Some its → session_of (Some after) ≡ Some its
      → is_some (if here then (if may then Some after else None) else Some at) ≡ true → session_of (if here then (if may then Some after else None) else Some at) ≡ Some its
  session_on at after its true true e f goes_on = f
  session_on at after its true false e f goes_on = absurd (let g : false ≡ true = goes_on in cc)
  session_on at after its false may e f goes_on = e

  session_stays : (device : ℕ) (at : Option Reached) (its : ℕ) → session_of at ≡ Some its → is_some (then_goes plan change device entries at entry) ≡ true
      → session_of (then_goes plan change device entries at entry) ≡ Some its
  session_stays device None its e goes_on = absurd (let g : None ≡ Some its = e in cc)
  session_stays device (Some at) its e goes_on =
      session_on at (goes plan change device at entry.noted) its (entry.device == device) (may_come plan change device entries at entry.noted.event) e (session_goes device at its e) goes_on

-- ---- what broke the course did so whatever comes after it

number_stays : (number : ℕ) (before after : Option ℕ) → ((its : ℕ) → before ≡ Some its → after ≡ Some its) → is_number number before ≡ true → is_number number after ≡ true
number_stays number None after stays e = absurd (let g : false ≡ true = e in cc)
number_stays number (Some its) after stays e = ap (is_number number) (stays its refl) ∙ e

breaks_stays : (before after : Option ℕ) (event : DeviceEvent) → ((its : ℕ) → before ≡ Some its → after ≡ Some its) → breaks_course before event ≡ true → breaks_course after event ≡ true
breaks_stays before after (Entered user) stays e = e
breaks_stays before after (Asked asker request) stays e = e
breaks_stays before after (Lost other) stays e = number_stays other before after stays e
breaks_stays before after (Advanced seconds) stays e = e
breaks_stays before after Restarted stays e = e

may_break_stays : (device : ℕ) (before after : Option ℕ) (it : PassEntry) → ((its : ℕ) → before ≡ Some its → after ≡ Some its) → may_break device before it ≡ true → may_break device after it ≡ true
may_break_stays device before after it stays e =
    both (it.device == device) (it.position == 0 || breaks_course after it.noted.event) (both_left (it.device == device) (it.position == 0 || breaks_course before it.noted.event) e)
    (by_place (it.position == 0) (both_right (it.device == device) (it.position == 0 || breaks_course before it.noted.event) e))
  where
    by_place : (b : Bool) → (b || breaks_course before it.noted.event) ≡ true → (b || breaks_course after it.noted.event) ≡ true
    by_place true got = refl
    by_place false got = breaks_stays before after it.noted.event stays got

-- ---- a pass that goes well

-- it keeps the course, and has why it was aborted where it was
record Holds (plan : ChangePlan) (change : ℕ) (verdict : Option Verdict) (entries : List PassEntry) : Type 0 where
  course : KeepsCourse plan change entries
  cause : (why : AbortCause) → verdict ≡ Some (Abort why) → cause_stands plan change entries why ≡ true

module _ (plan : ChangePlan) (change : ℕ) (verdict : Option Verdict) where
  cause_on : (entries : List PassEntry) (entry : PassEntry) (why : AbortCause) → KeepsCourse plan change (entries ++ entry ∷ []) → cause_stands plan change entries why ≡ true
      → cause_stands plan change (entries ++ entry ∷ []) why ≡ true
  cause_on entries entry (Refused device tag) kept e =
      let goes_on : is_some (then_goes plan change device entries (reached plan change device entries) entry) ≡ true = ap is_some (sym (pushed plan change device entries entry)) ∙ kept.each device in
      ap (is_refused_with tag) (pushed plan change device entries entry) ∙ refused_stays plan change entries entry device tag (reached plan change device entries) e goes_on
  cause_on entries entry (IsBroken device) kept e =
      let at = reached plan change device entries in
      let after = reached plan change device (entries ++ entry ∷ []) in
      let goes_on : is_some (then_goes plan change device entries at entry) ≡ true = ap is_some (sym (pushed plan change device entries entry)) ∙ kept.each device in
      list_any-append (may_break device (session_of after)) entries (entry ∷ [])
      ∙ either_left (list_any (may_break device (session_of after)) entries) (list_any (may_break device (session_of after)) (entry ∷ []))
      (implied (may_break device (session_of at)) (may_break device (session_of after)) (λ it. may_break_stays device (session_of at) (session_of after) it
      (λ its is. ap session_of (pushed plan change device entries entry) ∙ session_stays plan change entries entry device at its is goes_on)) entries e)
  cause_on entries entry Forgotten kept e = e
  cause_on entries entry (Lapsed device) kept e = e

  push_holds : (device : ℕ) (entries : List PassEntry) (entry : PassEntry) → Holds plan change verdict entries → entry.device ≡ device
      → ((here : Reached) → reached plan change device entries ≡ Some here → may_come plan change device entries here entry.noted.event ≡ true) → Holds plan change verdict (entries ++ entry ∷ [])
  push_holds device entries entry kept place may =
      let course : KeepsCourse plan change (entries ++ entry ∷ []) = record {
        each = λ other. ap is_some (pushed plan change other entries entry) ∙ goes_by plan change entries entry device other (reached plan change other entries) refl (kept.course.each other) place may;
      } in
      record { course = course; cause = λ why is. cause_on entries entry why course (kept.cause why is) }

-- ---- what broke a call may follow the six

opened_longer : (device session : ℕ) (entries more : List PassEntry) → opened_in device session entries ≡ true → opened_in device session (entries ++ more) ≡ true
opened_longer device session entries more e =
    list_any-append (is_opening_of device session) entries more ∙ either_left (opened_in device session entries) (opened_in device session more) e

module _ (change device : ℕ) (entries own : List PassEntry) where
  -- a kill that broke a call ended the session that was asked
  later_request : (session asker : ℕ) (request : Request) (reply : Option Reply) (undone : Bool) → opened_in device session entries ≡ true
      → ends_session session (record { event = Asked asker request; reply = reply; undone = undone }) ≡ true → kills_from_outside device (entries ++ own) asker request ≡ true
      → is_later_request change device (entries ++ own) asker request ≡ true
  later_request session asker (Kill other) reply undone there broke known =
      let same : other ≡ session = same_place other session (both_left (other == session) (is_done reply) broke) in
      both (opened_in device other (entries ++ own)) (not (opened_in device asker (entries ++ own)))
      (subst (λ s. opened_in device s (entries ++ own) ≡ true) (sym same) (opened_longer device session entries own there)) known
  later_request session asker (OpenSession user) reply undone there broke known = absurd (let g : false ≡ true = known in cc)
  later_request session asker (Lock store) reply undone there broke known = absurd (let g : false ≡ true = known in cc)
  later_request session asker (Unlock store) reply undone there broke known = absurd (let g : false ≡ true = known in cc)
  later_request session asker (PartialLock select) reply undone there broke known = absurd (let g : false ≡ true = known in cc)
  later_request session asker (PartialUnlock id) reply undone there broke known = absurd (let g : false ≡ true = known in cc)
  later_request session asker (Edit edit operation marks) reply undone there broke known = absurd (let g : false ≡ true = known in cc)
  later_request session asker Validate reply undone there broke known = absurd (let g : false ≡ true = known in cc)
  later_request session asker (Commit confirmed timeout persist persist_id) reply undone there broke known = absurd (let g : false ≡ true = known in cc)
  later_request session asker (CancelCommit persist_id) reply undone there broke known = absurd (let g : false ≡ true = known in cc)
  later_request session asker Discard reply undone there broke known = absurd (let g : false ≡ true = known in cc)
  later_request session asker (HasMark other) reply undone there broke known = absurd (let g : false ≡ true = known in cc)
  later_request session asker GetConfig reply undone there broke known = absurd (let g : false ≡ true = known in cc)
  later_request session asker CloseSession reply undone there broke known = absurd (let g : false ≡ true = known in cc)

  later_event : (plan : ChangePlan) (event other : DeviceEvent) (reply : Option Reply) (undone : Bool) → asks_on plan change device entries event ≡ true
      → breaks event own (record { event = other; reply = reply; undone = undone }) ≡ true → is_known (Coordinator change) device (entries ++ own) other ≡ true
      → is_later change device (entries ++ own) other ≡ true
  later_event plan event (Entered user) reply undone there broke known = absurd (let g : false ≡ true = known in cc)
  later_event plan (Asked session asked) (Asked asker request) reply undone there broke known = later_request session asker request reply undone there broke known
  later_event plan (Entered user) (Asked asker request) reply undone there broke known = absurd (let g : false ≡ true = broke in cc)
  later_event plan (Lost session) (Asked asker request) reply undone there broke known = absurd (let g : false ≡ true = broke in cc)
  later_event plan (Advanced seconds) (Asked asker request) reply undone there broke known = absurd (let g : false ≡ true = broke in cc)
  later_event plan Restarted (Asked asker request) reply undone there broke known = absurd (let g : false ≡ true = broke in cc)
  later_event plan event (Lost session) reply undone there broke known = refl
  later_event plan event (Advanced seconds) reply undone there broke known = absurd (let g : false ≡ true = known in cc)
  later_event plan event Restarted reply undone there broke known = refl

  later_nowhere : (event : DeviceEvent) (noted : Noted) → IsNowhere event noted → is_later change device (entries ++ own) noted.event ≡ true
  later_nowhere (Asked session request) noted is = ap (λ (n : Noted). is_later change device (entries ++ own) n.event) is
  later_nowhere (Entered user) noted is = absurd is
  later_nowhere (Lost session) noted is = absurd is
  later_nowhere (Advanced seconds) noted is = absurd is
  later_nowhere Restarted noted is = absurd is

  later_breaking : (plan : ChangePlan) (event : DeviceEvent) (position : ℕ) (entry : PassEntry) → asks_on plan change device entries event ≡ true
      → IsBreaking (Coordinator change) device position event entries own entry → is_later change device (entries ++ own) entry.noted.event ≡ true
  later_breaking plan event zero entry there it = later_nowhere event entry.noted (it.nowhere refl)
  later_breaking plan event (suc n) entry there it =
      later_event plan event entry.noted.event entry.noted.reply entry.noted.undone there (it.breaks_it (omega arith)) (it.known (omega arith))

-- ---- what a call finds

module _ (plan : ChangePlan) (change device : ℕ) (verdict : Option Verdict) (entries after : List PassEntry) where
  own_comes : (event : DeviceEvent) (entry : PassEntry) → entry.noted.event ≡ event → may_go plan change device entries event (reached plan change device entries) ≡ true
      → (here : Reached) → reached plan change device entries ≡ Some here → may_come plan change device entries here entry.noted.event ≡ true
  own_comes event entry is may here at =
      subst (λ e. may_come plan change device entries here e ≡ true) (sym is) (subst (λ r. may_go plan change device entries event r ≡ true) at may)

  own_holds : (event : DeviceEvent) (own : List PassEntry) → may_go plan change device entries event (reached plan change device entries) ≡ true → Holds plan change verdict entries
      → IsOwn device event own → Holds plan change verdict (entries ++ own)
  own_holds event [] may kept its = subst (Holds plan change verdict) (sym (append-nil entries)) kept
  own_holds event (entry ∷ []) may kept its = push_holds plan change verdict device entries entry kept its.0 (own_comes event entry its.2 may)
  own_holds event (entry ∷ other ∷ later) may kept its = absurd its

  found_holds : (own : List PassEntry) (event : DeviceEvent) (position : ℕ) (found : List PassEntry) → asks_on plan change device entries event ≡ true → Holds plan change verdict (entries ++ own)
      → IsFound (Coordinator change) device position event entries own found → Holds plan change verdict ((entries ++ own) ++ found)
  found_holds own event position [] there kept its = subst (Holds plan change verdict) (sym (append-nil (entries ++ own))) kept
  found_holds own event position (entry ∷ []) there kept its =
      push_holds plan change verdict device (entries ++ own) entry kept its.device_is
      (λ here at. later_comes plan change (entries ++ own) entry device here entry.noted.event (later_breaking change device entries own plan event position entry there its))
  found_holds own event position (entry ∷ other ∷ later) there kept its = absurd its

  holds_by : (event : DeviceEvent) (told : Told) → may_ask plan change device entries (Some event) ≡ true → Holds plan change verdict entries
      → FindsBy (Coordinator change) (Some event) told entries after device → Holds plan change verdict after
  holds_by event (Answered position reply) may kept found =
      let goes_on = both_right (asks_on plan change device entries event) (may_go plan change device entries event (reached plan change device entries)) may in
      let undone : Bool = found.1.0 in
      let entry : PassEntry = record { device = device; position = position; noted = record { event = event; reply = Some reply; undone = undone } } in
      subst (Holds plan change verdict) (sym found.1.1) (push_holds plan change verdict device entries entry kept refl (own_comes event entry refl goes_on))
  holds_by event (Broken position) may kept found =
      let there = both_left (asks_on plan change device entries event) (may_go plan change device entries event (reached plan change device entries)) may in
      let goes_on = both_right (asks_on plan change device entries event) (may_go plan change device entries event (reached plan change device entries)) may in
      subst (Holds plan change verdict) (append_assoc entries found.own found.found ∙ sym found.after_is)
      (found_holds found.own event position found.found there (own_holds event found.own goes_on kept found.own_is) found.found_is)

  asked_holds : (event : Option DeviceEvent) (told : Told) → may_ask plan change device entries event ≡ true → Holds plan change verdict entries
      → FindsBy (Coordinator change) event told entries after device → Holds plan change verdict after
  asked_holds None told may kept found = absurd (let g : false ≡ true = may in cc)
  asked_holds (Some event) told may kept found = holds_by event told may kept found

-- what a call finds that might be made keeps the course
pub asked_keeps : (plan : ChangePlan) (change device : ℕ) (entries after : List PassEntry) (event : Option DeviceEvent) (told : Told) → may_ask plan change device entries event ≡ true
    → KeepsCourse plan change entries → FindsBy (Coordinator change) event told entries after device → KeepsCourse plan change after
asked_keeps plan change device entries after event told may kept found =
    let before : Holds plan change None entries = record { course = kept; cause = λ why is. absurd (let g : None ≡ Some (Abort why) = is in cc) } in
    (asked_holds plan change device None entries after event told may before found).course

-- ---- the slot

module _ (changes : List ChangePlan) (change : ℕ) where
  abbrev pub slot_of : SlotState → PassState → SlotView
  slot_of shares pass = record { change = change; shares = shares; pass = pass }

  holds_in : (plan : ChangePlan) (shares : SlotState) (pass : PassState) → slice_get changes (change - 1) ≡ Some plan → IsSlotKept changes (slot_of shares pass)
      → Holds plan change shares.verdict pass.entries
  holds_in plan shares pass is kept = record { course = kept.course plan is; cause = kept.cause plan is }

  -- a slot whose pass goes well by the plan is kept
  kept_by : (plan : ChangePlan) (shares : SlotState) (pass : PassState) → slice_get changes (change - 1) ≡ Some plan → pass.owner ≡ Coordinator change
      → Holds plan change shares.verdict pass.entries → IsSlotKept changes (slot_of shares pass)
  kept_by plan shares pass is owner holds = record {
    owner = owner;
    course = λ other at. subst (λ p. KeepsCourse p change pass.entries) (same_Some plan other (sym is ∙ at)) holds.course;
    cause = λ other at why stands. subst (λ p. cause_stands p change pass.entries why ≡ true) (same_Some plan other (sym is ∙ at)) (holds.cause why stands);
  }

  -- other calls on the board than a verdict leave it so
  pub shares_keep : (shares shares_after : SlotState) (pass : PassState) → shares_after.verdict ≡ shares.verdict → IsSlotKept changes (slot_of shares pass)
      → IsSlotKept changes (slot_of shares_after pass)
  shares_keep shares shares_after pass same kept = record { owner = kept.owner; course = kept.course; cause = λ plan is why stands. kept.cause plan is why (sym same ∙ stands) }

  same_verdict : (shares : SlotState) (acknowledges : Option ℕ) → (slot_after shares acknowledges).verdict ≡ shares.verdict
  same_verdict shares None = refl
  same_verdict shares (Some other) = refl

  -- what a call found keeps it
  pub kept_after : (plan : ChangePlan) (shares shares_after : SlotState) (pass pass_after : PassState) (request : Request) (event : Option DeviceEvent) (device : ℕ) (result : Result Told NoMemory)
      → slice_get changes (change - 1) ≡ Some plan → may_ask plan change device pass.entries event ≡ true → IsSlotKept changes (slot_of shares pass)
      → IfOk result (λ asked. FindsBy pass.owner event asked pass.entries pass_after.entries device) → pass_after.owner ≡ pass.owner → OnErr result (pass_after ≡ pass)
      → IfOk result (λ asked. shares_after ≡ slot_after shares (acknowledged pass.owner request asked)) → OnErr result (shares_after ≡ shares)
      → IsSlotKept changes (slot_of shares_after pass_after)
  kept_after plan shares shares_after pass pass_after request event device (Ok asked) is may kept found owner stays counted stays_so =
      let same : shares_after.verdict ≡ shares.verdict = ap (λ (s : SlotState). s.verdict) counted ∙ same_verdict shares (acknowledged pass.owner request asked) in
      let after = asked_holds plan change device shares.verdict pass.entries pass_after.entries event asked may (holds_in plan shares pass is kept)
      (subst (λ o. FindsBy o event asked pass.entries pass_after.entries device) kept.owner found) in
      kept_by plan shares_after pass_after is (owner ∙ kept.owner) (subst (λ v. Holds plan change v pass_after.entries) (sym same) after)
  kept_after plan shares shares_after pass pass_after request event device (Err error) is may kept found owner stays counted stays_so =
      subst (λ p. IsSlotKept changes (slot_of shares_after p)) (sym stays) (subst (λ s. IsSlotKept changes (slot_of s pass)) (sym stays_so) kept)

  -- a verdict whose cause stands keeps it
  pub decided_keeps : (plan : ChangePlan) (shares : SlotState) (pass : PassState) (verdict : Verdict) → slice_get changes (change - 1) ≡ Some plan
      → verdict_stands plan change pass.entries verdict ≡ true → IsSlotKept changes (slot_of shares pass) → IsSlotKept changes (view_decided (slot_of shares pass) verdict)
  decided_keeps plan shares pass verdict is stands kept =
      kept_by plan (slot_decided shares verdict) pass is kept.owner (record {
        course = kept.course plan is;
        cause = λ why same. subst (λ v. verdict_stands plan change pass.entries v ≡ true) (same_Some verdict (Abort why) same) stands;
      })

  -- a coordinator that isn't decided and has found nothing is kept
  pub begun_keeps : (shares : SlotState) → shares.verdict ≡ None → IsSlotKept changes (begun change shares)
  begun_keeps shares undecided = record {
    owner = refl;
    course = λ plan is. record { each = λ device. refl };
    cause = λ plan is why stands. absurd (let g : None ≡ Some (Abort why) = sym undecided ∙ stands in cc);
  }
