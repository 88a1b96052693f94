-- What a crash reads: over a disk that tells its bytes what was written, in which nothing is damaged; and over any disk, what comes of it.
use Rattle.std.proofs.Common.{◌≡◌, ◌≤◌, ◌<◌, ◌-◌, ◌==◌, ℕ, zero, suc, not, cond, List, [], ◌∷◌, ◌++◌, length, Bool, true, false, ◌&&◌, Option, Some, None, Result, Ok, Err, OnOk, IsSome, IfSome, ◌⊎◌, inl, inr, slice_get, get_or, take, ◌+◌, refl, sym, ap, ◌∙◌, subst, arith, if◌then◌else◌}
use Rattle.std.specs.List.{All}
use Rattle.std.proofs.lemmas.Bool.Decides.{nat_tests}
use Rattle.std.proofs.lemmas.List.{take_more}
use Rattle.std.proofs.lemmas.List.Elements.{All-push, All-head, All-tail}
use Rattle.std.proofs.lemmas.List.Quantifiers.{position-Some}
use Rattle.nm_disk.specs.Image.{DiskState}
use Rattle.nm_proto.specs.Content.{Meaning}
use Rattle.nm_proto.specs.Plan.{devices_in}
use Rattle.nm_proto.specs.declared.journal.Entry.{Entry}
use Rattle.nm_proto.specs.declared.journal.Entry.TheVariants as entries
use Rattle.nm_proto.specs.declared.plan.ChangePlan.{ChangePlan}
use Rattle.nm_proto.specs.declared.plan.Event.{Event}
use Rattle.nm_proto.specs.declared.plan.Event.TheVariants.{Submit, Turn, Deliver, Answer, Crash, Round}
use Rattle.nm_journal.specs.Entries.{may_follow, has_record, comes_next, verdict_has_record}
use Rattle.nm_journal.specs.Record.{is_change}
use Rattle.nm_journal.specs.Fits.{JournalState, Fits, IsDamagedAt}
use Rattle.nm_decider.specs.declared.course.NextAction.{NextAction}
use Rattle.nm_decider.specs.declared.course.NextAction.TheVariants as next
use Rattle.nm_decider.specs.Course.{next_action}
use Rattle.nm_manager.specs.Queues.{is_ready_in}
use Rattle.nm_manager.specs.Slot.{SlotState}
use Rattle.nm_manager.specs.Manager.{wire_in, IsStrangeAt, is_strange, is_strange_to, start_by, entry_of, entry_by, entry_next, slot_at}
use Rattle.nm_manager.specs.declared.action.TurnFault.{TurnFault}
use Rattle.nm_world.specs.declared.happened.Happened.{Happened}
use Rattle.nm_world.specs.declared.happened.Happened.TheVariants as happened
use Rattle.nm_world.specs.declared.happened.TraceEntry.{TraceEntry}
use Rattle.nm_world.specs.declared.happened.Sending.{Sending}
use Rattle.nm_world.specs.Runs.{ComesBy, IsNumbered, LeadsTo, NoneStrange, Reaches, Rereads, RereadsCore, crashed_with, reread}
use Rattle.nm_world.specs.Drain.{drain_by, drain_event, drain_step, drained}
use Rattle.nm_world.specs.World as world
use Rattle.nm_world.specs.World.{Setting, CoreState, CoreValue, WorldState, WorldValue, with_state, core_of, crashing, manager_in, elementary, world_step, sending_of, replies_on, followed, round, rounds, event_step, run, is_crash, AreCalm}
use Rattle.nm_world.proofs.Crashing.{reads_now, same_read}
use Rattle.nm_world.proofs.Growing.{Enters, event_enters, event_diverges}
use Rattle.nm_world.proofs.Order.{Read, Bad}
use Rattle.nm_world.proofs.Passing.{applied_so, drained_more, whole_of}

-- ---- nothing is damaged

-- an entry, for a place where there is none
no_entry : Entry
no_entry = entries.Ended 0 (record { 0 = 0 })

-- the place of a strange entry isn't in a list that has none
none_found : (plans : List ChangePlan) (list : List Entry) (place : ℕ) → NoneStrange plans list → is_strange plans (get_or list place no_entry) ≡ true → place < length list → ⊥
none_found plans list place none found within = absurd (let f : true ≡ false = sym found ∙ none place no_entry within in cc)

-- over a disk that tells its bytes the journal isn't damaged, where it holds no strange entry
pub undamaged : (journal : JournalState) (disk : DiskState) (plans : List ChangePlan) (now : Option (List ℕ)) (offset : ℕ) → disk.contents ≡ now → journal.failed ≡ None → Fits journal disk
    → ((bytes : List ℕ) → disk.contents ≡ Some bytes → disk.crash_images bytes) → NoneStrange plans journal.entries → IsSome now
    → IfSome now (IsDamagedAt offset) ⊎ IsStrangeAt plans now offset → ⊥
undamaged journal disk plans None offset is whole fits as_read none there why = absurd (let no : false ≡ true = there in cc)
undamaged journal disk plans (Some bytes) offset is whole fits as_read none there (inl damaged) =
    absurd (let no : Read journal.entries ≡ Bad offset = sym (reads_now journal disk bytes is whole fits as_read) ∙ damaged in cc)
undamaged journal disk plans (Some bytes) offset is whole fits as_read none there (inr strange) =
    let same : strange.entries ≡ journal.entries = same_read journal disk (Some bytes) strange.entries is whole fits as_read strange.read there in
    let first = position-Some (is_strange plans) strange.entries strange.place no_entry strange.first in
    none_found plans strange.entries strange.place (subst (NoneStrange plans) (sym same) none) first.1 first.0

-- ---- no entry of a run is strange

-- a change set that there is has a plan
planned : (plans : List ChangePlan) (place : ℕ) (entry : Entry) → place < length plans → ((plan : ChangePlan) → is_strange_to (Some plan) entry ≡ false) → is_strange_to (slice_get plans place) entry ≡ false
planned [] place entry within plain = absurd (omega (arith, within))
planned (plan ∷ plans) zero entry within plain = plain plan
planned (plan ∷ plans) (suc place) entry within plain = planned plans place entry (omega (arith, within)) plain

abbrev IsOwn : List ChangePlan → List Entry → Option Entry → Type 0
IsOwn plans before entry = IfSome entry (λ e. may_follow before e ≡ true → is_strange plans e ≡ false)

same_number : (n : ℕ) → (n == n) ≡ true
same_number n = grind (arith, nat_tests)

start_own : (plans : List ChangePlan) (before : List Entry) (change : ℕ) (found : Option ChangePlan) → slice_get plans (change - 1) ≡ found → IsOwn plans before (start_by change found)
start_own plans before change None is = tt
start_own plans before change (Some plan) is = λ may.
    let entry : Entry = entries.Started change (record { 0 = devices_in plan.edits }) (Some plan.timeout) in
    ap (λ o. is_strange_to o entry) is ∙ ap not (same_number (devices_in plan.edits))

first_of : (a b : Bool) → (a && b) ≡ true → a ≡ true
first_of true b h = refl
first_of false b h = h

-- a change set with a record is counted from 1
counted : (change : ℕ) → is_change change ≡ true → 1 ≤ change
counted zero h = absurd (let f : false ≡ true = h in cc)
counted (suc change) h = omega arith

act_own : (plans : List ChangePlan) (before : List Entry) (change : ℕ) (what : NextAction) → change ≤ length plans → IsOwn plans before (entry_of change what)
act_own plans before change next.Wait few = tt
act_own plans before change (next.Send device what) few = tt
act_own plans before change (next.Decide verdict) few = λ may.
    let entry : Entry = entries.Decided change verdict in
    let from = counted change (first_of (is_change change) (verdict_has_record verdict) (first_of (has_record entry) (comes_next before entry) may)) in
    planned plans (change - 1) entry (omega (arith, from, few)) (λ plan. refl)
act_own plans before change (next.Finish kept) few = λ may.
    let entry : Entry = entries.Ended change kept in
    let from = counted change (first_of (is_change change) (comes_next before entry) may) in
    planned plans (change - 1) entry (omega (arith, from, few)) (λ plan. refl)

turn_own : (plans : List ChangePlan) (before : List Entry) (change : ℕ) (slot : Option SlotState) → change ≤ length plans → IsOwn plans before (entry_by change slot)
turn_own plans before change None few = tt
turn_own plans before change (Some slot) few = act_own plans before change (next_action slot.course) few

if_own : (plans : List ChangePlan) (before : List Entry) (entry : Option Entry) (ready : Bool) → IsOwn plans before entry → IsOwn plans before (if ready then entry else None)
if_own plans before entry true own = own
if_own plans before entry false own = tt

enters_own : (plans : List ChangePlan) (before : List Entry) (entry : Option Entry) (after : List Entry) → Enters before entry after → IsOwn plans before entry → NoneStrange plans before → NoneStrange plans after
enters_own plans before None after is own none = subst (NoneStrange plans) (sym is) none
enters_own plans before (Some entry) after is own none = by_may (may_follow before entry) refl is
  where
    by_may : (b : Bool) → may_follow before entry ≡ b → after ≡ cond b (before ++ entry ∷ []) before → NoneStrange plans after
    by_may true may is = subst (NoneStrange plans) (sym is) (All-push (λ e. is_strange plans e ≡ false) before entry none (own may))
    by_may false may is = subst (NoneStrange plans) (sym is) none

module _ {Config TheEdit Node : Type 0} (m : Meaning Config TheEdit Node) (setting : Setting TheEdit) where
  event_own : (w : CoreState Config Node) (event : Event) → IsNumbered (length setting.plans) event → IsOwn setting.plans w.entries (world.entry_of setting w event)
  event_own w (Submit change) few = start_own setting.plans w.entries change (slice_get setting.plans (change - 1)) refl
  event_own w (Turn change) few =
      if_own setting.plans w.entries (entry_next (manager_in w) change) (is_ready_in w.entries change) (turn_own setting.plans w.entries change (slot_at (manager_in w) change) few)
  event_own w event few = tt

  abbrev IsPlain : WorldState Config Node → Type 0
  IsPlain w = NoneStrange setting.plans w.entries

  pub step_plain : (w : WorldState Config Node) (event : Event) → IsNumbered (length setting.plans) event → IsPlain w → IsPlain (world_step m setting w event)
  step_plain w event few plain =
      enters_own setting.plans w.entries (world.entry_of setting (core_of w) event) (world_step m setting w event).entries (event_enters m setting (core_of w) event) (event_own (core_of w) event few) plain

  module _ (change : ℕ) (few : change ≤ length setting.plans) where
    followed_plain : (w : WorldState Config Node) (sending : Option Sending) → IsPlain w → IsPlain (followed m setting w change sending)
    followed_plain w None plain = plain
    followed_plain w (Some sending) plain =
        let delivered = world_step m setting w (Deliver change sending.device sending.link) in
        step_plain delivered (Answer change sending.device sending.link (replies_on (wire_in (manager_in (core_of delivered)) change sending.device) sending.link)) few (step_plain w (Deliver change sending.device sending.link) few plain)

    round_plain : (w : WorldState Config Node) → IsPlain w → IsPlain (round m setting w change)
    round_plain w plain =
        followed_plain (world_step m setting w (Turn change)) (sending_of (elementary m setting (core_of w) (Turn change)).happened) (step_plain w (Turn change) few plain)

    rounds_plain : (n : ℕ) (w : WorldState Config Node) → IsPlain w → IsPlain (rounds m setting n w change)
    rounds_plain zero w plain = plain
    rounds_plain (suc n) w plain = rounds_plain n (round m setting w change) (round_plain w plain)

  event_plain : (w : WorldState Config Node) (event : Event) → IsNumbered (length setting.plans) event → IsPlain w → IsPlain (event_step m setting w event)
  event_plain w (Round change turns) few plain = rounds_plain change few turns w plain
  event_plain w event few plain = step_plain w event few plain

  -- no run makes a strange entry
  pub run_plain : (w : WorldState Config Node) (events : List Event) → All (IsNumbered (length setting.plans)) events → IsPlain w → IsPlain (run m setting w events)
  run_plain w [] each plain = plain
  run_plain w (event ∷ events) each plain =
      run_plain (event_step m setting w event) events (All-tail (IsNumbered (length setting.plans)) event events each)
      (event_plain w event (All-head (IsNumbered (length setting.plans)) event events each) plain)

-- ---- what comes of an event, whatever is read

pub crash_is : (event : Event) → is_crash event ≡ true → event ≡ Crash
crash_is Crash is = refl
crash_is event is = absurd (let f : false ≡ true = is in cc)

-- a crash, by its clauses
module _ {TheContent Config TheEdit Node : Type 0} (old new : CoreValue TheContent Config TheEdit Node) where
  pub reread_ok : (result : Result Happened TurnFault)
      → OnOk result (new.state.has_diverged ≡ false → new ≡ record old { state = (crashing old.setting.plans old.state).after })
      → OnOk result (new ≡ crashed_with old new.state.entries new.state.has_diverged) → OnOk result (new.state.has_diverged ≡ false → old.state.has_diverged ≡ false)
      → OnOk result (new.state.entries ≡ old.state.entries → new.state.has_diverged ≡ old.state.has_diverged) → OnOk result (RereadsCore old new)
  reread_ok (Ok what) came read once same = record {
    goes_on = read;
    same = same;
    once = once;
    unchanged = λ straight. ap (λ (w : CoreValue TheContent Config TheEdit Node). w.state.entries) (came straight);
  }
  reread_ok (Err fault) came read once same = tt

module _ {TheContent Config TheEdit Node : Type 0} (m : Meaning Config TheEdit Node) (core new : CoreValue TheContent Config TheEdit Node) (trail later : List TraceEntry) where
  rereads_so : RereadsCore core new → later ≡ trail ++ record { event = Crash; happened = happened.Crashed } ∷ [] → Rereads core.setting.plans (whole_of core trail).state (whole_of new later).state
  rereads_so r told = record {
    goes_on =
        ap (λ (s : CoreValue TheContent Config TheEdit Node). (whole_of s later).state) r.goes_on
        ∙ ap (λ (t : List TraceEntry). (whole_of (crashed_with core new.state.entries new.state.has_diverged) t).state) told;
    same = r.same;
    once = r.once;
    unchanged = r.unchanged;
  }

  abbrev Comes : Event → Type 0
  Comes event = ComesBy (λ w. world_step m core.setting w event) core.setting.plans event (whole_of core trail).state (whole_of new later).state

  pub applied_comes : (event noted : Event) (what : Happened) → what ≡ (elementary m core.setting core.state event).happened → noted ≡ event → later ≡ trail ++ record { event = noted; happened = what } ∷ []
      → (is_crash event ≡ false → new ≡ record core { state = (elementary m core.setting core.state event).after }) → (is_crash event ≡ true → RereadsCore core new) → Comes event
  applied_comes event noted what told copied tells exact reread = record {
    does = λ calm. applied_so core new trail later event noted what (elementary m core.setting core.state event) (exact calm) told copied tells;
    rereads = λ crashes.
        let is = crash_is event crashes in
        let crashed : what ≡ happened.Crashed = told ∙ ap (λ e. (elementary m core.setting core.state e).happened) is in
        rereads_so (reread crashes)
        (tells ∙ ap (λ (e : Event). trail ++ record { event = e; happened = what } ∷ []) (copied ∙ is)
        ∙ ap (λ (h : Happened). trail ++ record { event = Crash; happened = h } ∷ []) crashed);
  }

-- ---- one after another

module _ {Config TheEdit Node : Type 0} (m : Meaning Config TheEdit Node) (setting : Setting TheEdit) where
  -- one event more, at the end
  pub reaches_then : (w : WorldState Config Node) (first : List Event) (event : Event) (mid now : WorldState Config Node) → Reaches m setting w first mid → LeadsTo m setting event mid now
      → Reaches m setting w (first ++ event ∷ []) now
  reaches_then w [] event mid now is leads = (now, subst (λ v. LeadsTo m setting event v now) is leads, refl)
  reaches_then w (one ∷ first) event mid now reaches leads = (reaches.0, reaches.1, reaches_then reaches.0 first event mid now reaches.2 leads)

-- ---- what reads nothing doesn't diverge

module _ {Config TheEdit Node : Type 0} (m : Meaning Config TheEdit Node) (setting : Setting TheEdit) where
  followed_diverges : (w : WorldState Config Node) (change : ℕ) (sending : Option Sending) → (followed m setting w change sending).has_diverged ≡ w.has_diverged
  followed_diverges w change None = refl
  followed_diverges w change (Some sending) =
      let delivered = world_step m setting w (Deliver change sending.device sending.link) in
      event_diverges m setting (core_of delivered) (Answer change sending.device sending.link (replies_on (wire_in (manager_in (core_of delivered)) change sending.device) sending.link))
      ∙ event_diverges m setting (core_of w) (Deliver change sending.device sending.link)

  rounds_diverge : (n : ℕ) (w : WorldState Config Node) (change : ℕ) → (rounds m setting n w change).has_diverged ≡ w.has_diverged
  rounds_diverge zero w change = refl
  rounds_diverge (suc n) w change =
      let turned = world_step m setting w (Turn change) in
      rounds_diverge n (round m setting w change) change
      ∙ followed_diverges turned change (sending_of (elementary m setting (core_of w) (Turn change)).happened) ∙ event_diverges m setting (core_of w) (Turn change)

  event_step_diverges : (w : WorldState Config Node) (event : Event) → (event_step m setting w event).has_diverged ≡ w.has_diverged
  event_step_diverges w (Round change turns) = rounds_diverge turns w change
  event_step_diverges w event = event_diverges m setting (core_of w) event

  -- rounds
  pub rounds_lead : (event : Event) (w now : WorldState Config Node) (change turns : ℕ) → now ≡ rounds m setting turns w change → event ≡ Round change turns → LeadsTo m setting event w now
  rounds_lead event w now change turns is round_is = record {
    does = λ calm. is ∙ sym (ap (event_step m setting w) round_is);
    rereads = λ crashes. absurd (let f : true ≡ false = sym crashes ∙ ap is_crash round_is in cc);
  }

  -- events without a crash
  pub reaches_calm : (w : WorldState Config Node) (events : List Event) (now : WorldState Config Node) → AreCalm events → Reaches m setting w events now → now.has_diverged ≡ w.has_diverged
  reaches_calm w [] now calm is = ap (λ (v : WorldState Config Node). v.has_diverged) is
  reaches_calm w (event ∷ events) now calm reaches =
      reaches_calm reaches.0 events now (All-tail (λ e. is_crash e ≡ false) event events calm) reaches.2
      ∙ ap (λ (v : WorldState Config Node). v.has_diverged) (reaches.1.does (All-head (λ e. is_crash e ≡ false) event events calm)) ∙ event_step_diverges w event

  drain_by_diverges : (w : WorldState Config Node) (event : Option Event) → (drain_by m setting w event).has_diverged ≡ w.has_diverged
  drain_by_diverges w None = refl
  drain_by_diverges w (Some event) = event_diverges m setting (core_of w) event

  -- steps of a drain
  pub drained_diverges : (n : ℕ) (w : WorldState Config Node) → (drained m setting n w).has_diverged ≡ w.has_diverged
  drained_diverges zero w = refl
  drained_diverges (suc n) w = drained_diverges n (drain_step m setting w) ∙ drain_by_diverges w (drain_event setting w)

  -- where no list but those that were written was read, that is the run of the events
  reread_so : (w now : WorldState Config Node) → Rereads setting.plans w now → now.has_diverged ≡ false → now ≡ event_step m setting w Crash
  reread_so w now r straight =
      r.goes_on ∙ ap (λ (l : List Entry). reread setting.plans w l now.has_diverged) (r.unchanged straight)
      ∙ ap (λ (b : Bool). reread setting.plans w w.entries b) (straight ∙ sym (r.once straight))

  leads_so : (w : WorldState Config Node) (event : Event) (now : WorldState Config Node) → LeadsTo m setting event w now → now.has_diverged ≡ false → (b : Bool) → is_crash event ≡ b → now ≡ event_step m setting w event
  leads_so w event now leads straight false is = leads.does is
  leads_so w event now leads straight true is = reread_so w now (leads.rereads is) straight ∙ ap (event_step m setting w) (sym (crash_is event is))

  leads_once : (w : WorldState Config Node) (event : Event) (now : WorldState Config Node) → LeadsTo m setting event w now → now.has_diverged ≡ false → (b : Bool) → is_crash event ≡ b → w.has_diverged ≡ false
  leads_once w event now leads straight false is = sym (ap (λ (v : WorldState Config Node). v.has_diverged) (leads.does is) ∙ event_step_diverges w event) ∙ straight
  leads_once w event now leads straight true is = (leads.rereads is).once straight

  reaches_once : (w : WorldState Config Node) (events : List Event) (now : WorldState Config Node) → Reaches m setting w events now → now.has_diverged ≡ false → w.has_diverged ≡ false
  reaches_once w [] now is straight = sym (ap (λ (v : WorldState Config Node). v.has_diverged) is) ∙ straight
  reaches_once w (event ∷ events) now reaches straight =
      leads_once w event reaches.0 reaches.1 (reaches_once reaches.0 events now reaches.2 straight) (is_crash event) refl

  pub reaches_run : (w : WorldState Config Node) (events : List Event) (now : WorldState Config Node) → Reaches m setting w events now → now.has_diverged ≡ false → now ≡ run m setting w events
  reaches_run w [] now is straight = is
  reaches_run w (event ∷ events) now reaches straight =
      let once = reaches_once reaches.0 events now reaches.2 straight in
      reaches_run reaches.0 events now reaches.2 straight ∙ ap (λ v. run m setting v events) (leads_so w event reaches.0 reaches.1 once (is_crash event) refl)

module _ {TheContent Config TheEdit Node : Type 0} (meaning : TheContent → Meaning Config TheEdit Node) (first now later : WorldValue TheContent Config TheEdit Node) where
  abbrev More : Type 1
  More = Meaning Config TheEdit Node → Setting TheEdit → WorldState Config Node → WorldState Config Node

  -- a call at what the one before it left
  pub and_exact : (more : More) (mid : WorldState Config Node) → now ≡ with_state first now.state → now.state ≡ mid → later.state ≡ more (meaning now.content) now.setting now.state
      → later.state ≡ more (meaning first.content) first.setting mid
  and_exact more mid others is exact =
      exact ∙ ap (λ (x : WorldValue TheContent Config TheEdit Node). more (meaning x.content) x.setting now.state) others ∙ ap (more (meaning first.content) first.setting) is

module _ {TheContent Config TheEdit Node : Type 0} (meaning : TheContent → Meaning Config TheEdit Node) (first : WorldValue TheContent Config TheEdit Node) where
  -- the next event of a run
  pub run_reaches : (events : List Event) (i : ℕ) (event : Event) (now later : WorldValue TheContent Config TheEdit Node) → i < length events → event ≡ get_or events i event → now ≡ with_state first now.state
      → Reaches (meaning first.content) first.setting first.state (take i events) now.state → LeadsTo (meaning now.content) now.setting event now.state later.state
      → Reaches (meaning first.content) first.setting first.state (take (i + 1) events) later.state
  run_reaches events i event now later within is others reaches leads =
      let more = take_more events i event within ∙ ap (λ (x : Event). take i events ++ x ∷ []) (sym is) in
      let here = subst (λ (x : WorldValue TheContent Config TheEdit Node). LeadsTo (meaning x.content) x.setting event now.state later.state) others leads in
      subst (λ l. Reaches (meaning first.content) first.setting first.state l later.state) (sym more)
      (reaches_then (meaning first.content) first.setting first.state (take i events) event now.state later.state reaches here)

  -- the next step of a drain
  pub drained_exact : (now later : WorldValue TheContent Config TheEdit Node) (n : ℕ) → now ≡ with_state first now.state → now.state ≡ drained (meaning first.content) first.setting n first.state
      → later.state ≡ drain_step (meaning now.content) now.setting now.state → later.state ≡ drained (meaning first.content) first.setting (n + 1) first.state
  drained_exact now later n others is exact =
      let next : n + 1 ≡ suc n = omega arith in
      and_exact meaning first now later (λ m setting w. drain_step m setting w) (drained (meaning first.content) first.setting n first.state) others is exact
      ∙ sym (ap (λ k. drained (meaning first.content) first.setting k first.state) next ∙ drained_more (meaning first.content) first.setting n first.state)
