-- What happens at a device keeps what is true of it.
use Rattle.std.proofs.Common.{Some, ◌≡◌, ℕ, ◌+◌, ◌-◌, ◌*◌, ◌^◌, ◌<◌, ◌≤◌, ◌==◌, Bool, true, false, not, ◌&&◌, ◌||◌, is_some, if◌then◌else◌, List, [], ◌∷◌, ◌++◌, length, slice_get, refl, sym, ap, ◌∙◌, subst, arith}
use Rattle.std.specs.List.{list_any}
use Rattle.std.specs.Str.{bytes_eq}
use Rattle.nm_base.specs.Words.{manager}
use Rattle.nm_proto.specs.declared.message.Reply.{Reply}
use Rattle.nm_proto.specs.declared.message.Reply.TheVariants.{Done, Opened, LockId, Mark, Rows, Error}
use Rattle.nm_proto.specs.declared.fault.PlanEntry.{PlanEntry}
use Rattle.nm_proto.specs.declared.fault.PlanFault.TheVariants.{Advance}
use Rattle.std.proofs.lemmas.Option.{same_Some}
use Rattle.std.proofs.lemmas.List.{length-append}
use Rattle.std.proofs.lemmas.List.Folds.{list_any-append}
use Rattle.nm_proto.specs.declared.message.Request.{Request}
use Rattle.nm_proto.specs.Content.{Meaning, Laws, TablesState}
use Rattle.nm_sessions.specs.Sessions.{SessionsState, is_open}
use Rattle.nm_device.specs.Device.{DeviceState, IsSound, IsInTime, fresh_device}
use Rattle.nm_device.specs.Table.{device_step, is_opening}
use Rattle.nm_history.specs.declared.event.DeviceEvent.{DeviceEvent}
use Rattle.nm_history.specs.declared.event.DeviceEvent.TheVariants.{Entered, Asked, Lost}
use Rattle.nm_history.specs.declared.event.Noted.{Noted}
use Rattle.nm_history.specs.History.{RecordedState, Happened, entering, answered, losing, recorded_with, recorded_if, happened_if, device_event}
use Rattle.nm_history.specs.Leads.{Leads}
use Rattle.nm_history.proofs.Histories.{leads_push, leads_none}
use Rattle.nm_run_plan.specs.Run.{Run}
use Rattle.nm_cells.specs.Faults.{FaultsState, due, come, counted_if}
use Rattle.nm_cells.specs.Kept.{KeptState, IsKept, AreManagers, is_managers, opens, enters_as_manager, opens_for_manager, with_opened}

-- ---- the clock, and the faults that came

-- the clock rose by faults that came alone
pub record Rises (old : FaultsState) (risen : ℕ) (faults : FaultsState) : Type 0 where
  pub plan : faults.plan ≡ old.plan
  pub clock : risen ≤ faults.spent * 2 ^ 32
  pub few : faults.spent ≤ 1000

-- counting leaves the plan, and lets no fewer faults have come
pub record Counts (old faults : FaultsState) : Type 0 where
  pub plan : faults.plan ≡ old.plan
  pub more : old.spent ≤ faults.spent

pub counts_on : (counts : Bool) (old faults : FaultsState) → faults ≡ counted_if counts old → Counts old faults
counts_on true old faults is = record { plan = ap (λ f. f.plan) is; more = let e = ap (λ f. f.spent) is in omega (arith, e) }
counts_on false old faults is = record { plan = ap (λ f. f.plan) is; more = let e = ap (λ f. f.spent) is in omega (arith, e) }

later_clock : (clock before spent more : ℕ) → clock ≡ before → before ≤ spent * 2 ^ 32 → spent ≤ more → clock ≤ more * 2 ^ 32
later_clock clock before spent more same le grown = omega (arith, same, le, grown)

risen_clock : (clock before seconds spent more : ℕ) → clock ≡ before + seconds → before ≤ spent * 2 ^ 32 → seconds < 2 ^ 32 → more ≡ spent + 1 → clock ≤ more * 2 ^ 32
risen_clock clock before seconds spent more same le low grown = omega (arith, same, le, low, grown)

-- a clock of a run is far from the end of its range
pub is_in_time : (clock spent : ℕ) → clock ≤ spent * 2 ^ 32 → spent ≤ 1000 → IsInTime clock
unfolding IsInTime
is_in_time clock spent le few = omega (arith, le, few)

-- ---- the manager's sessions

or_false : (b : Bool) → (b || false) ≡ b
or_false true = refl
or_false false = refl

-- nobody has opened one
pub no_managers : AreManagers [] []
no_managers = record { are = λ session. refl }

-- an entry that opens no session for the manager
pub managers_same : (sessions : List ℕ) (old new : List Noted) (entry : Noted) → new ≡ old ++ entry ∷ [] → enters_as_manager entry.event ≡ false → AreManagers sessions old → AreManagers sessions new
managers_same sessions old new entry is other are = record {
  are = λ session. are.are session ∙ sym (ap (is_managers session) is ∙ (list_any-append (opens_for_manager session) old (entry ∷ []) ∙ ap (λ b. is_managers session old || ((b && opens session entry.reply) || false)) other ∙ or_false (is_managers session old)));
}

kept_opened : (b : Bool) (reply : Reply) (sessions : List ℕ) (session : ℕ) → list_any (λ other. other == session) (with_opened b reply sessions) ≡ (list_any (λ other. other == session) sessions || ((b && opens session (Some reply)) || false))
kept_opened false reply sessions session = sym (or_false (list_any (λ other. other == session) sessions))
kept_opened true (Opened opened) sessions session = list_any-append (λ other. other == session) sessions (opened ∷ [])
kept_opened true Done sessions session = sym (or_false (list_any (λ other. other == session) sessions))
kept_opened true (LockId id) sessions session = sym (or_false (list_any (λ other. other == session) sessions))
kept_opened true (Mark there) sessions session = sym (or_false (list_any (λ other. other == session) sessions))
kept_opened true (Rows count) sessions session = sym (or_false (list_any (λ other. other == session) sessions))
kept_opened true (Error tag holder path) sessions session = sym (or_false (list_any (λ other. other == session) sessions))

-- an entry that opens one, or is refused it
pub managers_opened : (sessions after : List ℕ) (old new : List Noted) (user : List ℕ) (reply : Reply) (undone : Bool) (b : Bool) → new ≡ old ++ record { event = Entered user; reply = Some reply; undone = undone } ∷ [] → b ≡ bytes_eq user manager
    → after ≡ with_opened b reply sessions → AreManagers sessions old → AreManagers after new
managers_opened sessions after old new user reply undone b is whose kept are = record {
  are = λ session.
      ap (list_any (λ other. other == session)) kept ∙ (kept_opened b reply sessions session
      ∙ (ap (λ c. c || ((b && opens session (Some reply)) || false)) (are.are session)
      ∙ (ap (λ c. is_managers session old || ((c && opens session (Some reply)) || false)) whose
      ∙ sym (ap (is_managers session) is ∙ list_any-append (opens_for_manager session) old (record { event = Entered user; reply = Some reply; undone = undone } ∷ [])))));
}

can_happen : {Config Node : Type 0} (here opening : Bool) (h : Happened Config Node) → here ≡ true → opening ≡ false → happened_if (here && not opening) h ≡ Some h
can_happen true false h open_ asks = refl
can_happen true true h open_ asks = cc
can_happen false opening h open_ asks = cc

module _ {C Config TheEdit Node : Type 0} (meaning : C → Meaning Config TheEdit Node) (laws : (content : C) → Laws (meaning content)) (run : Run C Config TheEdit) where
  -- an event that happens leads on
  leads_on : (content : C) (first : DeviceState Config Node) (r new : RecordedState Config Node) (event : DeviceEvent) (h : Happened Config Node) → device_event (meaning content) run.tables r.device event ≡ Some h
      → new ≡ recorded_with r event h → Leads (meaning content) run.tables first r → Leads (meaning content) run.tables first new
  leads_on content first r new event h happens is leads =
      let pushed : Leads (meaning content) run.tables first (recorded_if r event (device_event (meaning content) run.tables r.device event)) = leads_push (meaning content) (laws content) run.tables first r event leads in
      subst (Leads (meaning content) run.tables first) (sym is) (subst (λ done. Leads (meaning content) run.tables first (recorded_if r event done)) happens pushed)

  -- whatever the content of the run is, this happens
  pub kept_by : (old : KeptState Config Node) (new : RecordedState Config Node) (spare : ℕ) (faults : FaultsState) (event : DeviceEvent) (h : Happened Config Node)
      → ((content : C) → run.content ≡ Some content → (device_event (meaning content) run.tables old.recorded.device event ≡ Some h) × IsSound (meaning content) new.device)
      → new ≡ recorded_with old.recorded event h → Rises old.faults new.device.clock faults → IsKept meaning run old
      → IsKept meaning run (record { number = old.number; recorded = new; spare = spare; faults = faults })
  kept_by old new spare faults event h happens is rises kept = record {
    first = kept.first;
    first_is = kept.first_is;
    plan_is = subst (λ (plan : List PlanEntry). slice_get run.faults (old.number - 1) ≡ Some plan) (sym rises.plan) kept.plan_is;
    leads = λ content of. leads_on content (fresh_device kept.first) old.recorded new event h (happens content of).0 is (kept.leads content of);
    sound = λ content of. (happens content of).1;
    clock = rises.clock;
    few = rises.few;
  }

  -- the same where the content is at hand
  pub kept_at : (content : C) (old : KeptState Config Node) (new : RecordedState Config Node) (spare : ℕ) (faults : FaultsState) (event : DeviceEvent) (h : Happened Config Node) → run.content ≡ Some content
      → device_event (meaning content) run.tables old.recorded.device event ≡ Some h → IsSound (meaning content) new.device → new ≡ recorded_with old.recorded event h → Rises old.faults new.device.clock faults → IsKept meaning run old
      → IsKept meaning run (record { number = old.number; recorded = new; spare = spare; faults = faults })
  kept_at content old new spare faults event h of happens sound is rises kept =
      kept_by old new spare faults event h
      (λ other is_of. subst (λ (c : C). (device_event (meaning c) run.tables old.recorded.device event ≡ Some h) × IsSound (meaning c) new.device) (same_Some content other (sym of ∙ is_of)) (happens, sound))
      is rises kept

  -- who enters changes the sessions alone
  pub kept_entered : (old : KeptState Config Node) (new : RecordedState Config Node) (spare : ℕ) (faults : FaultsState) (user : List ℕ) (sessions : SessionsState) → new.device ≡ record old.recorded.device { sessions = sessions }
      → new ≡ recorded_with old.recorded (Entered user) (entering old.recorded.device user) → Rises old.faults new.device.clock faults → IsKept meaning run old
      → IsKept meaning run (record { number = old.number; recorded = new; spare = spare; faults = faults })
  kept_entered old new spare faults user sessions only is rises kept =
      kept_by old new spare faults (Entered user) (entering old.recorded.device user)
      (λ content of. (refl, subst (IsSound (meaning content)) (sym only) (let it = kept.sound content of in record { belong = it.belong; steady = it.steady })))
      is rises kept

  -- nothing happened
  pub kept_same : (old : KeptState Config Node) (new : RecordedState Config Node) (spare : ℕ) → new.device ≡ old.recorded.device → new.history ≡ old.recorded.history → IsKept meaning run old
      → IsKept meaning run (record { number = old.number; recorded = new; spare = spare; faults = old.faults })
  kept_same old new spare device history kept =
      subst (λ (d : DeviceState Config Node). IsKept meaning run (record { number = old.number; recorded = record { device = d; history = new.history }; spare = spare; faults = old.faults })) (sym device)
      (subst (λ (es : List Noted). IsKept meaning run (record { number = old.number; recorded = record { device = old.recorded.device; history = es }; spare = spare; faults = old.faults })) (sym history)
      (record { first = kept.first; first_is = kept.first_is; plan_is = kept.plan_is; leads = kept.leads; sound = kept.sound; clock = kept.clock; few = kept.few }))

  -- a clock that doesn't rise
  pub rests : (old : KeptState Config Node) (clock : ℕ) (counts : Bool) (faults : FaultsState) → clock ≡ old.recorded.device.clock → faults ≡ counted_if counts old.faults → (old.faults.spent ≤ 1000 → faults.spent ≤ 1000) → IsKept meaning run old
      → Rises old.faults clock faults
  rests old clock counts faults same is few kept =
      let counted = counts_on counts old.faults faults is in record {
        plan = counted.plan;
        clock = let le = kept.clock in let more = counted.more in later_clock clock old.recorded.device.clock old.faults.spent faults.spent same le more;
        few = few kept.few;
      }

  -- a clock that rises by an advance
  pub rises : (old : KeptState Config Node) (clock seconds : ℕ) (faults : FaultsState) → clock ≡ old.recorded.device.clock + seconds → due old.faults ≡ Some (Advance seconds) → seconds < 2 ^ 32 → faults ≡ come old.faults → faults.spent ≤ 1000 → IsKept meaning run old
      → Rises old.faults clock faults
  rises old clock seconds faults same now low is few kept = record {
    plan = ap (λ f. f.plan) is;
    clock = let spent : faults.spent ≡ old.faults.spent + 1 = ap (λ f. f.spent) is ∙ ap (λ d. old.faults.spent + (if is_some d then 1 else 0)) now in risen_clock clock old.recorded.device.clock seconds old.faults.spent faults.spent same kept.clock low spent;
    few = few;
  }

  -- an open session asks
  pub asked_happens : (content : C) (tables : TablesState TheEdit) (s : DeviceState Config Node) (session : ℕ) (request : Request) → run.tables ≡ tables → is_open s.sessions session ≡ true → is_opening request ≡ false
      → device_event (meaning content) run.tables s (Asked session request) ≡ Some (answered s request (device_step (meaning content) tables s session request))
  asked_happens content tables s session request same open_ asks =
      subst (λ (ts : TablesState TheEdit). device_event (meaning content) run.tables s (Asked session request) ≡ Some (answered s request (device_step (meaning content) ts s session request))) same
      (can_happen (is_open s.sessions session) (is_opening request) (answered s request (device_step (meaning content) run.tables s session request)) open_ asks)

  -- an open session is lost
  pub lost_happens : (content : C) (s : DeviceState Config Node) (session : ℕ) → is_open s.sessions session ≡ true
      → device_event (meaning content) run.tables s (Lost session) ≡ Some (losing (meaning content) s session)
  lost_happens content s session open_ = ap (λ b. happened_if b (losing (meaning content) s session)) open_

  -- a device begins so
  pub kept_fresh : (number spare : ℕ) (s : DeviceState Config Node) (faults : FaultsState) → slice_get run.starts (number - 1) ≡ Some s.stores.running → s ≡ fresh_device s.stores.running
      → ((content : C) → run.content ≡ Some content → IsSound (meaning content) s) → slice_get run.faults (number - 1) ≡ Some faults.plan → faults.spent ≡ 0
      → IsKept meaning run (record { number = number; recorded = record { device = s; history = [] }; spare = spare; faults = faults })
  kept_fresh number spare s faults first fresh sound plan none = record {
    first = s.stores.running;
    first_is = first;
    plan_is = plan;
    leads = λ content of. subst (λ (d : DeviceState Config Node). Leads (meaning content) run.tables (fresh_device s.stores.running) (record { device = d; history = [] })) (sym fresh)
        (leads_none (meaning content) (laws content) run.tables s.stores.running (sound content of).steady.valid);
    sound = sound;
    clock = let zero_clock : s.clock ≡ 0 = ap (λ (d : DeviceState Config Node). d.clock) fresh in omega (arith, zero_clock);
    few = omega (arith, none);
  }

-- one more entry uses up one place
pub room_left : (old new : List Noted) (entry : Noted) (spare room : ℕ) → new ≡ old ++ entry ∷ [] → 1 ≤ spare → spare + length old ≤ room → (spare - 1) + length new ≤ room
room_left old new entry spare room is some fits =
    let l : length new ≡ length (old ++ entry ∷ []) = ap length is in
    let a = length-append old (entry ∷ []) in
    omega (arith, l, a, some, fits)

-- and there is one entry more to be counted by
pub counted_left : (old new : List Noted) (entry : Noted) (counts : Bool) (before after : FaultsState) → new ≡ old ++ entry ∷ [] → after ≡ counted_if counts before → before.counted ≤ length old → after.counted ≤ length new
counted_left old new entry true before after is counted fits =
    let l : length new ≡ length (old ++ entry ∷ []) = ap length is in
    let a = length-append old (entry ∷ []) in
    let c = ap (λ f. f.counted) counted in
    omega (arith, l, a, c, fits)
counted_left old new entry false before after is counted fits =
    let l : length new ≡ length (old ++ entry ∷ []) = ap length is in
    let a = length-append old (entry ∷ []) in
    let c = ap (λ f. f.counted) counted in
    omega (arith, l, a, c, fits)

pub came_left : (old new : List Noted) (entry : Noted) (before after : FaultsState) → new ≡ old ++ entry ∷ [] → after ≡ come before → before.counted ≤ length old → after.counted ≤ length new
came_left old new entry before after is came fits =
    let l : length new ≡ length (old ++ entry ∷ []) = ap length is in
    let a = length-append old (entry ∷ []) in
    let c = ap (λ f. f.counted) came in
    omega (arith, l, a, c, fits)
