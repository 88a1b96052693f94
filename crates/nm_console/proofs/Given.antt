-- What a world asks of a scenario that was read, and what its safety does.
use Rattle.std.proofs.Common.{◌≡◌, ◌≤◌, ◌<◌, ◌+◌, ◌&&◌, ◌⊎◌, inl, inr, ℕ, List, [], ◌∷◌, length, map, get_or, Bool, true, false, Some, None, Ok, Err, slice_get, refl, sym, ap, ◌∙◌, subst, arith, lt-ltb}
use Rattle.std.specs.List.{All, sum_by, fold}
use Rattle.std.specs.Option.{IfSome}
use Rattle.std.specs.Str.{bytes_eq}
use Rattle.std.proofs.lemmas.List.Elements.{All-map, All-tail}
use Rattle.std.proofs.lemmas.List.{length-map}
use Rattle.std.proofs.lemmas.Option.{slice_get_cases}
use Rattle.nm_base.specs.Words.{manager}
use Rattle.nm_device.specs.Device.{is_manager}
use Rattle.nm_scenario_events.specs.declared.arguments.Counts.{Counts}
use Rattle.nm_scenario_events.specs.Kept.{EventKeeps, weight}
use Rattle.nm_manager.specs.Requests.{IsWellFormed, ascend_above}
use Rattle.nm_world.specs.Runs.{IsNumbered}
use Rattle.nm_world.specs.Drain.{drain_event, drain_limit}
use Rattle.nm_world.specs.World.{CanBegin, IsFirst, Setting, start}
use Rattle.nm_proto.specs.declared.message.Request.{Request}
use Rattle.nm_proto.specs.declared.message.Request.TheVariants.{OpenSession, Lock, Unlock, PartialLock, PartialUnlock, Edit, Validate, Commit, CancelCommit, Discard, HasMark, GetConfig, Kill, CloseSession}
use Rattle.nm_flat.specs.declared.flat.FlatEdit.{FlatEdit}
use Rattle.nm_proto.specs.declared.plan.ChangePlan.{ChangePlan}
use Rattle.nm_proto.specs.declared.plan.Event.{Event}
use Rattle.nm_proto.specs.declared.plan.Event.TheVariants.{Submit, Turn, Deliver, Answer, Break, Lose, Advance, Restart, Forget, Crash, Renew, Foreign, Leave, Round}
use Rattle.nm_proto.specs.declared.plan.PlannedEdit.{PlannedEdit}
use Rattle.nm_flat.specs.Flat.{FlatState}
use Rattle.nm_flat.specs.FlatContent.{flat_meaning, flat_laws}
use Rattle.nm_proto.specs.Content.{Laws, Meaning}
use Rattle.nm_schema_tree.specs.Nodes.{SchemaTree}
use Rattle.nm_config.specs.Rows.{Rows}
use Rattle.nm_edit.specs.declared.edit.EditNode.{EditNode}
use Rattle.nm_overlay.specs.Differences.{Overlaid}
use Rattle.nm_content.specs.Meaning.{lifted, yang_meaning}
use Rattle.nm_content.specs.Laws.{yang_laws}
use Rattle.nm_scenario_laws.proofs.Whole.{bytes_keep}
use Rattle.nm_scenario_laws.specs.Kept.{Ascend, BodyKeeps, ChangeKeeps, DataAreKept, DataKeeps, IsOwnOpening, OpensOwn, ScenarioKeeps, StateKeeps, UserKeeps, counts_in, device_of_plan, devices_in}
use Rattle.nm_scenario.specs.declared.scenario.Body.{Body}
use Rattle.nm_scenario.specs.declared.scenario.Body.TheVariants.{Flat, Yang}
use Rattle.nm_scenario.specs.declared.scenario.Scenario.{Scenario}
use Rattle.nm_safety.specs.Safe.{AreGiven, IsGiven, IsProper, IsSafe}
use Rattle.nm_safety.specs.Safe as safe
use Rattle.nm_safety.proofs.Drained.{drained_safe}
use Rattle.nm_safety.proofs.Safely.{run_is_safe}
use Rattle.nm_safety.proofs.Tells.{safe_tells}
use Rattle.nm_notice_laws.specs.Replays.{TellAsReplayed}
use Rattle.nm_notice_laws.proofs.Histories.{run_tells as run_replays}
use Rattle.nm_commit_laws.specs.Brings.{BringsAlone}
use Rattle.nm_commit_laws.proofs.brings.Alone.{run_brings}
use Rattle.nm_commit_laws.proofs.brings.Drained.{drained_brings}
use Rattle.nm_commit_laws.specs.Leaves.{LeavesAlone}
use Rattle.nm_commit_laws.proofs.leaves.Alone.{run_leaves}
use Rattle.nm_commit_laws.proofs.leaves.Drained.{drained_leaves}
use Rattle.nm_commit_laws.specs.Marks.{ArePlain, AreUnmarked, MarksTell}
use Rattle.nm_commit_laws.specs.Stays.{MarksStay}
use Rattle.nm_commit_laws.proofs.marks.Alone.{run_tells}
use Rattle.nm_commit_laws.proofs.marks.Drained.{drained_tells}
use Rattle.nm_commit_laws.proofs.marks.Remains.{run_stays, drained_stays}
use Rattle.nm_flat.specs.declared.flat.FlatNode.{FlatNode}
use Rattle.nm_content_place.specs.declared.place.YangNode.{YangNode}
use Rattle.nm_console.proofs.Unmarked.{flat_unmarked, data_unmarked}
use Rattle.nm_safety.proofs.Lists.{some_is}
use Rattle.nm_content.specs.Mark.{has_mark}
use Rattle.nm_flat.specs.Flat.{flat_has_mark}
use Rattle.nm_commit_laws.specs.Refuses.{RefusesGone}
use Rattle.nm_commit_laws.proofs.refuses.Alone.{run_refuses}
use Rattle.nm_commit_laws.proofs.refuses.Drained.{drained_refuses}
use Rattle.nm_outcome_laws.specs.Records.{EndsAsRecorded}
use Rattle.nm_outcome_laws.proofs.records.Whole.{run_ends_so, drained_ends_so}
use Rattle.nm_outcome_laws.specs.Causes.{HaveCauses}
use Rattle.nm_outcome_laws.proofs.causes.Runs.{run_has_causes, drained_has_causes}
use Rattle.nm_outcome_laws.specs.Lapses.{LapsesAreUndone}
use Rattle.nm_outcome_laws.proofs.lapses.Runs.{run_lapses, drained_lapses}
use Rattle.nm_outcome_laws.specs.Settled.{IsAtRest}
use Rattle.nm_outcome_laws.proofs.settled.Ways.{told_unsettled}
use Rattle.nm_outcome_laws.proofs.settled.Rest.{drained_settles}
use Rattle.nm_rest_laws.specs.Calm.{IsCalm, IsCommitted}
use Rattle.nm_rest_laws.proofs.calm.Rests.{calm_commits}
use Rattle.nm_rest_laws.specs.Rest.{HasDevices, IsWithin}
use Rattle.nm_rest_laws.proofs.rest.Limit.{run_ends}
use Rattle.nm_console.proofs.Rests.{few_elementary, has_devices}
use Rattle.nm_console.specs.Console.{CanRun, EachRunIsSafe, IsSafeRun, RunsSafelyBy, led_to, setting_of, world_of}

-- ---- devices and change sets

ascending : (low high : ℕ) (edits : List PlannedEdit) → Ascend low high (map device_of_plan edits) → ascend_above low edits ≡ true
ascending low high [] h = refl
ascending low high (edit ∷ edits) h =
    ap (λ t. t && ascend_above edit.device edits) (lt-ltb low edit.device h.0) ∙ ascending edit.device high edits h.2

formed : (devices : ℕ) (plan : ChangePlan) → ChangeKeeps devices plan → IsWellFormed plan
formed devices plan keeps = record { some = keeps.edits; ascend = ascending 0 devices plan.edits keeps.ascending; waits = keeps.timeout.0 }

all_formed : (devices : ℕ) (plans : List ChangePlan) → All (ChangeKeeps devices) plans → All IsWellFormed plans
all_formed devices plans keep = λ k d less. formed devices _ (keep k d less)

-- ---- events

weighs : (c : Counts) (event : Event) → EventKeeps c event → 1 ≤ weight event
weighs c (Submit change) h = omega arith
weighs c (Turn change) h = omega arith
weighs c (Deliver change device link) h = omega arith
weighs c (Answer change device link number) h = omega arith
weighs c (Break change device) h = omega arith
weighs c (Lose change device link) h = omega arith
weighs c (Advance device seconds) h = omega arith
weighs c (Restart device) h = omega arith
weighs c (Forget change) h = omega arith
weighs c Crash h = omega arith
weighs c (Renew change device) h = omega arith
weighs c (Foreign operator device request) h = omega arith
weighs c (Leave operator device) h = omega arith
weighs c (Round change turns) h = omega (arith, h.1.0)

counted : (c : Counts) (events : List Event) (so_far : ℕ) → All (EventKeeps c) events → length events + so_far ≤ fold (λ a x. a + weight x) so_far events
counted c [] so_far h = omega arith
counted c (event ∷ events) so_far h =
    let one : 1 ≤ weight event = weighs c event (h 0 event (omega arith)) in
    let rest : length events + (so_far + weight event) ≤ fold (λ a x. a + weight x) (so_far + weight event) events = counted c events (so_far + weight event) (All-tail (EventKeeps c) event events h) in
    omega (arith, one, rest)

-- an event stands for one elementary event at least
pub few_events : (c : Counts) (events : List Event) (most : ℕ) → All (EventKeeps c) events → sum_by weight events ≤ most → length events ≤ most
few_events c events most h few = let all : length events + 0 ≤ sum_by weight events = counted c events 0 h in omega (arith, all, few)

numbered : (c : Counts) (event : Event) → EventKeeps c event → IsNumbered c.changes event
numbered c (Submit change) h = h.1
numbered c (Turn change) h = h.1
numbered c (Deliver change device link) h = h.0.1
numbered c (Answer change device link number) h = h.0.1
numbered c (Break change device) h = h.0.1
numbered c (Lose change device link) h = h.0.1
numbered c (Advance device seconds) h = omega arith
numbered c (Restart device) h = omega arith
numbered c (Forget change) h = h.1
numbered c Crash h = omega arith
numbered c (Renew change device) h = h.0.1
numbered c (Foreign operator device request) h = omega arith
numbered c (Leave operator device) h = omega arith
numbered c (Round change turns) h = h.0.1

all_numbered : (c : Counts) (events : List Event) → All (EventKeeps c) events → All (IsNumbered c.changes) events
all_numbered c events h = λ k d less. numbered c _ (h k d less)

-- ---- together

module _ {Config TheEdit Node : Type 0} (m : Meaning Config TheEdit Node) (s : Scenario) (devices : List Config) (edits : List TheEdit) (first : All (IsFirst m) devices) (belong : All m.edit_belongs edits)
    (count : devices_in s.body ≡ length devices) (keeps : ScenarioKeeps s) where
  -- a world can begin with a scenario
  begins : CanBegin m (setting_of edits s) devices
  begins = record {
    first = first;
    edits = belong;
    few_devices = (let few = keeps.devices.1 in subst (λ n. n ≤ 32) count few);
    well_formed = all_formed (devices_in s.body) s.changes keeps.changes;
    few = keeps.change_sets;
  }

  -- and run it
  pub runs : CanRun m (setting_of edits s) devices s.events
  runs = record {
    begins = begins;
    few_users = keeps.operator_count;
    given = all_numbered (counts_in s) s.events keeps.events;
    few_events = few_events (counts_in s) s.events 100000 keeps.events keeps.event_count;
  }

-- ---- what safety asks

module _ {TheEdit : Type 0} (setting : Setting TheEdit) (c : Counts) where
  own : (operator : ℕ) (request : Request) → IsOwnOpening setting.users operator request → safe.IsOwnOpening setting operator request
  own operator (OpenSession user) h = h
  own operator (Lock store) h = tt
  own operator (Unlock store) h = tt
  own operator (PartialLock select) h = tt
  own operator (PartialUnlock id) h = tt
  own operator (Edit edit operation marks) h = tt
  own operator Validate h = tt
  own operator (Commit confirmed timeout persist persist_id) h = tt
  own operator (CancelCommit persist_id) h = tt
  own operator Discard h = tt
  own operator (HasMark change) h = tt
  own operator GetConfig h = tt
  own operator (Kill session) h = tt
  own operator CloseSession h = tt

  given : (event : Event) → EventKeeps c event → OpensOwn setting.users event → IsGiven setting event
  given (Submit change) h o = h.0
  given (Turn change) h o = h.0
  given (Deliver change device link) h o = h.0.0
  given (Answer change device link number) h o = (h.0.0, h.1.0)
  given (Break change device) h o = (h.0.0, h.1.0)
  given (Lose change device link) h o = h.0.0
  given (Advance device seconds) h o = tt
  given (Restart device) h o = tt
  given (Forget change) h o = h.0
  given Crash h o = tt
  given (Renew change device) h o = (h.0.0, h.1.0)
  given (Foreign operator device request) h o = own operator request o
  given (Leave operator device) h o = tt
  given (Round change turns) h o = h.0.0

  all_given : (events : List Event) → All (EventKeeps c) events → All (OpensOwn setting.users) events → AreGiven setting events
  all_given [] h o = tt
  all_given (event ∷ events) h o =
      (given event (h 0 event (omega arith)) (o 0 event (omega arith)), all_given events (All-tail (EventKeeps c) event events h) (All-tail (OpensOwn setting.users) event events o))

-- what holds of each element holds of the one that is got
got_by : {X : Type 0} (P : X → Type 0) (xs : List X) (k : ℕ) → All P xs
    → ((x : X) × (k < length xs) × (slice_get xs k ≡ Some x) × (get_or xs k x ≡ x)) ⊎ ((length xs ≤ k) × (slice_get xs k ≡ None)) → IfSome (slice_get xs k) P
got_by P xs k h (inl found) = subst (λ o. IfSome o P) (sym found.2) (subst P found.3 (h k found.0 found.1))
got_by P xs k h (inr none) = subst (λ o. IfSome o P) (sym none.1) tt

pub got : {X : Type 0} (P : X → Type 0) (xs : List X) (k : ℕ) → All P xs → IfSome (slice_get xs k) P
got P xs k h = got_by P xs k h (slice_get_cases xs k).1

-- an operator isn't the manager
stranger : (name : List ℕ) → UserKeeps name → is_manager (Some name) ≡ false
stranger name h = by_name (bytes_eq name manager) refl h
  where
    by_name : (same : Bool) → bytes_eq name manager ≡ same → UserKeeps name → is_manager (Some name) ≡ false
    by_name true is h = absurd cc
    by_name false is h = is

strangers : (users : List (List ℕ)) (number : ℕ) → All UserKeeps users → IfSome (slice_get users number) (λ user. is_manager (Some user) ≡ false)
strangers users number h = got (λ user. is_manager (Some user) ≡ false) users number (λ k d less. stranger (get_or users k d) (h k d less))

module _ {Config TheEdit Node : Type 0} (m : Meaning Config TheEdit Node) (laws : Laws m) (s : Scenario) (devices : List Config) (edits : List TheEdit) (can : CanRun m (setting_of edits s) devices s.events)
    (count : devices_in s.body ≡ length devices) (unmarked : AreUnmarked m devices) (keeps : ScenarioKeeps s) where
  proper : IsProper m (setting_of edits s) devices s.events
  proper = record {
    first = λ place. got (IsFirst m) devices place can.begins.first;
    edits = can.begins.edits;
    few_devices = can.begins.few_devices;
    few = can.begins.few;
    strangers = λ number. strangers s.operators number keeps.operators;
    given = all_given (setting_of edits s) (counts_in s) s.events keeps.events keeps.openings;
  }

  safe_if : (drain : Bool) → IsSafe m (setting_of edits s) devices s.events (led_to m (setting_of edits s) s.events drain (start (setting_of edits s) devices))
  safe_if false = run_is_safe m laws (setting_of edits s) devices s.events proper
  safe_if true = drained_safe m laws (setting_of edits s) devices s.events drain_limit proper

  world_safe : IsSafe m (setting_of edits s) devices s.events (world_of m devices edits s)
  world_safe = safe_if s.drain

  brings_if : (drain : Bool) → BringsAlone m (setting_of edits s) devices (led_to m (setting_of edits s) s.events drain (start (setting_of edits s) devices))
  brings_if false = run_brings m laws (setting_of edits s) devices s.events proper
  brings_if true = drained_brings m laws (setting_of edits s) devices s.events drain_limit proper

  leaves_if : (drain : Bool) → LeavesAlone m (setting_of edits s) devices (led_to m (setting_of edits s) s.events drain (start (setting_of edits s) devices))
  leaves_if false = run_leaves m laws (setting_of edits s) devices s.events proper
  leaves_if true = drained_leaves m laws (setting_of edits s) devices s.events drain_limit proper

  refuses_if : (drain : Bool) → RefusesGone m (setting_of edits s) devices (led_to m (setting_of edits s) s.events drain (start (setting_of edits s) devices))
  refuses_if false = run_refuses m laws (setting_of edits s) devices s.events proper
  refuses_if true = drained_refuses m laws (setting_of edits s) devices s.events drain_limit proper

  causes_if : (drain : Bool) → HaveCauses (led_to m (setting_of edits s) s.events drain (start (setting_of edits s) devices))
  causes_if false = run_has_causes m laws (setting_of edits s) devices s.events proper
  causes_if true = drained_has_causes m laws (setting_of edits s) devices s.events proper drain_limit

  notices_if : (drain : Bool) → TellAsReplayed m (setting_of edits s) devices (led_to m (setting_of edits s) s.events drain (start (setting_of edits s) devices))
  notices_if false = run_replays m laws (setting_of edits s) devices proper.first s.events 0
  notices_if true = run_replays m laws (setting_of edits s) devices proper.first s.events drain_limit

  lapses_if : (drain : Bool) → LapsesAreUndone (led_to m (setting_of edits s) s.events drain (start (setting_of edits s) devices))
  lapses_if false = run_lapses m laws (setting_of edits s) devices s.events proper
  lapses_if true = drained_lapses m laws (setting_of edits s) devices s.events drain_limit proper

  marks_if : (drain : Bool) → ArePlain m (setting_of edits s) → MarksTell m (led_to m (setting_of edits s) s.events drain (start (setting_of edits s) devices))
  marks_if false plain = run_tells m laws (setting_of edits s) devices s.events proper plain unmarked
  marks_if true plain = drained_tells m laws (setting_of edits s) devices s.events drain_limit proper plain unmarked

  stays_if : (drain : Bool) → MarksStay m (led_to m (setting_of edits s) s.events drain (start (setting_of edits s) devices))
  stays_if false = run_stays m laws (setting_of edits s) devices s.events proper
  stays_if true = drained_stays m laws (setting_of edits s) devices s.events drain_limit proper

  ends_if : (drain : Bool) → ArePlain m (setting_of edits s)
      → EndsAsRecorded (setting_of edits s) (led_to m (setting_of edits s) s.events drain (start (setting_of edits s) devices))
  ends_if false plain = run_ends_so m laws (setting_of edits s) devices s.events proper plain unmarked
  ends_if true plain = drained_ends_so m laws (setting_of edits s) devices s.events drain_limit proper plain unmarked

  plans_there : HasDevices (setting_of edits s) (length devices)
  plans_there place = got (λ plan. All (IsWithin (length devices)) plan.edits) s.changes place
      (λ k d less. subst (λ n. All (IsWithin n) (get_or s.changes k d).edits) count (has_devices (devices_in s.body) (get_or s.changes k d) (keeps.changes k d less)))

  rests_if : (drain : Bool) → drain ≡ true → IsAtRest m (setting_of edits s) (led_to m (setting_of edits s) s.events drain (start (setting_of edits s) devices))
  rests_if false is = absurd cc
  rests_if true is =
      drained_settles m laws (setting_of edits s) devices s.events drain_limit proper unmarked
      (run_ends m laws (setting_of edits s) devices s.events proper plans_there (few_elementary s.events 100000 keeps.event_count)).left_at_rest

  -- what a calm run comes to, where a world began with these events
  abbrev Commits : ChangePlan → Bool → List Event → Type 0
  Commits plan drain all =
      drain_event (setting_of edits s) (led_to m (setting_of edits s) all drain (start (setting_of edits s) devices)) ≡ None
      → IsCommitted m (setting_of edits s) devices plan (led_to m (setting_of edits s) all drain (start (setting_of edits s) devices))

  calm_if : (plan : ChangePlan) → IsCalm m (setting_of edits s) devices plan → (all : List Event) → all ≡ Submit 1 ∷ [] → (drain : Bool) → drain ≡ true → Commits plan drain all
  calm_if plan calm all is false drained = absurd cc
  calm_if plan calm all is true drained = subst (Commits plan true) (sym is) (calm_commits m (setting_of edits s) devices plan calm drain_limit)

  -- the run of a scenario that a world can run is safe, and comes to rest where it is to
  pub safe_run : IsSafeRun m devices edits s
  safe_run = record {
    valid = can.begins.first;
    safe = world_safe;
    reports = safe_tells m (setting_of edits s) devices s.events (world_of m devices edits s) world_safe;
    notices = notices_if s.drain;
    settles = told_unsettled (setting_of edits s) (world_of m devices edits s) (safe_tells m (setting_of edits s) devices s.events (world_of m devices edits s) world_safe);
    brings = brings_if s.drain;
    leaves = leaves_if s.drain;
    refuses = refuses_if s.drain;
    causes = causes_if s.drain;
    lapses = lapses_if s.drain;
    marks = marks_if s.drain;
    stays = stays_if s.drain;
    ends = ends_if s.drain;
    rests = rests_if s.drain;
    calm = λ plan calm is drained. calm_if plan calm s.events is s.drain drained (rests_if s.drain drained).over;
  }

-- ---- the contents

module _ (s : Scenario) (devices : List FlatState) (edits : List FlatEdit) (is : s.body ≡ Flat devices edits) (keeps : ScenarioKeeps s) where
  states : All StateKeeps devices
  states = let kept : BodyKeeps (Flat devices edits) = subst BodyKeeps is keeps.body in kept.0

  -- flat contents can be run
  pub flat_runs : CanRun flat_meaning (setting_of edits s) devices s.events
  flat_runs = runs flat_meaning s devices edits (λ k d less. record { belongs = tt; valid = (states k d less).valid }) (λ k d less. tt) (ap devices_in is) keeps

  flat_bare : AreUnmarked {Edit = FlatEdit} {Node = FlatNode} flat_meaning devices
  flat_bare place first there n =
      some_is first (λ config. flat_has_mark config n ≡ false) (slice_get devices place) there
      (got (λ config. flat_has_mark config n ≡ false) devices place (λ k d less. flat_unmarked (get_or devices k d) (states k d less).unmarked n))

  pub flat_safe : IsSafeRun flat_meaning devices edits s
  flat_safe = safe_run flat_meaning flat_laws s devices edits flat_runs (ap devices_in is) flat_bare keeps

module _ (s : Scenario) (modules : List (List ℕ)) (tree : SchemaTree) (devices : List Rows) (edits : List (List EditNode)) (is : s.body ≡ Yang modules tree devices edits) (keeps : ScenarioKeeps s) where
  kept : DataAreKept modules tree devices edits
  kept = subst BodyKeeps is keeps.body

  -- what is read is lifted
  abbrev begun : List Overlaid
  begun = map lifted devices

  pub yang_keeps : All (DataKeeps tree) devices
  yang_keeps = kept.running

  yang_count : devices_in s.body ≡ length begun
  yang_count = ap devices_in is ∙ sym (length-map devices lifted)

  begins_first : (rows : Rows) → DataKeeps tree rows → IsFirst {TheEdit = List EditNode} {Node = YangNode} (yang_meaning tree) (lifted rows)
  begins_first rows keeps = record {
    belongs = record { sound = kept.given.sound; marker = kept.given.marker; stands = keeps.stands; base_stands = keeps.stands; base_valid = keeps.valid };
    valid = keeps.valid;
  }

  -- YANG contents can be run
  pub yang_runs : CanRun (yang_meaning tree) (setting_of edits s) begun s.events
  yang_runs =
      runs (yang_meaning tree) s begun edits
      (All-map (IsFirst {TheEdit = List EditNode} {Node = YangNode} (yang_meaning tree)) lifted devices (λ k d less. begins_first (get_or devices k d) (kept.running k d less)))
      kept.edited yang_count keeps

  bare_lifted : (rows : Rows) → DataKeeps tree rows → (n : ℕ) → has_mark (lifted rows).rows n ≡ false
  bare_lifted rows keeps n = data_unmarked rows keeps.unmarked n

  all_bare : (n : ℕ) → All (λ (config : Overlaid). has_mark config.rows n ≡ false) begun
  all_bare n = All-map (λ (config : Overlaid). has_mark config.rows n ≡ false) lifted devices (λ k d less. bare_lifted (get_or devices k d) (kept.running k d less) n)

  yang_bare : AreUnmarked {Edit = List EditNode} {Node = YangNode} (yang_meaning tree) begun
  yang_bare place first there n =
      some_is first (λ (config : Overlaid). has_mark config.rows n ≡ false) (slice_get begun place) there
      (got (λ (config : Overlaid). has_mark config.rows n ≡ false) begun place (all_bare n))

  pub yang_safe : IsSafeRun (yang_meaning tree) begun edits s
  yang_safe = safe_run (yang_meaning tree) (yang_laws tree) s begun edits yang_runs yang_count yang_bare keeps

-- ---- whatever is read

-- the world of every scenario is safe
safe_by : (s : Scenario) (body : Body) → s.body ≡ body → ScenarioKeeps s → RunsSafelyBy body s
safe_by s (Flat devices edits) is keeps = flat_safe s devices edits is keeps
safe_by s (Yang modules tree devices edits) is keeps = yang_safe s modules tree devices edits is keeps

pub each_safe : EachRunIsSafe
each_safe bytes (Err fault) reads = tt
each_safe bytes (Ok s) reads = safe_by s s.body refl (bytes_keep bytes s reads)
