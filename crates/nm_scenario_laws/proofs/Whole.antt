-- What holds of whole scenarios that are said.
use Rattle.std.proofs.Common.{◌≡◌, ℕ, ◌+◌, ◌≤◌, List, [], ◌∷◌, ◌++◌, length, Some, Result, Ok, Err, codes, refl, ap, sym, subst, ◌∙◌, arith, length-append}
use Rattle.std.specs.List.{All}
use Rattle.std.proofs.lemmas.List.Elements.{All-nil, All-cons, All-append, All-head, All-tail}
use Rattle.std.proofs.lemmas.List.{length-map}
use Rattle.serde_json.specs.Data.{Data}
use Rattle.serde_json.specs.Find.{get}
use Rattle.nm_yang.specs.Tree.{Tree}
use Rattle.nm_schema_tree.specs.Nodes.{SchemaTree}
use Rattle.nm_path.specs.Sound.{IsSound}
use Rattle.nm_schema_faults.specs.declared.fault.Fault.{Fault as SchemaFault}
use Rattle.nm_schema.specs.Built.{Builds, built_of}
use Rattle.nm_schema.proofs.Faulting.{builds_given}
use Rattle.nm_schema.proofs.Sound.{modules_sound}
use Rattle.nm_schema.proofs.Marked.{modules_marked}
use Rattle.nm_edit.specs.declared.edit.EditNode.{EditNode}
use Rattle.nm_edit.specs.EditOf.{IsEditOf}
use Rattle.nm_scenario_form.specs.declared.fault.Cause.{Cause}
use Rattle.nm_scenario_form.specs.Words.{item_count}
use Rattle.nm_scenario_events.specs.Limits.{device_limit, change_limit, operator_limit}
use Rattle.nm_scenario_events.specs.declared.arguments.Counts.{Counts}
use Rattle.nm_scenario_events.specs.Events.{events_form}
use Rattle.nm_scenario_events.specs.Kept.{IsWithin, EventKeeps, EventsKeep}
use Rattle.nm_scenario_events.specs.Numbered.{events_from, edits_of_events, selects_of_events}
use Rattle.nm_scenario_form.specs.Form.{leaf, done}
use Rattle.nm_scenario_form.specs.Kept.{Holds, OfResult}
use Rattle.nm_scenario_form.specs.Says.{Says}
use Rattle.nm_scenario_form.proofs.Keeping.{kept, implied, always, slot_kept}
use Rattle.nm_scenario_form.proofs.Ranges.{slot_holds, missing_holds, done_holds, object_holds}
use Rattle.nm_scenario.specs.declared.head.Head.{Head}
use Rattle.nm_scenario.specs.declared.head.Head.TheVariants as head
use Rattle.nm_scenario.specs.declared.members.Members.{Members}
use Rattle.nm_scenario.specs.declared.scenario.Body.{Body}
use Rattle.nm_scenario.specs.declared.scenario.Body.TheVariants.{Flat, Yang}
use Rattle.nm_scenario.specs.declared.scenario.Scenario.{Scenario}
use Rattle.nm_proto.specs.declared.kind.ScenarioKind.TheVariants.{NotBuilt}
use Rattle.nm_scenario.specs.Nothing.{nothing}
use Rattle.nm_scenario.specs.Flat.{node_limit, cells_said, changes_said}
use Rattle.nm_scenario.specs.Yang.{data_said, nodes_said}
use Rattle.nm_scenario.specs.Counts.{counts_of}
use Rattle.nm_scenario.specs.Devices.{device_form, devices_form}
use Rattle.nm_scenario.specs.Changes.{changes_form, plans_from, edits_of}
use Rattle.nm_scenario.specs.Operators.{user, operator_form, operators_form}
use Rattle.nm_scenario.specs.Head.{module_limit, head_form, texts_of, statements_of}
use Rattle.nm_scenario.specs.Members.{makes, members_form}
use Rattle.nm_scenario.specs.Scenario.{scenario_with, SaysMembers, SaysBuilt, SaysAfter, SaysScenario, SaysValue, SaysBytes, whole_of}
use Rattle.nm_scenario_laws.specs.Kept.{StateKeeps, EditKeeps, DataKeeps, IsGiven, BodyKeeps, ChangeKeeps, devices_in, edits_in, UserKeeps, ScenarioKeeps, counts_in}
use Rattle.nm_scenario_laws.proofs.Lists.{ListKeeps, list_keeps, required_list, optional_list}
use Rattle.nm_scenario_laws.proofs.Leafs.{leaf_holds, cells_kept, changes_kept, data_kept, DataEditKeeps, nodes_kept, users_hold}
use Rattle.nm_scenario_laws.proofs.Changes.{ReadKeeps, changes_keep, plans_keep, plans_length, plans_name, all_edits as all_planned}
use Rattle.nm_scenario_laws.proofs.Events.{EventsAre, no_events, events_are, numbered_all, numbered_own, numbered_names, numbered_total}
use Rattle.nm_scenario_laws.proofs.Heads.{few_modules}

-- ---- counts

abbrev counts : ℕ → ℕ → ℕ → Counts
counts a b d = record { changes = a; devices = b; operators = d }

counts_are : (a b d x y z : ℕ) → a ≡ x → b ≡ y → d ≡ z → counts a b d ≡ counts x y z
counts_are a b d x y z e f g = ap (λ n. counts n b d) e ∙ (ap (λ n. counts x n d) f ∙ ap (λ n. counts x y n) g)

-- ---- the members

devices_keep : {C : Type 0} (config : Data → Result C Cause) (P : C → Type 0) → ((part : Data) → OfResult P (config part)) → (part : Data) (xs : List C)
    → Says (devices_form config) part xs → ListKeeps P 1 device_limit (item_count part) xs
unfolding devices_form
devices_keep config P holds part xs says =
    list_keeps P 1 device_limit (λ n. device_form config)
    (λ n child x said. kept (device_form config) P child x
    (object_holds _ _ _ P (slot_holds _ (leaf config) _ _ P (implied (leaf config) P _ (leaf_holds config P holds) (λ c p. done_holds c P p)))) said) part xs says

operators_keep : (part : Data) (users : List (List ℕ)) → Says operators_form part users → ListKeeps UserKeeps 0 operator_limit (item_count part) users
unfolding operators_form
operators_keep part users says =
    list_keeps UserKeeps 0 operator_limit (λ n. operator_form)
    (λ n child x said. kept operator_form UserKeeps child x
    (object_holds _ _ _ UserKeeps (slot_holds _ user _ _ UserKeeps (implied user UserKeeps _ users_hold (λ name keeps.
    missing_holds _ tt (nothing NotBuilt) done (λ script. name) UserKeeps (done_holds name UserKeeps keeps) (always (nothing NotBuilt) _ (λ b. done_holds name UserKeeps keeps)))))) said) part users says

-- the members, in a scenario of so many change sets, devices and operators
record MembersKeep {C E : Type 0} (P : C → Type 0) (Q : E → Type 0) (c : Counts) (m : Members C E) : Type 0 where
  devices : ListKeeps P 1 device_limit c.devices m.devices
  changes : ListKeeps (ReadKeeps Q c.devices) 0 change_limit c.changes m.changes
  operators : ListKeeps UserKeeps 0 operator_limit c.operators m.rest.operators
  events : EventsAre Q c m.rest.events

module _ {C E : Type 0} (config : Data → Result C Cause) (edit : Data → Result E Cause) (P : C → Type 0) (Q : E → Type 0)
    (configs : (part : Data) → OfResult P (config part)) (edits : (part : Data) → OfResult Q (edit part)) where
  edits_hold : Holds (leaf edit) Q
  edits_hold = leaf_holds edit Q edits

  members_keep : (whole : Data) (m : Members C E) → Says (members_form config edit) whole m → MembersKeep P Q (counts_of whole) m
  unfolding Says members_form
  members_keep whole m says =
      let c : Counts = counts_of whole in
      let parts = says.parts in
      let rest = parts.2.2.2.2 in
      let is : MembersKeep P Q c (makes parts.0 parts.2.0 parts.2.2.0 parts.2.2.2.0 rest.0 rest.2.0 rest.2.2.0 rest.2.2.2.0) = record {
        devices = required_list P 1 device_limit (λ part b. Says (devices_form config) part b) (devices_keep config P configs)
            (get (codes "devices") whole) parts.0 parts.1;
        changes = optional_list (ReadKeeps Q c.devices) change_limit (λ part b. Says (changes_form (leaf edit) c.devices) part b)
            (changes_keep (leaf edit) Q edits_hold c.devices) (get (codes "changes") whole) parts.2.0 parts.2.1;
        operators = optional_list UserKeeps operator_limit (λ part b. Says operators_form part b) operators_keep
            (get (codes "operators") whole) parts.2.2.0 parts.2.2.1;
        events = slot_kept (λ part b. Says (events_form (leaf edit) c) part b) (EventsAre Q c) (Some []) (get (codes "events") whole) rest.0
            (λ part said. events_are (leaf edit) Q edits_hold c part rest.0 said) (no_events Q c) rest.1;
      } in
      subst (MembersKeep P Q c) rest.2.2.2.2 is

  -- all edits, those of change sets and of events
  edits_keep : (c : Counts) (m : Members C E) → MembersKeep P Q c m → All Q (edits_of m.changes ++ edits_of_events m.rest.events)
  edits_keep c m k =
      let changes : ListKeeps (ReadKeeps Q c.devices) 0 change_limit c.changes m.changes = k.changes in
      let events : EventsAre Q c m.rest.events = k.events in
      All-append Q (edits_of m.changes) (edits_of_events m.rest.events) (all_planned Q c.devices m.changes changes.all) events.edits

  -- a scenario of contents that keep what they have to
  scenario_keeps : (body : List C → List E → Body) (c : Counts) (m : Members C E) → MembersKeep P Q c m
      → BodyKeeps (body m.devices (edits_of m.changes ++ edits_of_events m.rest.events))
      → devices_in (body m.devices (edits_of m.changes ++ edits_of_events m.rest.events)) ≡ length m.devices
      → edits_in (body m.devices (edits_of m.changes ++ edits_of_events m.rest.events)) ≡ length (edits_of m.changes ++ edits_of_events m.rest.events)
      → ScenarioKeeps (scenario_with body m)
  scenario_keeps body c m k kept_body are edits_are =
      let n : ℕ = devices_in (body m.devices (edits_of m.changes ++ edits_of_events m.rest.events)) in
      let devices : ListKeeps P 1 device_limit c.devices m.devices = k.devices in
      let changes : ListKeeps (ReadKeeps Q c.devices) 0 change_limit c.changes m.changes = k.changes in
      let operators : ListKeeps UserKeeps 0 operator_limit c.operators m.rest.operators = k.operators in
      let events : EventsAre Q c m.rest.events = k.events in
      let every : EventsKeep c m.rest.events = events.keeps in
      let edits : ℕ = edits_in (body m.devices (edits_of m.changes ++ edits_of_events m.rest.events)) in
      let sum : edits ≡ length (edits_of m.changes) + length (edits_of_events m.rest.events) =
      edits_are ∙ length-append (edits_of m.changes) (edits_of_events m.rest.events) in
      let count : n ≡ c.devices = are ∙ devices.count_is in
      let same : c ≡ counts_in (scenario_with body m) =
      counts_are c.changes c.devices c.operators _ _ _ (sym (plans_length 0 m.changes ∙ changes.count_is)) (sym count) (sym operators.count_is) in
      record {
        body = kept_body;
        devices = subst (IsWithin 1 device_limit) (sym are) (devices.least, devices.most);
        change_sets = omega (arith, changes.most, plans_length 0 m.changes);
        changes = subst (λ d. All (ChangeKeeps d) (plans_from 0 m.changes)) (sym count) (plans_keep Q c.devices 0 m.changes changes.all);
        operator_count = operators.most;
        operators = operators.all;
        event_count = omega (arith, every.weigh, numbered_total m.rest.operators (length (edits_of m.changes)) 0 m.rest.events);
        events = subst (λ d. All (EventKeeps d) (events_from m.rest.operators (length (edits_of m.changes)) 0 m.rest.events)) same
            (numbered_all c m.rest.operators (length (edits_of m.changes)) 0 m.rest.events every.keep);
        openings = numbered_own c m.rest.operators (length (edits_of m.changes)) 0 m.rest.events operators.count_is every.keep;
        planned = plans_name edits 0 m.changes (omega (arith, sum));
        named = numbered_names edits (length (selects_of_events m.rest.events)) c m.rest.operators (length (edits_of m.changes)) 0 m.rest.events
            (omega (arith, sum)) (omega arith) every.keep;
      }

-- ---- flat contents

flat_keeps : (whole : Data) (scenario : Scenario) → SaysMembers cells_said changes_said Flat whole scenario → ScenarioKeeps scenario
flat_keeps whole scenario says =
    let m : Members _ _ = says.members in
    let k = members_keep cells_said changes_said StateKeeps EditKeeps cells_kept changes_kept whole m says.says in
    let states : ListKeeps StateKeeps 1 device_limit _ m.devices = k.devices in
    subst ScenarioKeeps says.is
    (scenario_keeps cells_said changes_said StateKeeps EditKeeps cells_kept changes_kept Flat (counts_of whole) m k
    (states.all, edits_keep cells_said changes_said StateKeeps EditKeeps cells_kept changes_kept (counts_of whole) m k) refl refl)

-- ---- YANG contents

abbrev IsFew : List EditNode → Type 0
IsFew nodes = length nodes ≤ node_limit

are_edits : (tree : SchemaTree) (edits : List (List EditNode)) → All (DataEditKeeps tree) edits → All (IsEditOf tree) edits
are_edits tree [] k = All-nil (IsEditOf tree)
are_edits tree (e ∷ es) k =
    let h : DataEditKeeps tree e = All-head (DataEditKeeps tree) e es k in
    All-cons (IsEditOf tree) e es h.is_edit (are_edits tree es (All-tail (DataEditKeeps tree) e es k))

are_few : (tree : SchemaTree) (edits : List (List EditNode)) → All (DataEditKeeps tree) edits → All IsFew edits
are_few tree [] k = All-nil IsFew
are_few tree (e ∷ es) k =
    let h : DataEditKeeps tree e = All-head (DataEditKeeps tree) e es k in
    All-cons IsFew e es h.few (are_few tree es (All-tail (DataEditKeeps tree) e es k))

data_keeps : (tree : SchemaTree) (texts : List (List ℕ)) (whole : Data) (scenario : Scenario) → IsGiven tree → length texts ≤ module_limit
    → SaysMembers (data_said tree) (nodes_said tree) (Yang texts tree) whole scenario → ScenarioKeeps scenario
data_keeps tree texts whole scenario given few says =
    let sound : IsSound tree.nodes = given.sound in
    let held = data_kept tree sound.bounds in
    let m : Members _ _ = says.members in
    let k = members_keep (data_said tree) (nodes_said tree) (DataKeeps tree) (DataEditKeeps tree) held (nodes_kept tree) whole m says.says in
    let running : ListKeeps (DataKeeps tree) 1 device_limit _ m.devices = k.devices in
    let edits : All (DataEditKeeps tree) (edits_of m.changes ++ edits_of_events m.rest.events) =
    edits_keep (data_said tree) (nodes_said tree) (DataKeeps tree) (DataEditKeeps tree) held (nodes_kept tree) (counts_of whole) m k in
    subst ScenarioKeeps says.is
    (scenario_keeps (data_said tree) (nodes_said tree) (DataKeeps tree) (DataEditKeeps tree) held (nodes_kept tree) (Yang texts tree) (counts_of whole) m k
    (record { module_count = few; given = given; running = running.all; edited = are_edits tree (edits_of m.changes ++ edits_of_events m.rest.events) edits; few = are_few tree (edits_of m.changes ++ edits_of_events m.rest.events) edits }) refl refl)

is_given : (modules : List Tree) (tree : SchemaTree) → built_of modules ≡ Ok tree → IsGiven tree
is_given modules tree e =
    let builds : Builds modules (Ok tree) = (builds_given modules (Ok tree)).1 (sym e) in
    record { sound = modules_sound modules tree builds; marker = modules_marked modules tree builds }

built_keeps : (modules : List Tree) (texts : List (List ℕ)) (given : Result SchemaTree SchemaFault) (whole : Data) (scenario : Scenario)
    → built_of modules ≡ given → length texts ≤ module_limit → SaysBuilt texts given whole scenario → ScenarioKeeps scenario
built_keeps modules texts (Ok tree) whole scenario e few says = data_keeps tree texts whole scenario (is_given modules tree e) few says
built_keeps modules texts (Err fault) whole scenario e few says = absurd says

-- ---- the whole

after_keeps : (h : Head) (whole : Data) (scenario : Scenario) → Says head_form whole h → SaysAfter h whole scenario → ScenarioKeeps scenario
after_keeps head.Flat whole scenario is says = flat_keeps whole scenario says
after_keeps (head.Yang modules) whole scenario is says =
    built_keeps (statements_of modules) (texts_of modules) (built_of (statements_of modules)) whole scenario refl
    (omega (arith, few_modules whole modules is, length-map modules (λ m. m.text))) says

-- a scenario that is said is within its limits
pub whole_keeps : (whole : Data) (scenario : Scenario) → SaysScenario whole scenario → ScenarioKeeps scenario
whole_keeps whole scenario says = after_keeps says.head whole scenario says.says says.after

found_keeps : (found : Result Data Cause) (scenario : Scenario) → SaysValue found scenario → ScenarioKeeps scenario
found_keeps (Ok whole) scenario says = whole_keeps whole scenario says
found_keeps (Err cause) scenario says = absurd says

pub bytes_keep : (bytes : List ℕ) (scenario : Scenario) → SaysBytes bytes scenario → ScenarioKeeps scenario
bytes_keep bytes scenario says = found_keeps (whole_of bytes) scenario says
