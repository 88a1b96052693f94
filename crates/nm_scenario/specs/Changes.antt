-- The change sets of a scenario: for each a timeout (RFC 6241 section 8.4) and edits, at most one for each device, ascending
-- (this project's own).
use Rattle.std.specs.Prelude.{ℕ, ◌+◌, ◌-◌, ◌^◌, ◌==◌, List, [], ◌∷◌, min, length, map, Option, option_and_then, unwrap_or, codes, if◌then◌else◌}
use Rattle.std.specs.List.{flat_map}
use Rattle.serde_json.specs.Data.{Data}
use Rattle.serde_json.specs.Find.{get, at}
use Rattle.nm_base.specs.Words.{default_timeout}
use Rattle.nm_proto.specs.declared.message.DefaultOperation.{DefaultOperation}
use Rattle.nm_proto.specs.declared.message.DefaultOperation.TheVariants.{Merge}
use Rattle.nm_proto.specs.declared.plan.ChangePlan.{ChangePlan}
use Rattle.nm_proto.specs.declared.plan.PlannedEdit.{PlannedEdit}
use Rattle.nm_scenario_form.specs.Reading.{natural_of}
use Rattle.nm_scenario_form.specs.Form.{Form, Parts, by, list, done, required, optional, closed}
use Rattle.nm_scenario_form.specs.Leafs.{above, number, one}
use Rattle.nm_scenario_events.specs.Limits.{change_limit, device_limit}
use Rattle.nm_scenario_events.specs.Arguments.{operation}
use Rattle.nm_scenario.specs.declared.scenario.ReadChange.{ReadChange}
use Rattle.nm_scenario.specs.declared.scenario.ReadEdit.{ReadEdit}

-- the device of an item, 0 where it has none
abbrev pub device_in : Option Data → ℕ
device_in part = unwrap_or (option_and_then natural_of (option_and_then (get (codes "device")) part)) 0

-- the device of the item before this one, 0 where there is none
abbrev pub above_at : Data → ℕ → ℕ
above_at whole n = if n == 0 then 0 else device_in (at (n - 1) whole)

-- one edit of a change set: of a device of the scenario above that of the edit before it
abbrev pub edit_parts : {E : Type 0} → Form E → ℕ → ℕ → Parts (ℕ → DefaultOperation → E → ReadEdit E) (ReadEdit E)
edit_parts edit below devices =
    required (codes "device") (above below (min devices device_limit))
    (optional (codes "default") Merge operation
    (required (codes "edit") edit done))

-- one edit of a change set, with its default operation
abbrev pub edit_form : {E : Type 0} → Form E → ℕ → ℕ → Form (ReadEdit E)
edit_form edit below devices = closed (edit_parts edit below devices)
    (λ device operation edit. record { device = device; default_operation = operation; edit = edit })

-- the edits of a change set, one or more
unfoldable pub edits_form : {E : Type 0} → Form E → ℕ → Form (List (ReadEdit E))
edits_form edit devices = by (λ whole. list 1 (2 ^ 64 - 1) one (λ n. edit_form edit (above_at whole n) devices))

-- the members of a change set: its timeout in seconds, which may be left out, and its edits
abbrev pub change_parts : {E : Type 0} → Form E → ℕ → Parts (ℕ → List (ReadEdit E) → ReadChange E) (ReadChange E)
change_parts edit devices =
    optional (codes "timeout") default_timeout (number 1 (2 ^ 32 - 1))
    (required (codes "edits") (edits_form edit devices) done)

-- one change set
abbrev pub change_form : {E : Type 0} → Form E → ℕ → Form (ReadChange E)
change_form edit devices = closed (change_parts edit devices) (λ timeout edits. record { timeout = timeout; edits = edits })

-- the change sets of a scenario of so many devices whose edits are written so
unfoldable pub changes_form : {E : Type 0} → Form E → ℕ → Form (List (ReadChange E))
changes_form edit devices = list 0 change_limit one (λ n. change_form edit devices)

-- ---- numbers

-- the edits of change sets get numbers, one after another
abbrev pub planned_from : {E : Type 0} → ℕ → List (ReadEdit E) → List PlannedEdit
planned_from n [] = []
planned_from n (e ∷ es) = record { device = e.device; edit = record { 0 = n }; default_operation = e.default_operation } ∷ planned_from (n + 1) es

-- change sets whose edits have the numbers from n on
abbrev pub plans_from : {E : Type 0} → ℕ → List (ReadChange E) → List ChangePlan
plans_from n [] = []
plans_from n (c ∷ cs) = record { timeout = c.timeout; edits = planned_from n c.edits } ∷ plans_from (n + length c.edits) cs

-- the edits of change sets, in the order of their numbers
abbrev pub edits_of : {E : Type 0} → List (ReadChange E) → List E
edits_of changes = flat_map (λ c. map (λ e. e.edit) c.edits) changes
