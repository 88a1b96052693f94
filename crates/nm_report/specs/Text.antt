-- The texts of the program (this project's own): each line ends with one newline.
use Rattle.std.specs.Prelude.{ℕ, ◌+◌, List, [], ◌∷◌, ◌++◌, Bool, true, false, Option, Some, None, map, codes, decimal, if◌then◌else◌}
use Rattle.std.specs.List.{flat_map}
use Rattle.nm_base.specs.Mask.{mask_contains}
use Rattle.nm_base.specs.Token.{token_of}
use Rattle.nm_proto.specs.declared.journal.Entry.{Entry}
use Rattle.nm_proto.specs.declared.journal.Verdict.{Verdict}
use Rattle.nm_proto.specs.declared.plan.ChangePlan.{ChangePlan}
use Rattle.nm_proto.specs.Plan.{devices_in}
use Rattle.nm_history.specs.declared.event.Noted.{Noted}
use Rattle.nm_history.specs.declared.outcome.Outcome.{Outcome}
use Rattle.nm_history.specs.declared.outcome.Outcome.TheVariants.{Never, Pending, Confirmed, Undone}
use Rattle.nm_history.specs.Outcome.{outcome_of}
use Rattle.nm_history.specs.History.{RecordedState}
use Rattle.nm_recovery.specs.Recovery.{is_started, verdict_in, is_ended_in}
use Rattle.nm_world.specs.declared.happened.TraceEntry.{TraceEntry}
use Rattle.nm_world.specs.declared.report.Pair.{Pair}
use Rattle.nm_world.specs.declared.report.Report.{Report}
use Rattle.nm_world.specs.World.{Setting, WorldState}
use Rattle.nm_world.specs.Report.{report_of}
use Rattle.nm_report.specs.declared.details.Details.{Details}
use Rattle.nm_report.specs.Trace.{trace_text, verdict_text}
use Rattle.nm_report.specs.Notices.{notices_text}

-- the first line, which names the version of the form
abbrev pub heading : List ℕ
heading = codes "netm 1\n"

-- the running configuration of a device, whose text is shown
abbrev pub running_line : ℕ → List ℕ → List ℕ
running_line device shown = codes "running " ++ decimal device ++ codes " " ++ shown ++ codes "\n"

-- the running configurations of devices from a number on
abbrev pub running_lines : {Config : Type 0} → (Config → List ℕ) → ℕ → List Config → List ℕ
running_lines shown device [] = []
running_lines shown device (config ∷ configs) = running_line device (shown config) ++ running_lines shown (device + 1) configs

-- the running configurations of devices with their histories
abbrev pub running_of : {Config Node : Type 0} → List (RecordedState Config Node) → List Config
running_of devices = map (λ r. r.device.stores.running) devices

-- ---- a change set

-- what came of a change set at a device, in a word
abbrev pub outcome_word : Outcome → List ℕ
outcome_word Never = codes "never"
outcome_word Pending = codes "pending"
outcome_word Confirmed = codes "confirmed"
outcome_word (Undone by) = codes "undone"

-- the verdict on a change set, where it is decided
abbrev pub decided_text : Option Verdict → List ℕ
decided_text None = codes "undecided"
decided_text (Some verdict) = verdict_text verdict

-- the manager is done with a change set
abbrev pub ended_text : Bool → List ℕ
ended_text true = codes " ended"
ended_text false = []

-- what the journal says of a change set: whether it was submitted, its verdict, and whether the manager is done with it
abbrev pub state_text : Bool → Option Verdict → Bool → List ℕ
state_text submitted verdict ended = if submitted then decided_text verdict ++ ended_text ended else codes "unsubmitted"

-- the line of a change set, by whether it was submitted, its verdict, and whether the manager is done with it
unfoldable pub change_line_of : ℕ → Bool → Option Verdict → Bool → List ℕ
change_line_of change submitted verdict ended = codes "change " ++ decimal change ++ codes " " ++ state_text submitted verdict ended ++ codes "\n"

-- the line of a change set, by what the journal has of it
unfoldable pub change_line : ℕ → List Entry → List ℕ
change_line change entries = change_line_of change (is_started change entries) (verdict_in change entries) (is_ended_in change entries)

-- a change set and a device
abbrev pub pair_text : ℕ → ℕ → List ℕ
pair_text change device = codes " " ++ decimal change ++ codes " " ++ decimal device

-- what became of a change set at a device, by the word for it
abbrev pub outcome_line_of : ℕ → ℕ → List ℕ → List ℕ
outcome_line_of change device word = codes "outcome" ++ pair_text change device ++ codes " " ++ word ++ codes "\n"

-- the outcome of a change set at a device
abbrev pub outcome_line : ℕ → ℕ → Outcome → List ℕ
outcome_line change device outcome = outcome_line_of change device (outcome_word outcome)

-- the same where the device is one of the change set, read from its history
unfoldable pub outcome_text : ℕ → ℕ → ℕ → List Noted → List ℕ
outcome_text change members device history =
    if mask_contains members device then outcome_line change device (outcome_of (token_of change) history) else []

module _ {Config Node : Type 0} where
  -- the same of devices from a number on
  abbrev pub outcome_texts : ℕ → ℕ → ℕ → List (RecordedState Config Node) → List ℕ
  outcome_texts change members device [] = []
  outcome_texts change members device (r ∷ rs) = outcome_text change members device r.history ++ outcome_texts change members (device + 1) rs

  -- a change set of these devices: what the journal says of it, and its outcomes
  unfoldable pub change_text : List (RecordedState Config Node) → List Entry → ℕ → ℕ → List ℕ
  change_text devices entries change members = change_line change entries ++ outcome_texts change members 1 devices

  -- change sets from a number on
  abbrev pub change_texts : List (RecordedState Config Node) → List Entry → ℕ → List ChangePlan → List ℕ
  change_texts devices entries change [] = []
  change_texts devices entries change (plan ∷ plans) =
      change_text devices entries change (devices_in plan.edits) ++ change_texts devices entries (change + 1) plans

-- ---- the whole

-- the beginning of a text: what came of each event, where that is asked for
unfoldable pub start_text : Bool → List TraceEntry → List ℕ
start_text trace trail = heading ++ trace_text trace trail

-- a line of a word, a change set and a device
abbrev pub pair_line : List ℕ → Pair → List ℕ
pair_line word pair = word ++ pair_text pair.change pair.device ++ codes "\n"

-- a line for each pair, or the word `none`
unfoldable pub pair_lines : List ℕ → List Pair → List ℕ
pair_lines word [] = word ++ codes " none\n"
pair_lines word (pair ∷ pairs) = flat_map (pair_line word) (pair ∷ pairs)

-- the devices that differ and those that aren't settled
abbrev pub report_text : Report → List ℕ
report_text report = pair_lines (codes "differ") report.differ ++ pair_lines (codes "unsettled") report.unsettled

-- the text of a world: what came of each event, each change set, the running configurations, what is reported, and what each device
-- tells of confirmed commits
abbrev pub world_text : {Config TheEdit Node : Type 0} → (Config → List ℕ) → Details → Setting TheEdit → WorldState Config Node → List ℕ
world_text shown details setting w =
    start_text details.trace w.trail ++ change_texts w.devices w.entries 1 setting.plans
    ++ running_lines shown 1 (running_of w.devices) ++ report_text (report_of setting w) ++ notices_text details.notices w.devices
