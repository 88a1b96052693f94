-- A run as a plain value (this project's own).
use Rattle.std.specs.Prelude.{List, [], Option, None}
use Rattle.nm_proto.specs.Content.{TablesState}
use Rattle.nm_proto.specs.declared.fault.PlanEntry.{PlanEntry}
use Rattle.nm_run_plan.specs.declared.plan.OperatorPlan.{OperatorPlan}

-- the content, what requests name by number, what each device runs at the beginning, the faults that are planned for
-- each, and what operators ask
pub record Run (C Config TheEdit : Type 0) : Type 0 where
  pub content : Option C
  pub tables : TablesState TheEdit
  pub starts : List Config
  pub faults : List (List PlanEntry)
  pub operators : List OperatorPlan

-- a run without devices and operators, over no content
abbrev pub no_run : {C Config TheEdit : Type 0} → Run C Config TheEdit
no_run = record { content = None; tables = record { edits = []; selects = [] }; starts = []; faults = []; operators = [] }
