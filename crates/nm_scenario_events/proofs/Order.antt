-- The tables of events and requests are in order, so that each fault has a place.
use Rattle.std.proofs.Common.{◌≡◌, ℕ, List, Bool, true, false, cond, codes, Option, Some, None, Ok, Err, refl}
use Rattle.std.specs.Prelude.{◌||◌}
use Rattle.std.specs.Str.{bytes_eq}
use Rattle.serde_json.specs.Data.{Data}
use Rattle.serde_json.specs.Find.{as_str}
use Rattle.nm_proto.specs.declared.message.DefaultOperation.TheVariants.{Merge, Replace, Nothing}
use Rattle.nm_proto.specs.declared.message.Store.TheVariants.{Running, Candidate}
use Rattle.nm_proto.specs.declared.kind.ScenarioKind.TheVariants.{BadValue}
use Rattle.nm_scenario_form.specs.declared.fault.Cause.{Cause}
use Rattle.nm_scenario_form.specs.declared.fault.Step.{Step}
use Rattle.nm_scenario_form.specs.Reading.{plain}
use Rattle.nm_scenario_form.specs.Form.{Form}
use Rattle.nm_scenario_form.specs.Exact.{IsWrong}
use Rattle.nm_scenario_form.specs.Places.{IsThere, InOrder, IsPlace}
use Rattle.nm_scenario_form.proofs.Placed.{placed}
use Rattle.nm_scenario_form.proofs.InOrder.{in_order, number_in_order, text_in_order, leaf_in_order, list_in_order, object_in_order, built_in_order, no_line_in_order, no_more_named, member_in_order, no_more_numbered, argument_in_order, last_in_order}
use Rattle.nm_scenario_events.specs.declared.arguments.Counts.{Counts}
use Rattle.nm_scenario_events.specs.Arguments.{operation_of, operation_said, operation, store_of, store_said, store}
use Rattle.nm_scenario_events.specs.Requests.{asked_edit, cancel_form, commit_form, request_form, selection}
use Rattle.nm_scenario_events.specs.Events.{elementary_form, event_form, events_form}

tested_operation : (a b c : Bool) → IsThere (cond a (Ok Merge) (cond b (Ok Replace) (cond c (Ok Nothing) (Err (plain BadValue)))))
tested_operation true b c = tt
tested_operation false true c = tt
tested_operation false false true = tt
tested_operation false false false = λ e. cc

operation_there : (o : Option (List ℕ)) → IsThere (operation_of o)
operation_there None = λ e. cc
operation_there (Some text) = tested_operation (bytes_eq text (codes "merge")) (bytes_eq text (codes "replace")) (bytes_eq text (codes "none"))

pub operation_in_order : InOrder operation
unfolding operation_said
operation_in_order = leaf_in_order _ (λ whole. operation_there (as_str whole))

tested_store : (a b : Bool) → IsThere (cond a (Ok Running) (cond b (Ok Candidate) (Err (plain BadValue))))
tested_store true b = tt
tested_store false true = tt
tested_store false false = λ e. cc

store_there : (o : Option (List ℕ)) → IsThere (store_of o)
store_there None = λ e. cc
store_there (Some text) = tested_store (bytes_eq text (codes "running")) (bytes_eq text (codes "candidate"))

store_in_order : InOrder store
unfolding store_said
store_in_order = leaf_in_order _ (λ whole. store_there (as_str whole))

selection_in_order : InOrder selection
unfolding selection
selection_in_order = list_in_order _ _ _ _ (λ n. text_in_order _ _)

commit_in_order : InOrder commit_form
commit_in_order = object_in_order _ _ _ (search in_order depth 12)

cancel_in_order : InOrder cancel_form
cancel_in_order = object_in_order _ _ _ (search in_order depth 12)

asked_edit_in_order : {E : Type 0} (edit : Form E) → InOrder edit → InOrder (asked_edit edit)
asked_edit_in_order edit order =
    object_in_order _ _ _ (member_in_order _ _ _ _ operation_in_order (member_in_order _ _ _ _ order (no_more_named _)))

ruleset arguments_order = (number_in_order, store_in_order, no_more_numbered, argument_in_order)

request_in_order : {E : Type 0} (edit : Form E) → InOrder edit → InOrder (request_form edit)
unfolding request_form
request_in_order edit order =
    built_in_order _ _ _ _ (search arguments_order depth 12)
    (built_in_order _ _ _ _ (search arguments_order depth 12)
    (built_in_order _ _ _ _ (search arguments_order depth 12)
    (built_in_order _ _ _ _ (argument_in_order _ _ selection_in_order (no_more_numbered _))
    (built_in_order _ _ _ _ (search arguments_order depth 12)
    (built_in_order _ _ _ _ (argument_in_order _ _ (asked_edit_in_order edit order) (no_more_numbered _))
    (built_in_order _ _ _ _ (search arguments_order depth 12)
    (built_in_order _ _ _ _ (last_in_order _ _ _ refl commit_in_order (no_more_numbered _))
    (built_in_order _ _ _ _ (last_in_order _ _ _ refl cancel_in_order (no_more_numbered _))
    (built_in_order _ _ _ _ (search arguments_order depth 12)
    (built_in_order _ _ _ _ (search arguments_order depth 12)
    (built_in_order _ _ _ _ (search arguments_order depth 12)
    (built_in_order _ _ _ _ (search arguments_order depth 12)
    (built_in_order _ _ _ _ (search arguments_order depth 12) (no_line_in_order _))))))))))))))

elementary_in_order : {E : Type 0} (edit : Form E) → InOrder edit → (c : Counts) → InOrder (elementary_form edit c)
unfolding elementary_form
elementary_in_order edit order c =
    built_in_order _ _ _ _ (search arguments_order depth 12)
    (built_in_order _ _ _ _ (search arguments_order depth 12)
    (built_in_order _ _ _ _ (search arguments_order depth 12)
    (built_in_order _ _ _ _ (search arguments_order depth 12)
    (built_in_order _ _ _ _ (search arguments_order depth 12)
    (built_in_order _ _ _ _ (search arguments_order depth 12)
    (built_in_order _ _ _ _ (search arguments_order depth 12)
    (built_in_order _ _ _ _ (search arguments_order depth 12)
    (built_in_order _ _ _ _ (search arguments_order depth 12)
    (built_in_order _ _ _ _ (search arguments_order depth 12)
    (built_in_order _ _ _ _ (argument_in_order _ _ (number_in_order _ _) (argument_in_order _ _ (number_in_order _ _)
    (argument_in_order _ _ (request_in_order edit order) (no_more_numbered _))))
    (built_in_order _ _ _ _ (search arguments_order depth 12)
    (built_in_order _ _ _ _ (search arguments_order depth 12) (no_line_in_order _)))))))))))))

event_in_order : {E : Type 0} (edit : Form E) → InOrder edit → (c : Counts) → InOrder (event_form edit c)
unfolding event_form
event_in_order edit order c = built_in_order _ _ _ _ (search arguments_order depth 12) (elementary_in_order edit order c)

pub events_in_order : {E : Type 0} (edit : Form E) → InOrder edit → (c : Counts) → InOrder (events_form edit c)
unfolding events_form
events_in_order edit order c = list_in_order _ _ _ _ (λ n. event_in_order edit order c)

pub events_placed : {E : Type 0} (edit : Form E) → InOrder edit → (c : Counts) (whole : Data) (cause : Cause) (place : List Step)
    → IsWrong (events_form edit c) whole cause place → IsPlace cause.kind place whole
events_placed edit order c whole cause place wrong =
    placed (events_form edit c) whole (events_in_order edit order c) cause place wrong.0 wrong.1
