-- What happens in a run, as a list that begins with the event's word (this project's own): a table of one line for each word. How
-- an edit is written depends on the contents, so its form is given.
use Rattle.std.specs.Prelude.{ℕ, ◌*◌, List, Bool, false, ◌&&◌, ◌==◌, nat_le, min, Option, Some, None, unwrap_or, codes, if◌then◌else◌}
use Rattle.serde_json.specs.Data.{Data}
use Rattle.nm_proto.specs.declared.plan.Event.TheVariants.{Submit, Turn, Deliver, Answer, Break, Lose, Advance, Restart, Forget, Crash, Renew, Leave, Round}
use Rattle.nm_scenario_form.specs.Words.{is_word, item_count, natural_in}
use Rattle.nm_scenario_form.specs.Form.{Form, list, no_line, done, ◌▹◌, ◌or◌, built}
use Rattle.nm_scenario_events.specs.declared.event.ReadEvent.{ReadEvent}
use Rattle.nm_scenario_events.specs.declared.event.ReadEvent.TheVariants.{Other, Asked}
use Rattle.nm_scenario_events.specs.declared.arguments.Counts.{Counts}
use Rattle.nm_scenario_events.specs.Limits.{change_limit, event_limit, turn_limit}
use Rattle.nm_scenario_events.specs.Arguments.{change, device, operator, short, turns}
use Rattle.nm_scenario_events.specs.Requests.{request_form}

-- an elementary event
unfoldable pub elementary_form : {E : Type 0} → Form E → Counts → Form (ReadEvent E)
elementary_form edit c =
    built (codes "submit") (change c ▹ done) (λ change. Other (Submit change))
    or built (codes "turn") (change c ▹ done) (λ change. Other (Turn change))
    or built (codes "deliver") (change c ▹ device c ▹ short ▹ done) (λ change device link. Other (Deliver change device link))
    or built (codes "answer") (change c ▹ device c ▹ short ▹ short ▹ done)
    (λ change device link number. Other (Answer change device link number))
    or built (codes "break") (change c ▹ device c ▹ done) (λ change device. Other (Break change device))
    or built (codes "lose") (change c ▹ device c ▹ short ▹ done) (λ change device link. Other (Lose change device link))
    or built (codes "advance") (device c ▹ short ▹ done) (λ device seconds. Other (Advance device seconds))
    or built (codes "restart") (device c ▹ done) (λ device. Other (Restart device))
    or built (codes "forget") (change c ▹ done) (λ change. Other (Forget change))
    or built (codes "crash") done (Other Crash)
    or built (codes "foreign") (operator c ▹ device c ▹ request_form edit ▹ done) Asked
    or built (codes "leave") (operator c ▹ device c ▹ done) (λ operator device. Other (Leave operator device))
    or built (codes "renew") (change c ▹ device c ▹ done) (λ change device. Other (Renew change device))
    or no_line

-- an event: a round, which stands for so many turns and what follows each of them, or an elementary event
unfoldable pub event_form : {E : Type 0} → Form E → Counts → Form (ReadEvent E)
event_form edit c =
    built (codes "round") (change c ▹ turns ▹ done) (λ change turns. Other (Round change turns))
    or elementary_form edit c

-- whether a number is there and in a range
abbrev pub is_within : ℕ → ℕ → Option ℕ → Bool
is_within low high None = false
is_within low high (Some n) = nat_le low n && nat_le n high

-- a round whose numbers are right
abbrev pub is_right_round : Counts → Data → Bool
is_right_round c part =
    is_word part (codes "round")
    && (item_count part == 3
    && (is_within 1 (min c.changes change_limit) (natural_in 1 part) && is_within 1 turn_limit (natural_in 2 part)))

-- how many elementary events an element stands for: three for each turn of a round whose numbers are right, else one
unfoldable pub event_weight : Counts → Data → ℕ
event_weight c part = if is_right_round c part then 3 * unwrap_or (natural_in 2 part) 0 else 1

-- the events of a scenario: at most event_limit elementary ones, counted before any is read
unfoldable pub events_form : {E : Type 0} → Form E → Counts → Form (List (ReadEvent E))
events_form edit c = list 0 event_limit (event_weight c) (λ n. event_form edit c)
