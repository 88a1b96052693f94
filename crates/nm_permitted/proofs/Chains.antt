-- From judging one event to judging many.
use Rattle.std.proofs.Common.{◌≡◌, ◌≤◌, ◌<◌, ◌+◌, ℕ, List, Option, sym, subst, length, take, get_or}
use Rattle.std.proofs.lemmas.List.{take_all}
use Rattle.nm_disk.specs.Image.{DiskState}
use Rattle.nm_proto.specs.Content.{Meaning}
use Rattle.nm_proto.specs.declared.plan.Event.{Event}
use Rattle.nm_world.specs.World.{Setting, CoreState, WorldState, WorldValue, run, with_state}
use Rattle.nm_world.specs.Runs.{Does, Journals}
use Rattle.nm_world.proofs.Passing.{did_as, left_more}
use Rattle.nm_world.proofs.Chains.{and_did, and_left}
use Rattle.nm_permitted.specs.declared.judge.Denial.{Denial}
use Rattle.nm_permitted.specs.Permitted.{judged_run, judged_step, permitted}
use Rattle.nm_permitted.proofs.Judged.{judged_further, judged_grows, judged_is_run, judged_more, judged_step_grows}

module _ {TheContent Config TheEdit Node : Type 0} (meaning : TheContent → Meaning Config TheEdit Node) (judges : TheContent → Setting TheEdit → CoreState Config Node → Event → Option Denial)
    (first : WorldValue TheContent Config TheEdit Node) where
  abbrev Value : Type 0
  Value = WorldValue TheContent Config TheEdit Node

  abbrev m : Meaning Config TheEdit Node
  m = meaning first.content

  abbrev judge : CoreState Config Node → Event → Option Denial
  judge = judges first.content first.setting

  abbrev Judged : List Event → WorldState Config Node → WorldState Config Node
  Judged events w = judged_run m first.setting judge w events

  abbrev one_event : Event → Meaning Config TheEdit Node → Setting TheEdit → WorldState Config Node → WorldState Config Node
  one_event event n setting w = judged_step n setting (judges first.content setting) w event

  -- an event that is judged in another world
  abbrev event_in : Event → Value → WorldState Config Node → WorldState Config Node
  event_in event now w = judged_step (meaning now.content) now.setting (judges now.content now.setting) w event

  did_here : (event : Event) (now later : Value) (mid new : DiskState) → now ≡ with_state first now.state → Does (event_in event now) now later mid new
      → Does (one_event event (meaning now.content) now.setting) now later mid new
  did_here event now later mid new others did =
      subst (λ (x : Value). Does (λ w. judged_step (meaning now.content) now.setting (judges x.content now.setting) w event) now later mid new) others did

  left_here : (event : Event) (now : Value) (mid new : DiskState) → now ≡ with_state first now.state → Journals now.state (event_in event now now.state) mid new
      → Journals now.state (one_event event (meaning now.content) now.setting now.state) mid new
  left_here event now mid new others left =
      subst (λ (x : Value). Journals now.state (judged_step (meaning now.content) now.setting (judges x.content now.setting) now.state event) mid new) others left

  pub judged_did : (events : List Event) (i : ℕ) (event : Event) (now later : Value) (old mid new : DiskState) → i < length events → event ≡ get_or events i event
      → Does (Judged (take i events)) first now old mid → Does (event_in event now) now later mid new → Does (Judged (take (i + 1) events)) first later old new
  judged_did events i event now later old mid new within is did next =
      did_as (λ w. one_event event m first.setting (Judged (take i events) w)) (Judged (take (i + 1) events)) first later old new
      (sym (judged_more m first.setting judge first.state events i event within is))
      (and_did meaning first (Judged (take i events)) (one_event event) now later old mid new (judged_grows m first.setting judge first.state (take i events))
      (judged_step_grows m first.setting judge (Judged (take i events) first.state) event) did (did_here event now later mid new did.others next))

  judged_left : (events : List Event) (i : ℕ) (event : Event) (now : Value) (old mid new : DiskState) → i < length events → event ≡ get_or events i event
      → Does (Judged (take i events)) first now old mid → Journals now.state (event_in event now now.state) mid new
      → Journals first.state (Judged events first.state) old new
  judged_left events i event now old mid new within is did left =
      left_more first.state (Judged (take (i + 1) events) first.state) (Judged events first.state) old new
      (judged_further m first.setting judge first.state (i + 1) events)
      (subst (λ (w : WorldState Config Node). Journals first.state w old new) (sym (judged_more m first.setting judge first.state events i event within is))
      (and_left meaning first (Judged (take i events)) (one_event event) now old mid new (judged_grows m first.setting judge first.state (take i events))
      (judged_step_grows m first.setting judge (Judged (take i events) first.state) event) did (left_here event now mid new did.others left)))

  -- the run of those that are permitted
  abbrev Permits : List Event → WorldState Config Node → WorldState Config Node
  Permits events w = run m first.setting w (permitted m first.setting judge w events)

  pub permitted_left : (events : List Event) (i : ℕ) (event : Event) (now : Value) (old mid new : DiskState) → i < length events → event ≡ get_or events i event
      → Does (Judged (take i events)) first now old mid → Journals now.state (event_in event now now.state) mid new
      → Journals first.state (Permits events first.state) old new
  permitted_left events i event now old mid new within is did left =
      subst (λ (w : WorldState Config Node). Journals first.state w old new) (judged_is_run m first.setting judge first.state events)
      (judged_left events i event now old mid new within is did left)

  pub permitted_end : (events : List Event) (i : ℕ) (now : Value) (old new : DiskState) → length events ≤ i → Does (Judged (take i events)) first now old new
      → Does (Permits events) first now old new
  permitted_end events i now old new over did =
      did_as (Judged events) (Permits events) first now old new (judged_is_run m first.setting judge first.state events)
      (subst (λ l. Does (Judged l) first now old new) (take_all i events over) did)
