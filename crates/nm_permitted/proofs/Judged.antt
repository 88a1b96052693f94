-- What judged events do is the run of those that are permitted, and their entries grow as in any run.
use Rattle.std.proofs.Common.{◌≡◌, ◌<◌, ◌+◌, ℕ, zero, suc, List, [], ◌∷◌, ◌++◌, Bool, true, false, Option, Some, None, is_some, length, take, get_or, refl, sym, ap, ◌∙◌, if◌then◌else◌}
use Rattle.std.proofs.lemmas.Bool.{cond_both}
use Rattle.std.proofs.lemmas.List.{take_more}
use Rattle.nm_proto.specs.Content.{Meaning}
use Rattle.nm_proto.specs.declared.plan.Event.{Event}
use Rattle.nm_world.specs.World.{Setting, CoreState, WorldState, core_of, event_step, run}
use Rattle.nm_world.specs.Runs.{GoesOnAs}
use Rattle.nm_world.proofs.Growing.{goes_itself, goes_then}
use Rattle.nm_world.proofs.Passing.{event_grows}
use Rattle.nm_permitted.specs.declared.judge.Denial.{Denial}
use Rattle.nm_permitted.specs.Permitted.{permitted, judged_step, judged_run}

module _ {Config TheEdit Node : Type 0} (m : Meaning Config TheEdit Node) (setting : Setting TheEdit) (judge : CoreState Config Node → Event → Option Denial) where
  abbrev W : Type 0
  W = WorldState Config Node

  abbrev one : W → Event → W
  one w event = event_step m setting w event

  abbrev may : W → List Event → List Event
  may w events = permitted m setting judge w events

  abbrev goes : W → List Event → W
  goes w events = judged_run m setting judge w events

  -- ---- the run of those that are permitted

  run_by : (denies : Bool) (w : W) (event : Event) (events : List Event) → goes w events ≡ run m setting w (may w events)
      → goes (one w event) events ≡ run m setting (one w event) (may (one w event) events)
      → goes (if denies then w else one w event) events ≡ run m setting w (if denies then may w events else event ∷ may (one w event) events)
  run_by true w event events stays goes_on = stays
  run_by false w event events stays goes_on = goes_on

  pub judged_is_run : (w : W) (events : List Event) → goes w events ≡ run m setting w (may w events)
  judged_is_run w [] = refl
  judged_is_run w (event ∷ events) =
      run_by (is_some (judge (core_of w) event)) w event events (judged_is_run w events) (judged_is_run (one w event) events)

  -- ---- entries grow

  abbrev Grows : W → W → Type 0
  Grows w after = GoesOnAs w.entries after.entries

  pub judged_step_grows : (w : W) (event : Event) → Grows w (judged_step m setting judge w event)
  judged_step_grows w event =
      cond_both (is_some (judge (core_of w) event)) w (one w event) (Grows w) (λ _. goes_itself w.entries) (λ _. event_grows m setting w event)

  pub judged_grows : (w : W) (events : List Event) → Grows w (goes w events)
  judged_grows w [] = goes_itself w.entries
  judged_grows w (event ∷ events) =
      let next = judged_step m setting judge w event in
      goes_then w.entries next.entries (goes next events).entries (judged_step_grows w event) (judged_grows next events)

  -- ---- more of them

  judged_then : (w : W) (first later : List Event) → goes w (first ++ later) ≡ goes (goes w first) later
  judged_then w [] later = refl
  judged_then w (event ∷ first) later = judged_then (judged_step m setting judge w event) first later

  pub judged_more : (w : W) (events : List Event) (i : ℕ) (event : Event) → i < length events → event ≡ get_or events i event
      → goes w (take (i + 1) events) ≡ judged_step m setting judge (goes w (take i events)) event
  judged_more w events i event within is =
      ap (goes w) (take_more events i event within ∙ ap (λ (x : Event). take i events ++ x ∷ []) (sym is)) ∙ judged_then w (take i events) (event ∷ [])

  pub judged_further : (w : W) (n : ℕ) (events : List Event) → Grows (goes w (take n events)) (goes w events)
  judged_further w zero events = judged_grows w events
  judged_further w (suc n) [] = goes_itself w.entries
  judged_further w (suc n) (event ∷ events) = judged_further (judged_step m setting judge w event) n events

  -- ---- where nothing is denied

  all_by : (denied_by : Option Denial) (w : W) (event : Event) (events : List Event) → denied_by ≡ None → may (one w event) events ≡ events
      → (if is_some denied_by then may w events else event ∷ may (one w event) events) ≡ event ∷ events
  all_by None w event events none same = ap (λ (l : List Event). event ∷ l) same
  all_by (Some denial) w event events none same = absurd cc

  pub all_permitted : ((w : W) (event : Event) → judge (core_of w) event ≡ None) → (w : W) (events : List Event) → may w events ≡ events
  all_permitted free w [] = refl
  all_permitted free w (event ∷ events) = all_by (judge (core_of w) event) w event events (free w event) (all_permitted free (one w event) events)
