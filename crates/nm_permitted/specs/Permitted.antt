-- Events that are judged before they happen (this project's own; RFC 8341 sections 3.4.4 and 3.4.5 have a server judge what it is asked before it
-- does it). The code does one event after another; these are lists of those that happen and of those that don't.
use Rattle.std.specs.Prelude.{◌≡◌, ℕ, suc, ◌+◌, List, [], ◌∷◌, ◌++◌, length, true, false, Option, Some, None, is_some, if◌then◌else◌}
use Rattle.nm_proto.specs.Content.{Meaning}
use Rattle.nm_proto.specs.declared.plan.Event.{Event}
use Rattle.nm_world.specs.declared.happened.Denied.{Denied}
use Rattle.nm_world.specs.World.{Setting, CoreState, WorldState, core_of, event_step}
use Rattle.nm_world.specs.Runs.{LeadsTo}
use Rattle.nm_permitted.specs.declared.judge.Denial.{Denial}

-- what is told of an event that has this number: one that is denied is told with the number
abbrev pub numbered : ℕ → Option Denial → List Denied
numbered number None = []
numbered number (Some denial) = record { number = number; by = denial.by; path = denial.path } ∷ []

-- nothing more comes to a world and to what is told of it
pub record IsOver {Config Node : Type 0} (w now : WorldState Config Node) (so_far all : List Denied) : Type 0 where
  pub stays : now ≡ w
  pub none : all ≡ so_far

module _ {Config TheEdit Node : Type 0} (m : Meaning Config TheEdit Node) (setting : Setting TheEdit)
    (judge : CoreState Config Node → Event → Option Denial) where
  -- ---- the events

  -- those that are permitted, each judged in the world that the permitted ones before it lead to
  abbrev pub permitted : WorldState Config Node → List Event → List Event
  permitted w [] = []
  permitted w (event ∷ events) =
      if is_some (judge (core_of w) event) then permitted w events else event ∷ permitted (event_step m setting w event) events

  -- those that are denied, each with its place in what is told: the elementary events that happened count, and those that were denied,
  -- of which there were so many before
  abbrev pub denied : WorldState Config Node → ℕ → List Event → List Denied
  denied w before [] = []
  denied w before (event ∷ events) =
      numbered (suc (length w.trail + before)) (judge (core_of w) event)
      ++ (if is_some (judge (core_of w) event) then denied w (suc before) events else denied (event_step m setting w event) before events)

  -- ---- the world

  -- what an event does that is judged: nothing where it is denied
  abbrev pub judged_step : WorldState Config Node → Event → WorldState Config Node
  judged_step w event = if is_some (judge (core_of w) event) then w else event_step m setting w event

  -- what events do that are judged, one after another
  abbrev pub judged_run : WorldState Config Node → List Event → WorldState Config Node
  judged_run w [] = w
  judged_run w (event ∷ events) = judged_run (judged_step w event) events

  -- ---- whatever crashes read

  -- an event that is judged leads there: a denied one changes nothing, and a permitted one goes on from what is read in it
  pub record JudgedTo (event : Event) (w now : WorldState Config Node) : Type 0 where
    pub stays : is_some (judge (core_of w) event) ≡ true → now ≡ w
    pub leads : is_some (judge (core_of w) event) ≡ false → LeadsTo m setting event w now

  -- events lead there, each judged in the world as it stands then, and these are told behind those so far
  abbrev pub PassesTo : WorldState Config Node → List Denied → List Event → WorldState Config Node → List Denied → Type 0
  PassesTo w so_far [] now all = IsOver w now so_far all
  PassesTo w so_far (event ∷ events) now all =
      (mid : WorldState Config Node) × JudgedTo event w mid
      × PassesTo mid (so_far ++ numbered (suc (length w.trail + length so_far)) (judge (core_of w) event)) events now all
