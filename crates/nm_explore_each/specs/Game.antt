-- Runs that go ways, and what they come to, counted (this project's own).
use Rattle.std.specs.Prelude.{◌≡◌, ◌≤◌, ◌<◌, ℕ, ◌+◌, Bool, true, List, length, map, Option, Some, None, IfSome}
use Rattle.nm_explore_ways.specs.declared.put.Put.{Put}
use Rattle.nm_explore_ways.specs.Ways.{before_each, is_way, ways_up_to}
use Rattle.nm_explore_groups.specs.declared.group.Group.{Group}
use Rattle.nm_explore_groups.specs.Groups.{grouped, merged, one_run, runs_in}

-- runs into which faults are put: how many places and faults there are, and what the run that goes a way comes to
pub record Game (End : Type 0) : Type 0 where
  pub places : ℕ
  pub faults : ℕ
  pub comes_to : List Put → End

module _ {End : Type 0} where
  -- a run goes this way: with at most two faults
  pub record Goes (game : Game End) (way : List Put) : Type 0 where
    pub is : is_way game.places game.faults (length way) 0 way ≡ true
    pub short : length way ≤ 2

  -- there are so many places and faults
  pub record IsSized (game : Game End) (places faults : ℕ) : Type 0 where
    pub has_places : places ≡ game.places
    pub has_faults : faults ≡ game.faults

  -- a fault is in front of those from a place on, or none is
  abbrev pub IsFront : Game End → Option Put → ℕ → Type 0
  IsFront game front place = IfSome front (λ first. (first.place ≤ place) × (first.fault < game.faults))

  -- the run that goes a way
  abbrev pub run_on : Game End → List Put → Group End
  run_on game way = one_run (game.comes_to way) way

-- ways with a fault in front of each, or with none
abbrev pub behind : Option Put → List (List Put) → List (List Put)
behind None ways = ways
behind (Some first) ways = before_each first ways

module _ {End : Type 0} (alike : End → End → Bool) (game : Game End) where
  -- the runs that go these ways came to groups, one after the other
  pub record IsCounted (before after : List (Group End)) (ways : List (List Put)) : Type 0 where
    pub groups : after ≡ merged alike before (map (run_on game) ways)
    pub runs : runs_in after ≡ runs_in before + length ways

  -- what all runs come to, with up to so many faults at once
  abbrev pub explored : ℕ → List (Group End)
  explored most = grouped alike (map (run_on game) (ways_up_to game.places game.faults most))
