-- Runs that end alike, counted together (this project's own). A run is a group of one. Groups are in the order in which their ends are
-- first met. Which ends are alike is told by a test, which is to be an equivalence.
use Rattle.std.specs.Prelude.{ℕ, zero, suc, ◌+◌, Bool, true, false, ◌&&◌, ◌||◌, not, List, [], ◌∷◌, Option, Some, None, fold, if◌then◌else◌}
use Rattle.std.specs.List.{sum_by}
use Rattle.nm_explore_ways.specs.declared.put.Put.{Put}
use Rattle.nm_explore_groups.specs.declared.group.Group.{Group}

module _ {End : Type 0} where
  -- one run, which went this way to its end
  abbrev pub one_run : End → List Put → Group End
  one_run end way = record { end = end; runs = 1; first = way }

  -- a group with the runs of another one of its end, which come later
  abbrev pub joined : Group End → Group End → Group End
  joined group more = record group { runs = group.runs + more.runs }

  -- a group with one run more
  abbrev pub with_one : Group End → Group End
  with_one group = record group { runs = group.runs + 1 }

  -- one more run in the group at a place
  abbrev pub one_more : ℕ → List (Group End) → List (Group End)
  one_more place [] = []
  one_more zero (group ∷ groups) = with_one group ∷ groups
  one_more (suc place) (group ∷ groups) = group ∷ one_more place groups

  -- how many runs there are in groups
  abbrev pub runs_in : List (Group End) → ℕ
  runs_in groups = sum_by (λ group. group.runs) groups

module _ {End : Type 0} (alike : End → End → Bool) where
  -- a group is that of an end
  abbrev pub is_of : End → Group End → Bool
  is_of end group = alike group.end end

  -- groups with one more, which joins that of its end where there is one, and comes last where there is none
  abbrev pub added : List (Group End) → Group End → List (Group End)
  added [] more = more ∷ []
  added (group ∷ groups) more = if is_of more.end group then joined group more ∷ groups else group ∷ added groups more

  -- groups with others, one after the other
  abbrev pub merged : List (Group End) → List (Group End) → List (Group End)
  merged groups others = fold added groups others

  -- runs in groups
  abbrev pub grouped : List (Group End) → List (Group End)
  grouped runs = merged [] runs

  -- ---- what is in groups

  -- one of them is of this end
  abbrev pub has : End → List (Group End) → Bool
  has end [] = false
  has end (group ∷ groups) = is_of end group || has end groups

  -- no two of them are of one end
  abbrev pub is_each_once : List (Group End) → Bool
  is_each_once [] = true
  is_each_once (group ∷ groups) = not (has group.end groups) && is_each_once groups

  -- how many runs of an end there are in them
  abbrev pub runs_of : End → List (Group End) → ℕ
  runs_of end groups = sum_by (λ group. if is_of end group then group.runs else 0) groups

  -- the way of the first of them that is of an end
  abbrev pub first_of : End → List (Group End) → Option (List Put)
  first_of end [] = None
  first_of end (group ∷ groups) = if is_of end group then Some group.first else first_of end groups
