-- The ways in which faults are put into a run (this project's own). A way is a list of faults with their places, in the order in
-- which they come: at place p, after p events. Of places that are numbered from 0 on `last` is how many there are.
use Rattle.std.specs.Prelude.{ℕ, zero, suc, ◌+◌, ◌-◌, ◌==◌, ◌&&◌, nat_le, nat_lt, Bool, true, false, List, [], ◌∷◌, ◌++◌, cond}
use Rattle.nm_explore_ways.specs.declared.put.Put.{Put}

-- ---- the list

-- a fault before each of these ways
abbrev pub before_each : Put → List (List Put) → List (List Put)
before_each one [] = []
before_each one (rest ∷ others) = (one ∷ rest) ∷ before_each one others

-- each of so many faults, from a number on, at one place, before each of these ways
abbrev pub each_fault : ℕ → ℕ → ℕ → List (List Put) → List (List Put)
each_fault place fault zero others = []
each_fault place fault (suc count) others = before_each (record { place = place; fault = fault }) others ++ each_fault place (fault + 1) count others

-- each fault at each of so many places, from one on, before the ways that may come from there
abbrev pub each_place : ℕ → (ℕ → List (List Put)) → ℕ → ℕ → List (List Put)
each_place faults others place zero = []
each_place faults others place (suc places) = each_fault place 0 faults (others place) ++ each_place faults others (place + 1) places

-- the ways with so many faults, of which the first stands at this place or later. Each other one stands where the one before it does, or
-- later
abbrev pub ways : ℕ → ℕ → ℕ → ℕ → List (List Put)
ways last faults zero place = [] ∷ []
ways last faults (suc many) place = each_place faults (ways last faults many) place (last - place)

-- the ways with up to so many faults, fewer first
abbrev pub ways_up_to : ℕ → ℕ → ℕ → List (List Put)
ways_up_to last faults zero = ways last faults zero 0
ways_up_to last faults (suc many) = ways_up_to last faults many ++ ways last faults (suc many) 0

-- ---- what is in it

-- two faults with their places are one
abbrev pub same_put : Put → Put → Bool
same_put one other = (one.place == other.place) && (one.fault == other.fault)

-- two ways are one
abbrev pub same_way : List Put → List Put → Bool
same_way [] [] = true
same_way [] (other ∷ others) = false
same_way (one ∷ rest) [] = false
same_way (one ∷ rest) (other ∷ others) = same_put one other && same_way rest others

-- how often a way is in a list
abbrev pub times_in : List Put → List (List Put) → ℕ
times_in way [] = 0
times_in way (other ∷ others) = cond (same_way way other) 1 0 + times_in way others

-- a list is a way with so many faults: there are as many, no place is before the one in front of it, and each place and fault is one of those
-- that there are
abbrev pub is_way : ℕ → ℕ → ℕ → ℕ → List Put → Bool
is_way last faults zero place [] = true
is_way last faults zero place (one ∷ rest) = false
is_way last faults (suc many) place [] = false
is_way last faults (suc many) place (one ∷ rest) =
    nat_le place one.place && (nat_lt one.place last && (nat_lt one.fault faults && is_way last faults many one.place rest))

-- the binomial, by Pascal's rule
abbrev pub choose : ℕ → ℕ → ℕ
choose n zero = 1
choose zero (suc k) = 0
choose (suc n) (suc k) = choose n k + choose n (suc k)
