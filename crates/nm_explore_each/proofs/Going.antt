-- Ways, one fault or place after the other.
use Rattle.std.proofs.Common.{◌≡◌, ◌≤◌, ◌<◌, ℕ, suc, ◌+◌, ◌-◌, List, [], ◌∷◌, ◌++◌, length, true, ◌&&◌, Option, Some, None, refl, ap, ◌∙◌, arith}
use Rattle.std.specs.Prelude.{nat_le, nat_lt}
use Rattle.std.proofs.lemmas.Bool.Decides.{nat_tests}
use Rattle.nm_explore_ways.specs.declared.put.Put.{Put}
use Rattle.nm_explore_ways.specs.Ways.{before_each, each_fault, each_place}
use Rattle.nm_explore_each.specs.Game.{Game, Goes, IsFront, behind}

before_append : (one : Put) (xs ys : List (List Put)) → before_each one (xs ++ ys) ≡ before_each one xs ++ before_each one ys
before_append one [] ys = refl
before_append one (x ∷ xs) ys = ap (λ rest. (one ∷ x) ∷ rest) (before_append one xs ys)

behind_append : (front : Option Put) (xs ys : List (List Put)) → behind front (xs ++ ys) ≡ behind front xs ++ behind front ys
behind_append None xs ys = refl
behind_append (Some first) xs ys = before_append first xs ys

one_less : (n count : ℕ) → n < count → count - n ≡ suc (count - (n + 1))
one_less n count lt = omega (arith, lt)

pub none_less : (n : ℕ) → n - 0 ≡ n
none_less n = omega arith

over : (n count : ℕ) → count ≤ n → count - n ≡ 0
over n count le = omega (arith, le)

-- a fault more
pub next_fault : (place fault faults : ℕ) (others : List (List Put)) → fault < faults
    → each_fault place fault (faults - fault) others ≡ before_each (record { place = place; fault = fault }) others ++ each_fault place (fault + 1) (faults - (fault + 1)) others
next_fault place fault faults others lt = ap (λ n. each_fault place fault n others) (one_less fault faults lt)

-- none is left
pub no_fault : (place fault faults : ℕ) (others : List (List Put)) → faults ≤ fault → each_fault place fault (faults - fault) others ≡ []
no_fault place fault faults others le = ap (λ n. each_fault place fault n others) (over fault faults le)

-- the same with a fault in front, or none
pub next_fault_behind : (front : Option Put) (place fault faults : ℕ) → fault < faults → behind front (each_fault place fault (faults - fault) ([] ∷ []))
    ≡ behind front ((record { place = place; fault = fault } ∷ []) ∷ []) ++ behind front (each_fault place (fault + 1) (faults - (fault + 1)) ([] ∷ []))
next_fault_behind front place fault faults lt =
    ap (behind front) (next_fault place fault faults ([] ∷ []) lt)
    ∙ behind_append front ((record { place = place; fault = fault } ∷ []) ∷ []) (each_fault place (fault + 1) (faults - (fault + 1)) ([] ∷ []))

pub no_fault_behind : (front : Option Put) (place fault faults : ℕ) → faults ≤ fault → behind front (each_fault place fault (faults - fault) ([] ∷ [])) ≡ []
no_fault_behind front place fault faults le = ap (behind front) (no_fault place fault faults ([] ∷ []) le) ∙ none front
  where
    none : (o : Option Put) → behind o [] ≡ []
    none None = refl
    none (Some first) = refl

-- behind a fault, or none, there is one way with one more
pub alone_length : (front : Option Put) (one : Put) → length (behind front ((one ∷ []) ∷ [])) ≡ 1
alone_length None one = refl
alone_length (Some first) one = refl

-- a place more
pub next_place : (faults : ℕ) (others : ℕ → List (List Put)) (place places : ℕ) → place < places
    → each_place faults others place (places - place) ≡ each_fault place 0 faults (others place) ++ each_place faults others (place + 1) (places - (place + 1))
next_place faults others place places lt = ap (λ n. each_place faults others place n) (one_less place places lt)

pub no_place : (faults : ℕ) (others : ℕ → List (List Put)) (place places : ℕ) → places ≤ place → each_place faults others place (places - place) ≡ []
no_place faults others place places le = ap (λ n. each_place faults others place n) (over place places le)

pub next_place_behind : (front : Option Put) (faults : ℕ) (others : ℕ → List (List Put)) (place places : ℕ) → place < places
    → behind front (each_place faults others place (places - place))
    ≡ behind front (each_fault place 0 faults (others place)) ++ behind front (each_place faults others (place + 1) (places - (place + 1)))
next_place_behind front faults others place places lt =
    ap (behind front) (next_place faults others place places lt)
    ∙ behind_append front (each_fault place 0 faults (others place)) (each_place faults others (place + 1) (places - (place + 1)))

pub no_place_behind : (front : Option Put) (faults : ℕ) (others : ℕ → List (List Put)) (place places : ℕ) → places ≤ place
    → behind front (each_place faults others place (places - place)) ≡ []
no_place_behind front faults others place places le = ap (behind front) (no_place faults others place places le) ∙ none front
  where
    none : (o : Option Put) → behind o [] ≡ []
    none None = refl
    none (Some first) = refl

-- ---- ways of one fault, and of two

is_one : (p f places faults : ℕ) → p < places → f < faults → (nat_le 0 p && (nat_lt p places && (nat_lt f faults && true))) ≡ true
is_one p f places faults lt below = grind (arith, nat_tests)

is_two : (p f q g places faults : ℕ) → p ≤ q → q < places → f < faults → g < faults
    → (nat_le 0 p && (nat_lt p places && (nat_lt f faults && (nat_le p q && (nat_lt q places && (nat_lt g faults && true)))))) ≡ true
is_two p f q g places faults le lt below other = grind (arith, nat_tests)

module _ {End : Type 0} (game : Game End) where
  pub goes_alone : (one : Put) → one.place < game.places → one.fault < game.faults → Goes game (one ∷ [])
  goes_alone one place fault = record { is = is_one one.place one.fault game.places game.faults place fault; short = omega arith }

  pub goes_behind : (first one : Put) → IsFront game (Some first) one.place → one.place < game.places → one.fault < game.faults → Goes game (first ∷ one ∷ [])
  goes_behind first one front place fault = record {
    is = is_two first.place first.fault one.place one.fault game.places game.faults front.0 place front.1 fault;
    short = omega arith;
  }

  -- what is in front of a place is in front of a later one
  pub front_later : (front : Option Put) (place later : ℕ) → place ≤ later → IsFront game front place → IsFront game front later
  front_later None place later le f = f
  front_later (Some first) place later le f = (omega (arith, f.0, le), f.1)
