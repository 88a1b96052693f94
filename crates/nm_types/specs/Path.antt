-- Paths to the nodes of a configuration, and their order.
use Rattle.std.specs.Prelude.{ℕ, List, [], ◌∷◌, ◌++◌, map}
use Rattle.std.specs.Ordering.{on, then_cmp, nat_cmp}
use Rattle.std.specs.Cmp.Lexicographic.{slice_cmp}
use Rattle.std.specs.declared.cmp.Ordering.{Ordering}
use Rattle.nm_types.specs.declared.value.Value.{Value}
use Rattle.nm_types.specs.Value.{value_cmp}

-- which entry of a list or a leaf-list a step chooses: none, the one with these keys, or the one with this value (RFC 7950 section 6.4)
pub data Choice : Type 0 where
  whole : Choice
  keys : List Value → Choice
  entry : Value → Choice

-- a step of a path: the module that defines the node, its name, and what it chooses
pub record PathStep : Type 0 where
  pub «module» : List ℕ
  pub name : List ℕ
  pub chosen : Choice

-- a bare list stands before its entries (this project's own)
abbrev pub choice_rank : Choice → ℕ
choice_rank whole = 0
choice_rank (keys vs) = 1
choice_rank (entry v) = 2

-- the key values, in the order of the list's keys, or the one value of a leaf-list entry
abbrev pub choice_values : Choice → List Value
choice_values whole = []
choice_values (keys vs) = vs
choice_values (entry v) = v ∷ []

-- what is chosen is ordered by the key values in the order of the keys, a bare list before its entries (this project's own)
abbrev pub choice_cmp : Choice → Choice → Ordering
choice_cmp = then_cmp (on choice_rank nat_cmp) (on choice_values (slice_cmp value_cmp))

-- a step with its name as it is printed
pub record PrintedStep : Type 0 where
  pub printed : List ℕ
  pub «module» : List ℕ
  pub chosen : Choice

-- a step at the top is printed as `module:name` (RFC 7951 section 4)
abbrev pub at_top : PathStep → PrintedStep
at_top s = record { printed = s.module ++ 58 ∷ s.name; «module» = s.module; chosen = s.chosen }

-- a step below the top is printed as `name` (RFC 7951 section 4)
abbrev pub below_top : PathStep → PrintedStep
below_top s = record { printed = s.name; «module» = s.module; chosen = s.chosen }

-- the steps of a path as they are printed
abbrev pub printed_steps : List PathStep → List PrintedStep
printed_steps [] = []
printed_steps (s ∷ ss) = at_top s ∷ map below_top ss

-- steps are ordered by the bytes of the printed name, then by what they choose; one name of two modules, by the module (this project's own)
unfoldable pub printed_cmp : PrintedStep → PrintedStep → Ordering
printed_cmp = then_cmp (on (λ s. s.printed) (slice_cmp nat_cmp)) (then_cmp (on (λ s. s.module) (slice_cmp nat_cmp)) (on (λ s. s.chosen) choice_cmp))

-- the order of the steps below the top
abbrev pub step_cmp : PathStep → PathStep → Ordering
step_cmp = on below_top printed_cmp

-- paths are ordered step by step, and a node stands before what is below it (this project's own)
unfoldable pub path_cmp : List PathStep → List PathStep → Ordering
path_cmp = on printed_steps (slice_cmp printed_cmp)
