-- The choices and cases among what stands in one statement (RFC 7950 section 7.9).
use Rattle.std.specs.Prelude.{◌≡◌, ℕ, ◌+◌, ◌<◌, ◌≤◌, ◌^◌, List, [], ◌∷◌, ◌++◌, length, map, fold, Bool, ◌&&◌, nat_le, Option, Some, None, IfSome, All, if◌then◌else◌, slice_get}
use Rattle.nm_schema_nodes.specs.declared.fork.Fork.{Fork}
use Rattle.nm_schema_nodes.specs.declared.fork.Branch.{Branch}

-- choices, each after the case that it is nested in; cases, each after its choice; and for each node, in order, the innermost case that it stands in
pub record Forking : Type 0 where
  pub choices : List Fork
  pub cases : List Branch
  pub spots : List (Option ℕ)

-- these choices, cases and spots of nodes as one
abbrev pub forking : List Fork → List Branch → List (Option ℕ) → Forking
forking choices cases spots = record { choices = choices; cases = cases; spots = spots }

-- no choices, and no nodes
abbrev pub no_forks : Forking
no_forks = forking [] [] []

-- one node, in no case
abbrev pub lone_node : Forking
lone_node = forking [] [] (None ∷ [])

-- ---- one after another

-- a case, behind n others
abbrev pub shifted : ℕ → Option ℕ → Option ℕ
shifted n None = None
shifted n (Some c) = Some (n + c)

-- a choice whose case stands behind n others
unfoldable pub moved_fork : ℕ → Fork → Fork
moved_fork n f = record { row = f.row; case_in = shifted n f.case_in }

-- a case whose choice stands behind n others
unfoldable pub moved_branch : ℕ → Branch → Branch
moved_branch n b = record { choice = n + b.choice; row = b.row }

-- some nodes with their choices, and others behind them
abbrev pub joined : Forking → Forking → Forking
joined one other = forking (one.choices ++ map (moved_fork (length one.cases)) other.choices)
    (one.cases ++ map (moved_branch (length one.choices)) other.cases)
    (one.spots ++ map (shifted (length one.cases)) other.spots)

-- ---- the cases of a choice

-- a case behind case c, and that case where there is none
abbrev pub inner : ℕ → Option ℕ → Option ℕ
inner c None = Some c
inner c (Some d) = Some (c + 1 + d)

-- a choice that stood in no case stands in case c now, and one that stood in a case in that one, behind c
unfoldable pub inner_fork : ℕ → Fork → Fork
inner_fork c f = record { row = f.row; case_in = inner c f.case_in }

-- a case more of choice 0, named by a row, with what stands in it
abbrev pub with_case : Forking → ℕ → Forking → Forking
with_case all row f = forking (all.choices ++ map (inner_fork (length all.cases)) f.choices)
    (all.cases ++ record { choice = 0; row = row } ∷ map (moved_branch (length all.choices)) f.cases)
    (all.spots ++ map (inner (length all.cases)) f.spots)

-- a case for each of these rows, with what stands in it
abbrev pub with_cases : Forking → List ℕ → List Forking → Forking
with_cases all [] fs = all
with_cases all (row ∷ rows) [] = all
with_cases all (row ∷ rows) (f ∷ fs) = with_cases (with_case all row f) rows fs

-- a case more for the first of these rows, if there is one
abbrev pub with_next : Forking → List ℕ → Forking → Forking
with_next all [] f = all
with_next all (row ∷ rows) f = with_case all row f

-- a choice, by its row, without cases
abbrev pub choice_alone : ℕ → Forking
choice_alone row = forking (record { row = row; case_in = None } ∷ []) [] []

-- a choice, by its row, with a case for each row of what stands in it (RFC 7950 section 7.9.2: what stands in a choice without a case is a case of its own)
abbrev pub choice_with : ℕ → List ℕ → List Forking → Forking
choice_with row rows fs = with_cases (choice_alone row) rows fs

-- ---- limits

-- there are no more choices, cases and spots than a limit
unfoldable pub is_within : ℕ → Forking → Bool
is_within limit f = nat_le (length f.choices) limit && nat_le (length f.cases) limit && nat_le (length f.spots) limit

-- no more of anything than a limit
abbrev pub limited : ℕ → Forking → Option Forking
limited limit f = if is_within limit f then Some f else None

-- all of these, one after another
abbrev pub all_joined : List Forking → Forking
all_joined fs = fold joined no_forks fs

-- numbers as they are kept: no sum is 2 ^ 64 or more (this project's own)
abbrev pub IsRoom : ℕ → Option ℕ → Type 0
IsRoom n c = IfSome c (λ d. n + d < 2 ^ 64)

-- each of these cases, and each of these choices' cases, behind n others
abbrev pub SpotsHaveRoom : ℕ → List (Option ℕ) → Type 0
SpotsHaveRoom n spots = All (IsRoom n) spots

-- the cases around these choices, behind n others, have numbers that can be kept
abbrev pub ForksHaveRoom : ℕ → List Fork → Type 0
ForksHaveRoom n forks = All (λ f. IsRoom n f.case_in) forks

-- each of these cases' choices, behind n others
abbrev pub BranchesHaveRoom : ℕ → List Branch → Type 0
BranchesHaveRoom n branches = All (λ b. IsRoom n (Some b.choice)) branches

-- the case that a choice is nested in
abbrev pub case_in_of : Option Fork → Option ℕ
case_in_of None = None
case_in_of (Some f) = f.case_in

-- the number of the choice that a case is of
abbrev pub choice_of : Option Branch → Option ℕ
choice_of None = None
choice_of (Some b) = Some b.choice

-- each choice comes after the cases up to the one that it is nested in, each case after its choice, and each node's case is there
pub record IsWalked (f : Forking) : Type 0 where
  pub within : (k c : ℕ) → case_in_of (slice_get f.choices k) ≡ Some c → c < length f.cases
  pub before : (k c d h : ℕ) → case_in_of (slice_get f.choices k) ≡ Some c → d ≤ c → choice_of (slice_get f.cases d) ≡ Some h → h < k
  pub of_choices : (d h : ℕ) → choice_of (slice_get f.cases d) ≡ Some h → h < length f.choices
  pub of_nodes : All (λ spot. IfSome spot (λ c. c < length f.cases)) f.spots

-- the numbers of others behind these, and behind one case more, are numbers as they are kept
pub record HaveRoom (one other : Forking) : Type 0 where
  pub forks : (n : ℕ) → n ≤ length one.cases + 1 → ForksHaveRoom n other.choices
  pub branches : (n : ℕ) → n ≤ length one.choices → BranchesHaveRoom n other.cases
  pub of_spots : (n : ℕ) → n ≤ length one.cases + 1 → SpotsHaveRoom n other.spots
