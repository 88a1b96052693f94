-- For each choice and for each case, the nodes that stand in it (RFC 7950 section 7.9).
use Rattle.std.specs.Prelude.{◌≡◌, ◌<◌, ◌-◌, ◌++◌, ℕ, List, [], ◌∷◌, length, filter, Bool, Option, Some, None, slice_get, if◌then◌else◌, Vec}
use Rattle.std.specs.List.{list_any}
use Rattle.std.specs.declared.alloc.Global.{Global}
use Rattle.nm_schema_tree.specs.Nodes.{SchemaTree, choice_at}
use Rattle.nm_validate_rules.specs.Cases.{numbers, cases_over, is_choice, is_in_case}
use Rattle.nm_validate_rules.specs.Violated.{is_of_choice}
use Rattle.nm_validate_places.specs.declared.tables.By.{By}
use Rattle.nm_validate_places.specs.declared.tables.By.TheVariants as by

-- nodes in groups, by their numbers
abbrev pub Table : Type 0
Table = List (Vec ℕ Global)

-- the nodes of a group; none where there is no such group
abbrev pub items_of : Option (Vec ℕ Global) → List ℕ
items_of None = []
items_of (Some nodes) = nodes.items

-- the nodes of a group, and none where there is no group of this number
abbrev pub nodes_in : Table → ℕ → List ℕ
nodes_in groups k = items_of (slice_get groups k)

-- so many groups without nodes
pub record AreNone (count : ℕ) (groups : Table) : Type 0 where
  pub count_is : length groups ≡ count
  pub none : (k : ℕ) → nodes_in groups k ≡ []

-- node x is the last of some
abbrev pub ends_with : ℕ → List ℕ → Bool
ends_with x nodes = is_choice x (slice_get nodes (length nodes - 1))

-- node x is put behind some, where it isn't the last of them
abbrev pub once : ℕ → List ℕ → List ℕ
once x nodes = if ends_with x nodes then nodes else nodes ++ x ∷ []

-- the same where x belongs here
abbrev pub once_if : Bool → ℕ → List ℕ → List ℕ
once_if here x nodes = if here then once x nodes else nodes

-- node x is put into one group, and the other groups stay
pub record PutsOnce (x : ℕ) (group : Option ℕ) (before after : Table) : Type 0 where
  pub same_count : length after ≡ length before
  pub put : (k : ℕ) → k < length before → nodes_in after k ≡ once_if (is_choice k group) x (nodes_in before k)

-- the number of the group of the nodes in case c: of its choice, or of the case itself
abbrev pub group_of : By → SchemaTree → ℕ → Option ℕ
group_of by.Choice t c = choice_at t.cases c
group_of by.Case t c = Some c

-- group k is that of one of these cases
abbrev pub is_of : By → SchemaTree → ℕ → List ℕ → Bool
is_of way t k cases = list_any (λ c. is_choice k (group_of way t c)) cases

-- node x is put into the groups of these cases, once into each
pub record PutsInto (t : SchemaTree) (way : By) (x : ℕ) (cases : List ℕ) (before after : Table) : Type 0 where
  pub same_count : length after ≡ length before
  pub put : (k : ℕ) → k < length before → nodes_in after k ≡ once_if (is_of way t k cases) x (nodes_in before k)

-- so many groups have the nodes that stand in a case of theirs
pub record AreBy (t : SchemaTree) (way : By) (count : ℕ) (groups : Table) : Type 0 where
  pub count_is : length groups ≡ count
  pub each : (k : ℕ) → k < count → nodes_in groups k ≡ filter (λ x. is_of way t k (cases_over t x)) (numbers t.nodes)

-- each choice has the group of the nodes that stand in it
pub record AreOfChoices (t : SchemaTree) (groups : Table) : Type 0 where
  pub count : length groups ≡ length t.choices
  pub each : (k : ℕ) → k < length t.choices → nodes_in groups k ≡ filter (is_of_choice t k) (numbers t.nodes)

-- each case has the group of the nodes that stand in it
pub record AreOfCases (t : SchemaTree) (groups : Table) : Type 0 where
  pub count : length groups ≡ length t.cases
  pub each : (c : ℕ) → c < length t.cases → nodes_in groups c ≡ filter (is_in_case t c) (numbers t.nodes)
