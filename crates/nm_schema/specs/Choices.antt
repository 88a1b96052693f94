-- The choices of a schema tree and their cases, and the case of each node (RFC 7950 sections 7.9, 7.13 and 7.21.1).
use Rattle.std.specs.Prelude.{◌≡◌, ℕ, ◌+◌, ◌<◌, ◌≤◌, List, [], ◌∷◌, ◌++◌, length, map, take, ◌==◌, Option, Some, None, All, nat_lt, if◌then◌else◌, unwrap_or, slice_set, get_or, slice_get, slice_index_or}
use Rattle.std.specs.List.{position_from, range_with_len}
use Rattle.nm_schema_statements.specs.declared.row.Row.{Row}
use Rattle.nm_schema_statements.specs.declared.word.Word.TheVariants as word
use Rattle.nm_schema_statements.specs.Rows.{roots}
use Rattle.nm_schema_uses.specs.Arguments.{argument_at}
use Rattle.nm_schema_uses.specs.Sizes.{total_of}
use Rattle.nm_schema_tree.specs.declared.choice.ChoiceNode.{ChoiceNode}
use Rattle.nm_schema_tree.specs.declared.choice.CaseNode.{CaseNode}
use Rattle.nm_schema_tree.specs.Nodes.{SchemaTree}
use Rattle.nm_schema_typing.specs.Restricting.{argument_below}
use Rattle.nm_schema_nodes.specs.declared.instance.Instance.{Instance}
use Rattle.nm_schema_nodes.specs.Expansion.{children, tops}
use Rattle.nm_schema_nodes.specs.declared.fork.Fork.{Fork}
use Rattle.nm_schema_nodes.specs.declared.fork.Branch.{Branch}
use Rattle.nm_schema_nodes.specs.Forks.{Forking, no_forks, shifted, IsRoom}
use Rattle.nm_schema_nodes.specs.Choices.{forks_of}
use Rattle.nm_schema_faults.specs.Facts.{Facts, definitions}
use Rattle.nm_schema_faults.specs.Grounded.{Grounded}
use Rattle.nm_schema.specs.Kind.{says_true}

-- the names of the given modules, in order
unfoldable pub module_names : List Row → List (List ℕ)
module_names rows = map (argument_at rows) (roots rows)

-- the name of module m
abbrev pub module_name : List Row → ℕ → List ℕ
module_name rows m = get_or (module_names rows) m []

-- ---- what choices stand in: the tops of the modules first, in order, and then the nodes by number (this project's own)

-- a place in which nodes stand: in which node, of which module's tree, with which row
pub record Place : Type 0 where
  pub parent : Option ℕ
  pub owner : ℕ
  pub row : ℕ

-- the top of module m
unfoldable pub top_place : List Row → ℕ → Place
top_place rows m = record { parent = None; owner = m; row = get_or (roots rows) m 0 }

-- the place within node x
abbrev pub place_in : ℕ → Option Instance → Place
place_in x None = record { parent = Some x; owner = 0; row = 0 }
place_in x (Some node) = record { parent = Some x; owner = node.owner; row = node.row }

-- the place within node x, by its instance
unfoldable pub node_place : Facts → ℕ → Place
node_place facts x = place_in x (slice_get facts.nodes x)

-- a place by its three parts
abbrev pub place_for : Option ℕ → ℕ → ℕ → Place
place_for parent owner row = record { parent = parent; owner = owner; row = row }

-- the places of a tree, in order
unfoldable pub places : List Row → Facts → List Place
places rows facts = map (top_place rows) (range_with_len 0 (length (roots rows))) ++ map (node_place facts) (range_with_len 0 (length facts.nodes))

-- the choices and cases that stand in a row, and none where they aren't known
unfoldable pub forks_in : List Row → ℕ → Forking
forks_in rows i = unwrap_or (forks_of rows (definitions rows) i) no_forks

-- ---- the tables

-- how many choices stand in a place
unfoldable pub choice_count : List Row → Place → ℕ
choice_count rows p = length (forks_in rows p.row).choices

-- how many cases stand in a place
unfoldable pub case_count : List Row → Place → ℕ
case_count rows p = length (forks_in rows p.row).cases

-- how many cases there are in the first n places
unfoldable pub cases_before : List Row → Facts → ℕ → ℕ
cases_before rows facts n = total_of (map (case_count rows) (take n (places rows facts)))

-- a choice of a place, behind so many cases (RFC 7950 section 7.9)
unfoldable pub choice_node : List Row → Place → ℕ → Fork → ChoiceNode
choice_node rows p cases f =
    record {
      parent = p.parent;
      case_in = shifted cases f.case_in;
      «module» = module_name rows p.owner;
      name = argument_at rows f.row;
      mandatory = says_true (argument_below rows f.row word.Mandatory);
    }

-- a case of a choice behind so many choices (RFC 7950 section 7.9.2)
unfoldable pub case_node : List Row → ℕ → Branch → CaseNode
case_node rows choices b = record { choice = choices + b.choice; name = argument_at rows b.row }

-- the choices of a place, behind so many cases
abbrev pub choices_in : List Row → ℕ → Place → List ChoiceNode
choices_in rows cases p = map (choice_node rows p cases) (forks_in rows p.row).choices

-- the cases of a place, behind so many choices
abbrev pub cases_in : List Row → ℕ → Place → List CaseNode
cases_in rows choices p = map (case_node rows choices) (forks_in rows p.row).cases

-- the choices of some places, behind so many cases
unfoldable pub choices_from : List Row → ℕ → List Place → List ChoiceNode
choices_from rows cases [] = []
choices_from rows cases (p ∷ ps) = choices_in rows cases p ++ choices_from rows (cases + case_count rows p) ps

-- the cases of some places, behind so many choices
unfoldable pub cases_from : List Row → ℕ → List Place → List CaseNode
cases_from rows choices [] = []
cases_from rows choices (p ∷ ps) = cases_in rows choices p ++ cases_from rows (choices + choice_count rows p) ps

-- the choices of a tree: place by place, in the order in which they stand there, each after the case that it is nested in
abbrev pub tree_choices : List Row → Facts → List ChoiceNode
tree_choices rows facts = choices_from rows 0 (places rows facts)

-- their cases, in the same order
abbrev pub tree_cases : List Row → Facts → List CaseNode
tree_cases rows facts = cases_from rows 0 (places rows facts)

-- ---- nodes

-- the number of the place that a node stands in
abbrev pub place_of : List Row → Instance → Option ℕ → ℕ
place_of rows node None = node.owner
place_of rows node (Some p) = length (roots rows) + p

-- the nodes that stand in one place with a node
abbrev pub beside : Facts → Instance → Option ℕ → List ℕ
beside facts node None = tops facts.nodes node.owner
beside facts node (Some p) = children facts.nodes p

-- the case of the node that is k-th in its place
abbrev pub spot_at : List (Option ℕ) → Option ℕ → Option ℕ
spot_at spots None = None
spot_at spots (Some k) = slice_index_or spots k None

-- for each node of a place the innermost case that it stands in
abbrev pub spots_in : List Row → Option Place → List (Option ℕ)
spots_in rows None = []
spots_in rows (Some p) = (forks_in rows p.row).spots

-- for each node of place n the innermost case that it stands in
unfoldable pub spots_at : List Row → Facts → ℕ → List (Option ℕ)
spots_at rows facts n = spots_in rows (slice_get (places rows facts) n)

-- the innermost case that node x stands in, among the choices of its place (RFC 7950 section 7.9.2)
unfoldable pub case_of : List Row → Facts → ℕ → Instance → Option ℕ
case_of rows facts x node =
    shifted (cases_before rows facts (place_of rows node node.parent))
    (spot_at (spots_at rows facts (place_of rows node node.parent)) (position_from (λ y. y == x) 0 (beside facts node node.parent)))

-- the innermost case of a node, where there is such a node
abbrev pub case_of_node : List Row → Facts → ℕ → Option Instance → Option ℕ
case_of_node rows facts x None = None
case_of_node rows facts x (Some node) = case_of rows facts x node

-- what is known of the choices of the first n places: they, their cases, and the case of each node there
pub record AreChosen (rows : List Row) (facts : Facts) (n : ℕ) (choices : List ChoiceNode) (cases : List CaseNode) (case_in : List (Option ℕ)) : Type 0 where
  pub size : length case_in ≡ length facts.nodes
  pub choices_are : choices ≡ choices_from rows 0 (take n (places rows facts))
  pub cases_are : cases ≡ cases_from rows 0 (take n (places rows facts))
  pub done : (x : ℕ) (node : Instance) → slice_get facts.nodes x ≡ Some node → place_of rows node node.parent < n
      → slice_index_or case_in x None ≡ case_of rows facts x node
  pub rest : (x : ℕ) (node : Instance) → slice_get facts.nodes x ≡ Some node → n ≤ place_of rows node node.parent → slice_index_or case_in x None ≡ None

-- the case of each node
abbrev pub AreCases : List Row → Facts → List (Option ℕ) → Type 0
AreCases rows facts cases = (x : ℕ) → slice_index_or cases x None ≡ case_of_node rows facts x (slice_get facts.nodes x)

-- ---- how the tables grow (this project's own)

-- a tree with some cases more
abbrev pub with_cases : SchemaTree → List CaseNode → SchemaTree
with_cases t cases = record { modules = t.modules; nodes = t.nodes; choices = t.choices; cases = t.cases ++ cases }

-- a tree with the choices and cases of a place more
abbrev pub with_place : List Row → Place → Forking → SchemaTree → SchemaTree
with_place rows p f t =
    record {
      modules = t.modules;
      nodes = t.nodes;
      choices = t.choices ++ map (choice_node rows p (length t.cases)) f.choices;
      cases = t.cases ++ map (case_node rows (length t.choices)) f.cases;
    }

-- how many cases come before a choice, of which so many are there already
abbrev pub until : ℕ → Option ℕ → ℕ
until done None = done
until done (Some c) = if nat_lt c done then done else c + 1

-- the same of a choice
abbrev pub cases_until : ℕ → Fork → ℕ
cases_until done f = until done f.case_in

-- cases are of choices that are there, behind so many
abbrev pub AreOfChoices : ℕ → ℕ → List Branch → Type 0
AreOfChoices choices count branches = All (λ b. choices + b.choice < count) branches

-- numbers as they are kept
abbrev pub AreRoom : ℕ → List (Option ℕ) → Type 0
AreRoom n spots = All (IsRoom n) spots

-- the cases of nodes once some of them get theirs, behind so many others
abbrev pub with_spots : List (Option ℕ) → List ℕ → List (Option ℕ) → ℕ → List (Option ℕ)
with_spots case_in [] spots n = case_in
with_spots case_in (x ∷ xs) [] n = case_in
with_spots case_in (x ∷ xs) (c ∷ cs) n = with_spots (slice_set case_in x (shifted n c)) xs cs n

-- a tree with the choices of a place and their cases more
abbrev pub with_forks : List Row → Place → SchemaTree → SchemaTree
with_forks rows p t = with_place rows p (forks_in rows p.row) t

-- the cases of nodes once those that stand in a row get theirs, behind those of a tree
abbrev pub cased : List Row → ℕ → SchemaTree → List ℕ → List (Option ℕ) → List (Option ℕ)
cased rows i t nodes case_in = with_spots case_in nodes (forks_in rows i).spots (length t.cases)

-- the choices of the first n places are put into a tree
abbrev pub HasChosen : Grounded → ℕ → SchemaTree → List (Option ℕ) → Type 0
HasChosen g n t case_in = AreChosen g.rows g.facts n t.choices t.cases case_in

-- how many places there are at the tops of the modules, and in all
abbrev pub top_count : Grounded → ℕ
top_count g = length (roots g.rows)

-- how many places there are: the tops of the modules, and the inside of each node
abbrev pub place_count : Grounded → ℕ
place_count g = length (roots g.rows) + length g.facts.nodes
