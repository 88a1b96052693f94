-- The cases that nodes stand in, and whether they have nodes in a configuration (RFC 7950 section 7.9).
use Rattle.std.specs.Prelude.{◌≡◌, ◌<◌, ℕ, zero, suc, List, [], ◌∷◌, ◌++◌, length, Bool, true, false, not, ◌&&◌, ◌==◌, Option, Some, None, slice_get}
use Rattle.std.specs.List.{list_any, find, range_with_len}
use Rattle.nm_base.specs.Numbers.{is_among}
use Rattle.nm_types.specs.Path.{PathStep, whole}
use Rattle.nm_schema_tree.specs.declared.node.Node.{Node}
use Rattle.nm_schema_tree.specs.Nodes.{SchemaTree, case_at, choice_at, outer_case}
use Rattle.nm_config.specs.Rows.{Rows}
use Rattle.nm_config.specs.Under.{has_under}

-- the step to a node, choosing no entry
abbrev pub bare_in : Option Node → PathStep
bare_in None = record { «module» = []; name = []; chosen = whole }
bare_in (Some n) = record { «module» = n.«module»; name = n.name; chosen = whole }

-- the step to node x that chooses no entry
abbrev pub bare : List Node → ℕ → PathStep
bare nodes x = bare_in (slice_get nodes x)

-- the numbers of all nodes
abbrev pub numbers : List Node → List ℕ
numbers nodes = range_with_len 0 (length nodes)

-- n cases at most, from an innermost one outwards
abbrev pub outwards : SchemaTree → ℕ → Option ℕ → List ℕ
outwards t n None = []
outwards t zero (Some c) = []
outwards t (suc n) (Some c) = c ∷ outwards t n (outer_case t.choices t.cases c)

-- the cases that node x stands in, from the innermost outwards: no case comes twice, so they are at most as many as there are cases
unfoldable pub cases_over : SchemaTree → ℕ → List ℕ
cases_over t x = outwards t (length t.cases) (case_at t.nodes x)

-- node x stands in case c, in it directly or in a case of a choice that is nested in it
abbrev pub is_in_case : SchemaTree → ℕ → ℕ → Bool
is_in_case t c x = is_among c (cases_over t x)

-- it is choice k
abbrev pub is_choice : ℕ → Option ℕ → Bool
is_choice k None = false
is_choice k (Some other) = other == k

-- the case of choice k that node x stands in
unfoldable pub case_of_choice : SchemaTree → ℕ → ℕ → Option ℕ
case_of_choice t k x = find (λ c. is_choice k (choice_at t.cases c)) (cases_over t x)

-- node x, which stands at this place, exists: a row is at or below it
abbrev pub exists_at : SchemaTree → Rows → List PathStep → ℕ → Bool
exists_at t rows above x = has_under rows (above ++ bare t.nodes x ∷ [])

-- a case holds at a place: a node of it exists there (RFC 7950 section 7.9.2)
unfoldable pub case_holds : SchemaTree → Rows → List PathStep → ℕ → Bool
case_holds t rows above c = list_any (λ x. is_in_case t c x && exists_at t rows above x) (numbers t.nodes)

-- what stands in a case, or in none, may be wanted at a place: its case holds there
abbrev pub is_allowed : SchemaTree → Rows → List PathStep → Option ℕ → Bool
is_allowed t rows above None = true
is_allowed t rows above (Some c) = case_holds t rows above c

-- a case has another node than x at a place
unfoldable pub has_other : SchemaTree → Rows → List PathStep → ℕ → ℕ → Bool
has_other t rows above x c = list_any (λ y. not (y == x) && is_in_case t c y && exists_at t rows above y) (numbers t.nodes)

-- the cases that nodes stand in are there
abbrev pub HaveCases : SchemaTree → Type 0
HaveCases t = (x c : ℕ) → case_at t.nodes x ≡ Some c → c < length t.cases
