-- What reading a path text gives: functions of the text.
use Rattle.std.specs.Prelude.{◌≡◌, ℕ, zero, suc, List, [], ◌∷◌, ◌++◌, take, drop, length, codes, Bool, true, false, not, ◌==◌, Option, Some, None, Result, Ok, Err, if◌then◌else◌, slice_get, ⊤}
use Rattle.std.specs.List.{position_or_len, before_first, after_first}
use Rattle.std.specs.Result.{result_ok}
use Rattle.nm_types.specs.declared.value.Value.{Value}
use Rattle.nm_types.specs.LeafType.{TypeOfLeaf}
use Rattle.nm_types.specs.Reading.{reading}
use Rattle.nm_types.specs.Path.{Choice, whole, keys, entry, PathStep}
use Rattle.nm_schema_tree.specs.declared.node.Node.{Node}
use Rattle.nm_schema_tree.specs.declared.node.NodeKind.{NodeKind}
use Rattle.nm_schema_tree.specs.declared.node.NodeKind.TheVariants as kind
use Rattle.nm_schema_tree.specs.Nodes.{SchemaTree, type_at}
use Rattle.nm_path.specs.declared.fault.PathFault.{PathFault}
use Rattle.nm_path.specs.declared.fault.PathFault.TheVariants.{Unknown, BadText, NoMemory}
use Rattle.nm_path.specs.declared.place.Place.{Place}
use Rattle.nm_path.specs.declared.place.Place.TheVariants.{Top, Within}
use Rattle.nm_path.specs.declared.form.Quote.{Quote}
use Rattle.nm_path.specs.declared.form.Quote.TheVariants.{Single, Double}
use Rattle.nm_path.specs.declared.form.Predicate.{Predicate}
use Rattle.nm_path.specs.Form.{WrittenStep, is_name, is_identifier, has_double, is_from_top}
use Rattle.nm_path.specs.Spelling.{found, predicate_of, name_at, are_named}

-- one reader after another
infixl 10 ◌>>=◌
abbrev pub ◌>>=◌ : {A B : Type 0} → Option A → (A → Option B) → Option B
None >>= f = None
(Some x) >>= f = f x

-- an answer is what reading gives, seen by view; where it gives nothing the text is bad; unless memory ran out
abbrev pub Fails : {Y : Type 0} → PathFault → Option Y → Type 0
Fails Unknown read = ⊥
Fails BadText read = read ≡ None
Fails NoMemory read = ⊤

-- an answer is the value that reading gives, seen by view, or it fails as reading does
abbrev pub Gives : {X Y : Type 0} → (X → Y) → Result X PathFault → Option Y → Type 0
Gives view (Ok x) read = read ≡ Some (view x)
Gives view (Err e) read = Fails e read

-- ---- the form

-- whether a byte stands first
abbrev pub begins : List ℕ → ℕ → Bool
begins [] k = false
begins (b ∷ text) k = b == k

-- what stands after a byte that stands first
unfoldable pub after : List ℕ → ℕ → Option (List ℕ)
after [] k = None
after (b ∷ text) k = if b == k then Some text else None

-- a byte that ends an identifier
abbrev pub is_end : ℕ → Bool
is_end b = not (is_name b)

-- how many bytes stand first that a name may have
unfoldable pub name_len : List ℕ → ℕ
name_len text = position_or_len is_end text

-- an identifier as long as can be, and what stands after it
unfoldable pub identifier_at : List ℕ → Option (List ℕ × List ℕ)
identifier_at text = if is_identifier (take (name_len text) text) then Some (take (name_len text) text, drop (name_len text) text) else None

-- what was read, with these in front
abbrev pub with_front : {X : Type 0} → List X → Option (List X × List ℕ) → Option (List X × List ℕ)
with_front front read = read >>= λ x. Some (front ++ x.0, x.1)

-- items that were read, behind those before them
abbrev pub all_with_front : {X : Type 0} → List X → Option (List X) → Option (List X)
all_with_front front read = read >>= λ x. Some (front ++ x)

-- the value up to a single quote that isn't doubled, and what stands after it; a single quote may stand before
unfoldable pub single_at : Bool → List ℕ → Option (List ℕ × List ℕ)
single_at false [] = None
single_at true [] = Some ([], [])
single_at false (b ∷ text) = if b == 39 then single_at true text else with_front (b ∷ []) (single_at false text)
single_at true (b ∷ text) = if b == 39 then with_front (39 ∷ []) (single_at false text) else Some ([], b ∷ text)

-- the byte `"`
abbrev pub is_double : ℕ → Bool
is_double b = b == 34

-- the value up to a double quote, and what stands after it
unfoldable pub double_at : List ℕ → Option (List ℕ × List ℕ)
double_at text = if has_double text then Some (before_first is_double text, after_first is_double text) else None

-- a value behind the single quote that stands first, or behind the double quote; nothing where neither stands there
abbrev pub quoted_by : Option (List ℕ) → Option (List ℕ) → Option (Quote × List ℕ × List ℕ)
quoted_by (Some text) other = single_at false text >>= λ x. Some (Single, x.0, x.1)
quoted_by None (Some text) = double_at text >>= λ x. Some (Double, x.0, x.1)
quoted_by None None = None

-- a value in its quotes, and what stands after it
unfoldable pub quoted_at : List ℕ → Option (Quote × List ℕ × List ℕ)
quoted_at text = quoted_by (after text 39) (after text 34)

-- what a predicate names: the entry itself where `.` stands first, else a key
abbrev pub key_by : Option (List ℕ) → Option (List ℕ × List ℕ) → Option (List ℕ × List ℕ)
key_by (Some text) name = Some (codes ".", text)
key_by None name = name

-- `.` or an identifier, and what stands after it
unfoldable pub key_at : List ℕ → Option (List ℕ × List ℕ)
key_at text = key_by (after text 46) (identifier_at text)

-- a predicate, and what stands after it
unfoldable pub predicate_at : List ℕ → Option (Predicate × List ℕ)
predicate_at text = do
  inside ← after text 91
  key ← key_at inside
  start ← after key.1 61
  value ← quoted_at start
  rest ← after value.2 93
  Some (record { key = key.0; quote = value.0; value = value.1 }, rest)

-- predicates, at most so many, and what stands after them
unfoldable pub predicates_at : ℕ → List ℕ → Option (List Predicate × List ℕ)
predicates_at zero text = Some ([], text)
predicates_at (suc n) text = if begins text 91 then (predicate_at text >>= λ p. with_front (p.0 ∷ []) (predicates_at n p.1)) else Some ([], text)

-- the rest of a step after its name
unfoldable pub named_at : Option (List ℕ) → List ℕ → List ℕ → Option (WrittenStep × List ℕ)
named_at owner name text = predicates_at (length text) text >>= λ ps. Some (record { owner = owner; name = name; predicates = ps.0 }, ps.1)

-- the rest of a step whose module is read
abbrev pub owned_at : List ℕ → List ℕ → Option (WrittenStep × List ℕ)
owned_at owner text = identifier_at text >>= λ name. named_at (Some owner) name.0 name.1

-- the rest of a step whose first word is its module where a colon follows it, and else its name
abbrev pub owned_by : List ℕ → List ℕ → Option (List ℕ) → Option (WrittenStep × List ℕ)
owned_by first text None = named_at None first text
owned_by first text (Some more) = owned_at first more

-- a step, and what stands after it
unfoldable pub step_at : List ℕ → Option (WrittenStep × List ℕ)
step_at text = do
  inside ← after text 47
  first ← identifier_at inside
  owned_by first.0 first.1 (after first.1 58)

-- steps to the end, at most so many
unfoldable pub steps_at : ℕ → List ℕ → Option (List WrittenStep)
steps_at n [] = Some []
steps_at zero (b ∷ text) = None
steps_at (suc n) (b ∷ text) = step_at (b ∷ text) >>= λ s. all_with_front (s.0 ∷ []) (steps_at n s.1)

-- the steps of a text that has the form of a path
unfoldable pub steps_of : List ℕ → Option (List WrittenStep)
steps_of text = steps_at (length text) text >>= λ steps. if is_from_top steps then Some steps else None

-- ---- the path

-- the value that a predicate's text spells for a type, where both are there and it spells one
abbrev pub value_by : Option TypeOfLeaf → Option Predicate → Option Value
value_by None p = None
value_by (Some t) None = None
value_by (Some t) (Some p) = result_ok (reading t p.value)

-- the value of the leaf or leaf-list `at` that the predicate of a key gives
abbrev pub value_of : List Node → ℕ → List ℕ → List Predicate → Option Value
value_of nodes at key ps = value_by (type_at nodes at) (predicate_of ps key)

-- the values of keys
unfoldable pub values_of : List Node → List ℕ → List Predicate → Option (List Value)
values_of nodes [] ps = Some []
values_of nodes (k ∷ ks) ps = value_of nodes k (name_at nodes k) ps >>= λ v. all_with_front (v ∷ []) (values_of nodes ks ps)

-- the entry of a list with these keys
abbrev pub keys_chosen : List Node → List ℕ → List Predicate → Option Choice
keys_chosen nodes ks ps = if length ps == 0 then None else (if length ps == length ks then (values_of nodes ks ps >>= λ vs. Some (keys vs)) else None)

-- the entry of a leaf-list
abbrev pub entry_chosen : List Node → ℕ → List Predicate → Option Choice
entry_chosen nodes at ps = if length ps == 1 then (value_of nodes at (codes ".") ps >>= λ v. Some (entry v)) else None

-- what has no entries
abbrev pub whole_chosen : List Predicate → Option Choice
whole_chosen ps = if length ps == 0 then Some whole else None

-- what predicates choose of node `at`
abbrev pub chosen_of : List Node → ℕ → NodeKind → List Predicate → Option Choice
chosen_of nodes at (kind.List ks u e) ps = keys_chosen nodes ks ps
chosen_of nodes at (kind.LeafList t r e) ps = entry_chosen nodes at ps
chosen_of nodes at (kind.Container p) ps = whole_chosen ps
chosen_of nodes at (kind.Leaf t d m r) ps = whole_chosen ps

-- a step of a path as it is written, at the node that it leads to
abbrev pub step_by : List Node → ℕ → WrittenStep → Option Node → Option PathStep
step_by nodes at w None = None
step_by nodes at w (Some n) = chosen_of nodes at n.kind w.predicates >>= λ c. Some (record { «module» = n.«module»; name = w.name; chosen = c })

-- the node that a written step leads to, and the step of a path that it is
abbrev pub next_of : List Node → Place → WrittenStep → Option (ℕ × PathStep)
next_of nodes place w = found nodes place w.owner w.name >>= λ at. step_by nodes at w (slice_get nodes at) >>= λ s. Some (at, s)

-- the steps of a path that written steps give from a place
unfoldable pub path_from : List Node → Place → List WrittenStep → Option (List PathStep)
path_from nodes place [] = Some []
path_from nodes place (w ∷ ws) = next_of nodes place w >>= λ x. all_with_front (x.1 ∷ []) (path_from nodes (Within x.0) ws)

-- a text that gives no path is bad
abbrev pub path_or_bad : Option (List PathStep) → Result (List PathStep) PathFault
path_or_bad None = Err BadText
path_or_bad (Some path) = Ok path

-- what the steps of a text give: names come first
unfoldable pub path_by : List Node → Option (List WrittenStep) → Result (List PathStep) PathFault
path_by nodes None = Err BadText
path_by nodes (Some steps) = if are_named nodes Top steps then path_or_bad (path_from nodes Top steps) else Err Unknown

-- what reading a text gives
unfoldable pub path_of : SchemaTree → List ℕ → Result (List PathStep) PathFault
path_of tree text = path_by tree.nodes (steps_of text)

-- an answer is this one, unless memory ran out
abbrev pub Answers : Result (List PathStep) PathFault → Result (List PathStep) PathFault → Type 0
Answers (Ok path) read = read ≡ Ok path
Answers (Err Unknown) read = read ≡ Err Unknown
Answers (Err BadText) read = read ≡ Err BadText
Answers (Err NoMemory) read = ⊤
