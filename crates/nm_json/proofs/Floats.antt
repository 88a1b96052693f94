-- The JSON value of a configuration holds no float.
use Rattle.std.proofs.Common.{◌≡◌, ℕ, ℤ, pos, negsuc, List, [], ◌∷◌, fold, Bool, true, false, ◌||◌, ◌&&◌, Option, Some, None, Ordering, Less, Equal, Greater, nat_cmp, refl}
use Rattle.std.specs.Prelude.{IfSome}
use Rattle.std.specs.FinMap.{entries}
use Rattle.std.specs.Cmp.Lexicographic.{slice_cmp}
use Rattle.std.specs.Ordering.{match_ordering}
use Rattle.serde_json.specs.Data.{Data, null, boolean, number, string, array, object, Items, no_items, item, Members, no_members, member, put}
use Rattle.serde_json.specs.Find.{get_member}
use Rattle.serde_json.specs.Written.{has_float, items_have_float, members_have_float}
use Rattle.nm_types.specs.Path.{PathStep, Choice, whole, keys, entry}
use Rattle.nm_types.specs.declared.value.Value.{Value}
use Rattle.nm_types.specs.declared.value.Value.TheVariants.{Int, Decimal, Text, Name, Bits, Empty, Present, Bool as Flag}
use Rattle.nm_schema_tree.specs.declared.node.Node.{Node}
use Rattle.nm_schema_tree.specs.Nodes.{SchemaTree, keys_at}
use Rattle.nm_path.specs.declared.place.Place.{Place}
use Rattle.nm_path.specs.declared.place.Place.TheVariants.{Top}
use Rattle.nm_path.specs.Spelling.{found_of, below, name_at}
use Rattle.nm_config.specs.Rows.{Rows}
use Rattle.nm_json.specs.Writing.{is_small, integer_data, value_data, narrow_at, member_name, members_in, items_in, key_members, append, in_last, step_data, put_steps, put_row, config_data}

neither : (a b : Bool) → a ≡ false → b ≡ false → (a || b) ≡ false
neither a b x y = rw x y

left : (a b : Bool) → (a || b) ≡ false → a ≡ false
left false b e = refl
left true b e = e

right : (a b : Bool) → (a || b) ≡ false → b ≡ false
right false b e = e
right true b e = absurd cc

-- ---- putting

put_free_at : (o : Ordering) (k l : List ℕ) (d e : Data) (ms : Members) → has_float d ≡ false → has_float e ≡ false → members_have_float ms ≡ false → members_have_float (put k d ms) ≡ false
    → members_have_float (match_ordering o (member k d (member l e ms)) (member l d ms) (member l e (put k d ms))) ≡ false
put_free_at Less k l d e ms a b c later = neither _ _ a (neither _ _ b c)
put_free_at Equal k l d e ms a b c later = neither _ _ a c
put_free_at Greater k l d e ms a b c later = neither _ _ b later

put_free : (k : List ℕ) (d : Data) (ms : Members) → has_float d ≡ false → members_have_float ms ≡ false → members_have_float (put k d ms) ≡ false
put_free k d no_members a c = neither _ _ a refl
put_free k d (member l e ms) a c = put_free_at (slice_cmp nat_cmp k l) k l d e ms a (left _ _ c) (right (has_float e) _ c) (put_free k d ms a (right (has_float e) _ c))

append_free : (ds : Items) (d : Data) → items_have_float ds ≡ false → has_float d ≡ false → items_have_float (append ds d) ≡ false
append_free no_items d c a = neither _ _ a refl
append_free (item e ds) d c a = neither _ _ (left _ _ c) (append_free ds d (right (has_float e) _ c) a)

-- ---- looking

abbrev pub IsFree : Option Data → Type 0
IsFree before = IfSome before (λ d. has_float d ≡ false)

get_free_at : (o : Ordering) (d : Data) (rest : Option Data) → has_float d ≡ false → IsFree rest → IsFree (match_ordering o rest (Some d) rest)
get_free_at Less d rest a c = c
get_free_at Equal d rest a c = a
get_free_at Greater d rest a c = c

get_free : (k : List ℕ) (ms : Members) → members_have_float ms ≡ false → IsFree (get_member k ms)
get_free k no_members c = tt
get_free k (member l e ms) c = get_free_at (slice_cmp nat_cmp k l) e (get_member k ms) (left _ _ c) (get_free k ms (right (has_float e) _ c))

members_free : (before : Option Data) → IsFree before → members_have_float (members_in before) ≡ false
members_free None c = refl
members_free (Some null) c = refl
members_free (Some (boolean b)) c = refl
members_free (Some (number n)) c = refl
members_free (Some (string s)) c = refl
members_free (Some (array ds)) c = refl
members_free (Some (object ms)) c = c

items_free : (before : Option Data) → IsFree before → items_have_float (items_in before) ≡ false
items_free None c = refl
items_free (Some null) c = refl
items_free (Some (boolean b)) c = refl
items_free (Some (number n)) c = refl
items_free (Some (string s)) c = refl
items_free (Some (array ds)) c = c
items_free (Some (object ms)) c = refl

-- ---- values

integer_free : (narrow : Bool) (z : ℤ) → has_float (integer_data narrow z) ≡ false
integer_free true (pos n) = refl
integer_free true (negsuc n) = refl
integer_free false z = refl

value_free : (narrow : Bool) (v : Value) → has_float (value_data narrow v) ≡ false
value_free narrow (Int z) = integer_free (narrow && is_small z) z
value_free narrow (Flag b) = refl
value_free narrow Empty = refl
value_free narrow Present = refl
value_free narrow (Decimal z digits) = refl
value_free narrow (Text text) = refl
value_free narrow (Name text) = refl
value_free narrow (Bits text) = refl

keys_free : (nodes : List Node) (ks : List ℕ) (vs : List Value) (ms : Members) → members_have_float ms ≡ false → members_have_float (key_members nodes ks vs ms) ≡ false
keys_free nodes [] vs ms c = c
keys_free nodes (k ∷ ks) [] ms c = c
keys_free nodes (k ∷ ks) (v ∷ vs) ms c = keys_free nodes ks vs _ (put_free (name_at nodes k) _ ms (value_free (narrow_at nodes (Some k)) v) c)

-- ---- rows

abbrev pub Keeps : (Members → Members) → Type 0
Keeps f = (ms : Members) → members_have_float ms ≡ false → members_have_float (f ms) ≡ false

last_free : (f : Members → Members) → Keeps f → (ds : Items) → items_have_float ds ≡ false → items_have_float (in_last f ds) ≡ false
last_free f keeps no_items c = refl
last_free f keeps (item d no_items) c = neither _ _ (keeps (members_in (Some d)) (members_free (Some d) (left _ _ c))) refl
last_free f keeps (item d (item e ds)) c = neither _ _ (left _ _ c) (last_free f keeps (item e ds) (right (has_float d) _ c))

step_free : (nodes : List Node) (at : Option ℕ) (choice : Choice) (ss : List PathStep) (v : Value) (before : Option Data) (f : Members → Members) → IsFree before → Keeps f
    → has_float (step_data nodes at choice ss v before f) ≡ false
step_free nodes at whole [] v before f c keeps = value_free (narrow_at nodes at) v
step_free nodes at whole (s ∷ ss) v before f c keeps = keeps (members_in before) (members_free before c)
step_free nodes at (entry w) ss v before f c keeps = append_free (items_in before) _ (items_free before c) (value_free (narrow_at nodes at) w)
step_free nodes at (keys ks) [] v before f c keeps = append_free (items_in before) _ (items_free before c) (keys_free nodes (keys_at nodes at) ks no_members refl)
step_free nodes at (keys ks) (s ∷ ss) v before f c keeps = last_free f keeps (items_in before) (items_free before c)

steps_free : (t : SchemaTree) (place : Place) (steps : List PathStep) (v : Value) → Keeps (put_steps t place steps v)
steps_free t place [] v ms c = c
steps_free t place (s ∷ ss) v ms c =
    put_free (member_name place s) _ ms
    (step_free t.nodes (found_of t.nodes place s.«module» s.name) s.chosen ss v (get_member (member_name place s) ms) (put_steps t (below (found_of t.nodes place s.«module» s.name)) ss v)
    (get_free (member_name place s) ms c) (steps_free t (below (found_of t.nodes place s.«module» s.name)) ss v))
    c

row_free : (t : SchemaTree) (r : List PathStep × Value) → Keeps (λ ms. put_row t ms r)
unfolding put_row
row_free t r ms c = steps_free t Top r.0 r.1 ms c

rows_free : (t : SchemaTree) (rows : List (List PathStep × Value)) → Keeps (λ ms. fold (put_row t) ms rows)
rows_free t [] ms c = c
rows_free t (r ∷ rows) ms c = rows_free t rows (put_row t ms r) (row_free t r ms c)

pub no_float : (t : SchemaTree) (rows : Rows) → has_float (config_data t rows) ≡ false
unfolding config_data
no_float t rows = rows_free t (entries rows) no_members refl
