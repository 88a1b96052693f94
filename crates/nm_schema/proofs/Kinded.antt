-- What types mean: a type of its own is that of a leaf, and a leafref has a path.
use Rattle.std.proofs.Common.{◌≡◌, ◌<◌, ℕ, ℤ, zero, suc, List, [], ◌∷◌, length, map, Bool, true, false, cond, Option, Some, None, Result, Ok, Err, slice_get, refl, sym, subst}
use Rattle.std.specs.Prelude.{is_some, is_none, ⊤}
use Rattle.std.specs.Option.{option_and_then}
use Rattle.nm_schema_statements.specs.declared.row.Row.{Row}
use Rattle.nm_schema_statements.specs.declared.word.Word.TheVariants as word
use Rattle.nm_schema_statements.specs.Rows.{first_below}
use Rattle.nm_graph.specs.Value.{strict, all_there}
use Rattle.nm_types.specs.LeafType.{Kind, TypeOfLeaf}
use Rattle.nm_schema_derive.specs.declared.names.BuiltIn.{BuiltIn}
use Rattle.nm_schema_derive.specs.declared.names.BuiltIn.TheVariants.{Leafref}
use Rattle.nm_schema_derive.specs.declared.members.Listed.{Listed}
use Rattle.nm_schema_derive.specs.declared.members.Member.{Member}
use Rattle.nm_schema_derive.specs.declared.members.Numbering.TheVariants.{Values, Positions}
use Rattle.nm_schema_derive.specs.declared.members.ListFault.{ListFault}
use Rattle.nm_schema_derive.specs.declared.derived.StepFault.{StepFault}
use Rattle.nm_schema_derive.specs.declared.derived.Lacking.{Lacking}
use Rattle.nm_schema_derive.specs.Members.{members_of}
use Rattle.nm_schema_derive.specs.Built.{Built, Derivation}
use Rattle.nm_schema_derive.specs.Built as built
use Rattle.nm_schema_derive.specs.Kinds.{kind_made, with_limits, leaf_type_of}
use Rattle.nm_schema_derive.specs.Step.{start, limited, digits_put, digits_read, digits_on, range_on, length_on, names_on, bits_on, named, flagged, lacking}
use Rattle.nm_schema_derive.specs.Restricted.{digits_if, range_if, length_if, names_if, bits_if}
use Rattle.nm_schema_typing.specs.Restricting.{TypeRestrictions, restrictions_of}
use Rattle.nm_schema_typing.specs.TypeGraph.{is_typed, is_type, leads}
use Rattle.nm_schema_typing.specs.Meaning.{Meaning, plain, reference, then_bits, then_names, then_length, then_range, restricted, is_unrestricted, whole, restricted_at, is_path, leads_to, leafref_at, kept_at, narrowed_at, is_leafref, bare, built_in_at, built_in_named, type_meaning, meaning_from, meaning_at, first_known, meaning_step}
use Rattle.nm_schema_typing.specs.Along.{within as within_steps, meaning_of}
use Rattle.nm_schema_nodes.proofs.Unfolding.{split}
use Rattle.nm_schema.proofs.Faultless.{within}
use Rattle.nm_schema.proofs.Listings.{first_stands}

abbrev is_reference : Built → Bool
is_reference built.reference = true
is_reference _ = false

-- a step makes no leafref of what is none
abbrev IsOwn : Result Derivation StepFault → Type 0
IsOwn (Err fault) = ⊤
IsOwn (Ok d) = is_reference d.built ≡ false

limited_own : (d : Derivation) (o : Option (List (ℤ × ℤ))) → is_reference d.built ≡ false → IsOwn (limited d o)
limited_own d None own = tt
limited_own d (Some parts) own = own

digits_own : (d : Derivation) (o : Option ℕ) → IsOwn (digits_put d o)
digits_own d None = tt
digits_own d (Some digits) = refl

digits_on_own : (d : Derivation) (text : List ℕ) (b : Built) → IsOwn (digits_on d text b)
digits_on_own d text built.bare_decimal = digits_own d (digits_read text)
digits_on_own d text _ = tt

range_on_own : (d : Derivation) (text : List ℕ) (b : Built) → is_reference d.built ≡ false → IsOwn (range_on d text b)
range_on_own d text (built.integer low high) own = limited_own d _ own
range_on_own d text (built.decimal digits) own = limited_own d _ own
range_on_own d text built.bare_decimal own = own
range_on_own d text _ own = tt

length_on_own : (d : Derivation) (text : List ℕ) (b : Built) → is_reference d.built ≡ false → IsOwn (length_on d text b)
length_on_own d text built.string own = limited_own d _ own
length_on_own d text _ own = tt

named_own : (limits : Option (List (ℤ × ℤ))) (r : Result (List Member) ListFault) → IsOwn (named limits r)
named_own limits (Err fault) = tt
named_own limits (Ok members) = refl

flagged_own : (limits : Option (List (ℤ × ℤ))) (r : Result (List Member) ListFault) → IsOwn (flagged limits r)
flagged_own limits (Err fault) = tt
flagged_own limits (Ok members) = refl

names_on_own : (d : Derivation) (l : List Listed) (b : Built) → IsOwn (names_on d l b)
names_on_own d l built.bare_names = named_own d.limits (members_of Values None l)
names_on_own d l (built.names base) = named_own d.limits (members_of Values (Some base) l)
names_on_own d l _ = tt

bits_on_own : (d : Derivation) (l : List Listed) (b : Built) → IsOwn (bits_on d l b)
bits_on_own d l built.bare_bits = flagged_own d.limits (members_of Positions None l)
bits_on_own d l (built.bits base) = flagged_own d.limits (members_of Positions (Some base) l)
bits_on_own d l _ = tt

digits_if_own : (d : Derivation) (o : Option (List ℕ)) → is_reference d.built ≡ false → IsOwn (digits_if d o)
digits_if_own d None own = own
digits_if_own d (Some text) own = digits_on_own d text d.built

range_if_own : (d : Derivation) (o : Option (List ℕ)) → is_reference d.built ≡ false → IsOwn (range_if d o)
range_if_own d None own = own
range_if_own d (Some text) own = range_on_own d text d.built own

length_if_own : (d : Derivation) (o : Option (List ℕ)) → is_reference d.built ≡ false → IsOwn (length_if d o)
length_if_own d None own = own
length_if_own d (Some text) own = length_on_own d text d.built own

names_if_own : (d : Derivation) (l : List Listed) → is_reference d.built ≡ false → IsOwn (names_if d l)
names_if_own d [] own = own
names_if_own d (s ∷ ss) own = names_on_own d (s ∷ ss) d.built

bits_if_own : (d : Derivation) (l : List Listed) → is_reference d.built ≡ false → IsOwn (bits_if d l)
bits_if_own d [] own = own
bits_if_own d (s ∷ ss) own = bits_on_own d (s ∷ ss) d.built

module _ (r : TypeRestrictions) where
  bits_own : (x : Result Derivation StepFault) → IsOwn x → IsOwn (then_bits r x)
  bits_own (Err fault) own = tt
  bits_own (Ok d) own = bits_if_own d r.bits own

  names_own : (x : Result Derivation StepFault) → IsOwn x → IsOwn (then_names r x)
  names_own (Err fault) own = tt
  names_own (Ok d) own = bits_own (names_if d r.names) (names_if_own d r.names own)

  length_own : (x : Result Derivation StepFault) → IsOwn x → IsOwn (then_length r x)
  length_own (Err fault) own = tt
  length_own (Ok d) own = names_own (length_if d r.length) (length_if_own d r.length own)

  range_own : (x : Result Derivation StepFault) → IsOwn x → IsOwn (then_range r x)
  range_own (Err fault) own = tt
  range_own (Ok d) own = length_own (range_if d r.range) (range_if_own d r.range own)

  restricted_own : (d : Derivation) → is_reference d.built ≡ false → IsOwn (restricted r d)
  unfolding restricted
  restricted_own d own = range_own (digits_if d r.digits) (digits_if_own d r.digits own)

-- ---- meanings

-- a type of its own is built as that of a leaf, and the path of a leafref is that of a row
abbrev IsRight : List Row → Option Meaning → Type 0
IsRight rows None = ⊤
IsRight rows (Some (plain d)) = is_some (kind_made d.built) ≡ true
IsRight rows (Some (reference p)) = p < length rows

kind_there : (b : Built) → is_reference b ≡ false → lacking b ≡ None → is_some (kind_made b) ≡ true
kind_there (built.integer low high) own whole = refl
kind_there (built.decimal digits) own whole = refl
kind_there built.boolean own whole = refl
kind_there built.string own whole = refl
kind_there (built.names members) own whole = refl
kind_there (built.bits members) own whole = refl
kind_there built.empty own whole = refl
kind_there built.bare_decimal own whole = absurd (cc)
kind_there built.bare_names own whole = absurd (cc)
kind_there built.bare_bits own whole = absurd (cc)
kind_there built.reference own whole = absurd (cc)

own_kind : (b : Built) → is_some (kind_made b) ≡ true → is_reference b ≡ false
own_kind built.reference e = absurd (cc)
own_kind (built.integer low high) e = refl
own_kind (built.decimal digits) e = refl
own_kind built.boolean e = refl
own_kind built.string e = refl
own_kind (built.names members) e = refl
own_kind (built.bits members) e = refl
own_kind built.empty e = refl
own_kind built.bare_decimal e = refl
own_kind built.bare_names e = refl
own_kind built.bare_bits e = refl

whole_right : (rows : List Row) (x : Result Derivation StepFault) → IsOwn x → IsRight rows (whole x)
whole_right rows (Err fault) own = tt
whole_right rows (Ok d) own = by (lacking d.built) refl
  where
    by : (o : Option Lacking) → lacking d.built ≡ o → IsRight rows (cond (is_none o) (Some (plain d)) None)
    by None none = kind_there d.built own none
    by (Some lacks) some = tt

right_if : (rows : List Row) (b : Bool) (x : Option Meaning) → IsRight rows x → IsRight rows (cond b x None)
right_if rows true x right = right
right_if rows false x right = tt

start_own : (b : BuiltIn) → is_leafref b ≡ false → is_reference (start b) ≡ false
start_own Leafref e = absurd (cc)
start_own _ e = refl

module _ (rows : List Row) (i : ℕ) where
  restricted_right : (d : Derivation) → is_reference d.built ≡ false → IsRight rows (restricted_at rows i d)
  unfolding restricted_at
  restricted_right d own = right_if rows (is_none (first_below rows i word.Path)) (whole (restricted (restrictions_of rows i) d)) (whole_right rows (restricted (restrictions_of rows i) d) (restricted_own (restrictions_of rows i) d own))

  leads_right : (o : Option ℕ) → first_below rows i word.Path ≡ o → IsRight rows (leads_to rows o)
  leads_right None first = tt
  leads_right (Some p) first = let s = first_stands rows i p word.Path first in right_if rows (is_path rows p) (Some (reference p)) (within rows p s.row s.there)

  leafref_right : IsRight rows (leafref_at rows i)
  unfolding leafref_at
  leafref_right = right_if rows (is_unrestricted (restrictions_of rows i)) (leads_to rows (first_below rows i word.Path)) (leads_right (first_below rows i word.Path) refl)

  narrowed_right : (m : Meaning) → IsRight rows (Some m) → IsRight rows (narrowed_at rows i m)
  unfolding kept_at
  narrowed_right (plain d) right = restricted_right d (own_kind d.built right)
  narrowed_right (reference p) right = right_if rows (is_none (first_below rows i word.Path)) (cond (is_unrestricted (restrictions_of rows i)) (Some (reference p)) None) (right_if rows (is_unrestricted (restrictions_of rows i)) (Some (reference p)) right)

  built_right : (o : Option BuiltIn) → IsRight rows (built_in_at rows i o)
  built_right None = tt
  built_right (Some b) = by (is_leafref b) refl
    where
      by : (c : Bool) → is_leafref b ≡ c → IsRight rows (cond c (leafref_at rows i) (restricted_at rows i (bare b)))
      by true leafref = leafref_right
      by false own = restricted_right (bare b) (start_own b own)

  type_right : (base : Option Meaning) → IsRight rows base → IsRight rows (type_meaning rows i base)
  type_right None right = built_right (built_in_named rows i)
  type_right (Some m) right = narrowed_right m right

  either_right : (b : Bool) (x y : Option Meaning) → IsRight rows x → IsRight rows y → IsRight rows (cond b x y)
  either_right true x y f g = f
  either_right false x y f g = g

  from_right : (base : Option Meaning) (o : Option Row) → IsRight rows base → IsRight rows (meaning_from rows i base o)
  from_right base None right = tt
  from_right base (Some r) right = either_right (is_typed r.word) base (cond (is_type r.word) (type_meaning rows i base) None) right (right_if rows (is_type r.word) (type_meaning rows i base) (type_right base right))

  at_right : (base : Option Meaning) → IsRight rows base → IsRight rows (meaning_at rows i base)
  unfolding meaning_at
  at_right base right = from_right base (slice_get rows i) right

first_right : (rows : List Row) (f : ℕ → Option Meaning) → ((k : ℕ) → IsRight rows (f k)) → (ks : List ℕ) (known : List Meaning) → all_there (map f ks) ≡ Some known → IsRight rows (first_known known)
first_right rows f right [] known e = let none : known ≡ [] = cc in subst (λ (l : List Meaning). IsRight rows (first_known l)) (sym none) tt
first_right rows f right (k ∷ ks) known e =
    let s = split f k ks known e in
    subst (λ (l : List Meaning). IsRight rows (first_known l)) (sym s.known_is) (subst (λ (x : Option Meaning). IsRight rows x) s.first_is (right k))

step_right : (rows : List Row) (i : ℕ) (f : ℕ → Option Meaning) → ((k : ℕ) → IsRight rows (f k)) → (ks : List ℕ) (o : Option (List Meaning)) → all_there (map f ks) ≡ o → IsRight rows (option_and_then (meaning_step rows i) o)
step_right rows i f right ks None e = tt
step_right rows i f right ks (Some known) e = at_right rows i (first_known known) (first_right rows f right ks known e)

within_right : (rows : List Row) (typedefs : List (Option ℕ)) (steps i : ℕ) → IsRight rows (within_steps (strict (meaning_step rows)) (leads rows typedefs) steps i)
within_right rows typedefs zero i = tt
within_right rows typedefs (suc steps) i =
    step_right rows i (within_steps (strict (meaning_step rows)) (leads rows typedefs) steps) (within_right rows typedefs steps) (leads rows typedefs i) (all_there (map (within_steps (strict (meaning_step rows)) (leads rows typedefs) steps) (leads rows typedefs i))) refl

meaning_right : (rows : List Row) (typedefs : List (Option ℕ)) (i : ℕ) → IsRight rows (meaning_of rows typedefs i)
unfolding meaning_of
meaning_right rows typedefs i = within_right rows typedefs (length rows) i

-- the path of a leafref is that of a row
pub path_within : (rows : List Row) (typedefs : List (Option ℕ)) (i p : ℕ) → meaning_of rows typedefs i ≡ Some (reference p) → p < length rows
path_within rows typedefs i p e = subst (λ (o : Option Meaning). IsRight rows o) e (meaning_right rows typedefs i)

-- a type of its own is that of a leaf
pub type_there : (rows : List Row) (typedefs : List (Option ℕ)) (i : ℕ) (d : Derivation) → meaning_of rows typedefs i ≡ Some (plain d) → (t : TypeOfLeaf) × (leaf_type_of d ≡ Some t)
type_there rows typedefs i d e = by (kind_made d.built) (subst (λ (o : Option Meaning). IsRight rows o) e (meaning_right rows typedefs i))
  where
    by : (o : Option Kind) → is_some o ≡ true → (t : TypeOfLeaf) × (with_limits d.limits o ≡ Some t)
    by None f = absurd (cc)
    by (Some k) f = (record { kind = k; limits = d.limits }, refl)
