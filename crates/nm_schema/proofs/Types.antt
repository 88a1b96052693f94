-- The types of leafs are those of YANG.
use Rattle.std.proofs.Common.{◌≡◌, ◌∙◌, ℕ, ℤ, pos, negsuc, zero, suc, List, [], ◌∷◌, ◌++◌, length, map, fold, get_or, Bool, true, false, cond, Option, Some, None, Result, Ok, Err, slice_get, refl, sym, ap, subst, inl, inr, arith}
use Rattle.std.specs.Prelude.{Contains, int_lt, ◌≤ℤ◌, is_some, is_none, ⊤, codes, FitsSigned}
use Rattle.std.specs.Option.{option_and_then}
use Rattle.std.specs.Int.{w128}
use Rattle.std.specs.Str.{bytes_eq}
use Rattle.std.proofs.lemmas.Int.{ints}
use Rattle.std.proofs.lemmas.List.{map-append}
use Rattle.nm_types.specs.LeafType.{Kind, integer, decimal, boolean, string, enumeration, bits, empty, TypeOfLeaf}
use Rattle.nm_types.specs.Spells.{IsOnce, HasDistinctNames}
use Rattle.nm_schema_statements.specs.declared.row.Row.{Row}
use Rattle.nm_schema_statements.specs.declared.word.Word.TheVariants as word
use Rattle.nm_schema_statements.specs.Rows.{first_below}
use Rattle.nm_graph.specs.Value.{strict, all_there}
use Rattle.nm_schema_derive.specs.declared.names.BuiltIn.{BuiltIn}
use Rattle.nm_schema_derive.specs.declared.members.Listed.{Listed}
use Rattle.nm_schema_derive.specs.declared.members.Member.{Member}
use Rattle.nm_schema_derive.specs.declared.members.Numbering.{Numbering}
use Rattle.nm_schema_derive.specs.declared.members.Numbering.TheVariants.{Positions}
use Rattle.nm_schema_derive.specs.declared.members.ListFlaw.{ListFlaw}
use Rattle.nm_schema_derive.specs.declared.members.ListFault.{ListFault}
use Rattle.nm_schema_derive.specs.declared.members.ListFault.TheVariants.{Flawed}
use Rattle.nm_schema_derive.specs.declared.derived.StepFault.{StepFault}
use Rattle.nm_schema_derive.specs.BuiltIn.{integer_named, other_named, first_of}
use Rattle.nm_schema_derive.specs.Built as built
use Rattle.nm_schema_derive.specs.Built.{Built, Derivation}
use Rattle.nm_schema_derive.specs.Order.{names_in_order}
use Rattle.nm_schema_derive.specs.Kinds.{member_name, kind_made, with_limits}
use Rattle.nm_schema_derive.specs.Members.{later_number, number_in, new_number, number_for, one_more, with_statement, members_of}
use Rattle.nm_schema_derive.specs.Step.{start, limited, digits_put, digits_on, digits_read, range_on, length_on, named, names_on, flagged, bits_on, lacking}
use Rattle.nm_schema_derive.specs.Restricted.{digits_if, range_if, length_if, names_if, bits_if}
use Rattle.nm_schema_derive.proofs.Naming.{in_order_once}
use Rattle.nm_schema_typing.specs.Restricting.{TypeRestrictions, restrictions_of}
use Rattle.nm_schema_typing.specs.TypeGraph.{leads, is_typed, is_type}
use Rattle.nm_schema_typing.specs.Meaning.{Meaning, plain, reference, then_bits, then_names, then_length, then_range, restricted, is_unrestricted, whole, restricted_at, is_path, leads_to, leafref_at, kept_at, narrowed_at, is_leafref, bare, built_in_at, built_in_named, named_built_in, type_meaning, meaning_from, meaning_at, first_known, meaning_step}
use Rattle.nm_schema_typing.specs.Restricting.{argument_at}
use Rattle.nm_schema_typing.specs.Along.{within, meaning_of}
use Rattle.nm_schema_uses.specs.Worth.{worth_within, worth_of}
use Rattle.nm_schema_nodes.specs.Expansion.{Expanded, row_of}
use Rattle.nm_schema_nodes.proofs.Unfolding.{split, unfold_one}
use Rattle.nm_schema_leafref.specs.Target.{targets, plain_in, plain_type, plain_at, type_step, type_of_node}
use Rattle.nm_path.specs.Sound.{HasLow, HasHeldBounds}
use Rattle.nm_schema.proofs.Elements.{first_or_later, nothing}
use Rattle.nm_schema.proofs.Onces.{once_both, own_bytes}

-- ---- the names of bits

missed : (t : Bool) (z : ℤ) (found : Option ℤ) → is_some (cond t (Some z) found) ≡ false → (t ≡ false) × (is_some found ≡ false)
missed true z found e = absurd (cc)
missed false z found e = (refl, e)

-- a name without a number is none of the names
absent : (name : List ℕ) (members : List Member) (found : Option ℤ) → is_some (fold (later_number name) found members) ≡ false → (is_some found ≡ false) × (Contains (map member_name members) name → ⊥)
absent name [] found e = (e, nothing name)
absent name (p ∷ ps) found e =
    let later = absent name ps (later_number name found p) e in
    let here = missed (bytes_eq p.name name) p.number found later.0 in (
      here.1,
      λ c. elim (first_or_later p.name name (map member_name ps) c) [
        | inl same ↦ (let yes : bytes_eq p.name name ≡ true = subst (λ (w : List ℕ). bytes_eq p.name w ≡ true) same (own_bytes p.name) in let no = here.0 in cc)
        | inr d ↦ later.1 d
      ],
    )

unnamed : (t : Bool) (r : Result ℤ ListFlaw) (n : ℤ) (flaw : ListFlaw) → cond t (Err flaw) r ≡ Ok n → t ≡ false
unnamed true r n flaw e = absurd (cc)
unnamed false r n flaw e = refl

module _ (numbering : Numbering) (base : Option (List Member)) where
  new_name : (before : List Member) (s : Listed) (n : ℤ) → number_for numbering base before s ≡ Ok n → Contains (map member_name before) s.name → ⊥
  unfolding number_for number_in
  new_name before s n e = (absent s.name before None (unnamed (is_some (number_in s.name before)) (new_number numbering base before s) n _ e)).1

  flaw_stays : (statements : List Listed) (fault : ListFault) (members : List Member) → fold (with_statement numbering base) (Err fault) statements ≡ Ok members → ⊥
  flaw_stays [] fault members e = cc
  flaw_stays (s ∷ ss) fault members e = flaw_stays ss fault members e

  once : (statements : List Listed) (before members : List Member) → IsOnce (map member_name before) → fold (with_statement numbering base) (Ok before) statements ≡ Ok members → IsOnce (map member_name members)
  once [] before members o e = let same : before ≡ members = cc in subst (λ (ms : List Member). IsOnce (map member_name ms)) same o
  once (s ∷ ss) before members o e = one (λ after p g. once ss after members p g) (number_for numbering base before s) refl e
    where
      one : ((after : List Member) → IsOnce (map member_name after) → fold (with_statement numbering base) (Ok after) ss ≡ Ok members → IsOnce (map member_name members)) → (r : Result ℤ ListFlaw) → number_for numbering base before s ≡ r → fold (with_statement numbering base) (one_more before s.name r) ss ≡ Ok members → IsOnce (map member_name members)
      one again (Err flaw) f g = absurd (flaw_stays ss (Flawed (length before) flaw) members g)
      one again (Ok n) f g =
          let m : Member = record { name = s.name; number = n } in
          let both : IsOnce (map member_name before ++ s.name ∷ []) = once_both (map member_name before) (s.name ∷ []) o ((λ c. nothing s.name c), tt)
          (λ w c d. elim (first_or_later s.name w [] d) [
            | inl same ↦ new_name before s n f (subst (λ (v : List ℕ). Contains (map member_name before) v) (sym same) c)
            | inr none ↦ nothing w none
          ]) in
          again (before ++ m ∷ []) (subst (λ (ws : List (List ℕ)). IsOnce ws) (sym (map-append member_name before (m ∷ []))) both) g

members_once : (numbering : Numbering) (base : Option (List Member)) (statements : List Listed) (members : List Member) → members_of numbering base statements ≡ Ok members → IsOnce (map member_name members)
unfolding members_of
members_once numbering base statements members e = once numbering base statements [] members tt e

-- ---- what types are built as

-- an integer type as YANG has them, and bits with names of their own
abbrev IsFit : Built → Type 0
IsFit (built.integer low high) = (int_lt high (pos 4294967296) ≡ true → negsuc 2147483647 ≤ℤ low) × FitsSigned w128 low × FitsSigned w128 high
IsFit (built.bits members) = IsOnce (map member_name members)
IsFit _ = ⊤

abbrev IsFitResult : Result Derivation StepFault → Type 0
IsFitResult (Err fault) = ⊤
IsFitResult (Ok d) = IsFit d.built

abbrev IsFitMeaning : Option Meaning → Type 0
IsFitMeaning None = ⊤
IsFitMeaning (Some (plain d)) = IsFit d.built
IsFitMeaning (Some (reference p)) = ⊤

limited_fit : (d : Derivation) (parts : Option (List (ℤ × ℤ))) → IsFit d.built → IsFitResult (limited d parts)
limited_fit d None fit = tt
limited_fit d (Some parts) fit = fit

put_fit : (d : Derivation) (o : Option ℕ) → IsFitResult (digits_put d o)
put_fit d None = tt
put_fit d (Some digits) = tt

digits_on_fit : (d : Derivation) (text : List ℕ) (b : Built) → IsFitResult (digits_on d text b)
digits_on_fit d text built.bare_decimal = put_fit d (digits_read text)
digits_on_fit d text _ = tt

range_on_fit : (d : Derivation) (text : List ℕ) (b : Built) → IsFit d.built → IsFitResult (range_on d text b)
range_on_fit d text (built.integer low high) fit = limited_fit d _ fit
range_on_fit d text (built.decimal digits) fit = limited_fit d _ fit
range_on_fit d text built.bare_decimal fit = fit
range_on_fit d text _ fit = tt

length_on_fit : (d : Derivation) (text : List ℕ) (b : Built) → IsFit d.built → IsFitResult (length_on d text b)
length_on_fit d text built.string fit = limited_fit d _ fit
length_on_fit d text _ fit = tt

named_fit : (limits : Option (List (ℤ × ℤ))) (r : Result (List Member) ListFault) → IsFitResult (named limits r)
named_fit limits (Err fault) = tt
named_fit limits (Ok members) = tt

names_on_fit : (d : Derivation) (statements : List Listed) (b : Built) → IsFitResult (names_on d statements b)
names_on_fit d statements built.bare_names = named_fit d.limits _
names_on_fit d statements (built.names base) = named_fit d.limits _
names_on_fit d statements _ = tt

flagged_fit : (limits : Option (List (ℤ × ℤ))) (r : Result (List Member) ListFault) → ((members : List Member) → r ≡ Ok members → IsOnce (map member_name members)) → IsFitResult (flagged limits r)
flagged_fit limits (Err fault) once = tt
flagged_fit limits (Ok members) once = once members refl

bits_on_fit : (d : Derivation) (statements : List Listed) (b : Built) → IsFitResult (bits_on d statements b)
bits_on_fit d statements built.bare_bits = flagged_fit d.limits (members_of Positions None statements) (members_once Positions None statements)
bits_on_fit d statements (built.bits base) = flagged_fit d.limits (members_of Positions (Some base) statements) (members_once Positions (Some base) statements)
bits_on_fit d statements _ = tt

bits_if_fit : (d : Derivation) (statements : List Listed) → IsFit d.built → IsFitResult (bits_if d statements)
bits_if_fit d [] fit = fit
bits_if_fit d (s ∷ ss) fit = bits_on_fit d (s ∷ ss) d.built

names_if_fit : (d : Derivation) (statements : List Listed) → IsFit d.built → IsFitResult (names_if d statements)
names_if_fit d [] fit = fit
names_if_fit d (s ∷ ss) fit = names_on_fit d (s ∷ ss) d.built

length_if_fit : (d : Derivation) (o : Option (List ℕ)) → IsFit d.built → IsFitResult (length_if d o)
length_if_fit d None fit = fit
length_if_fit d (Some text) fit = length_on_fit d text d.built fit

range_if_fit : (d : Derivation) (o : Option (List ℕ)) → IsFit d.built → IsFitResult (range_if d o)
range_if_fit d None fit = fit
range_if_fit d (Some text) fit = range_on_fit d text d.built fit

digits_if_fit : (d : Derivation) (o : Option (List ℕ)) → IsFit d.built → IsFitResult (digits_if d o)
digits_if_fit d None fit = fit
digits_if_fit d (Some text) fit = digits_on_fit d text d.built

module _ (r : TypeRestrictions) where
  then_bits_fit : (x : Result Derivation StepFault) → IsFitResult x → IsFitResult (then_bits r x)
  then_bits_fit (Err fault) fit = tt
  then_bits_fit (Ok d) fit = bits_if_fit d r.bits fit

  then_names_fit : (x : Result Derivation StepFault) → IsFitResult x → IsFitResult (then_names r x)
  then_names_fit (Err fault) fit = tt
  then_names_fit (Ok d) fit = then_bits_fit (names_if d r.names) (names_if_fit d r.names fit)

  then_length_fit : (x : Result Derivation StepFault) → IsFitResult x → IsFitResult (then_length r x)
  then_length_fit (Err fault) fit = tt
  then_length_fit (Ok d) fit = then_names_fit (length_if d r.length) (length_if_fit d r.length fit)

  then_range_fit : (x : Result Derivation StepFault) → IsFitResult x → IsFitResult (then_range r x)
  then_range_fit (Err fault) fit = tt
  then_range_fit (Ok d) fit = then_length_fit (range_if d r.range) (range_if_fit d r.range fit)

  restricted_fit : (d : Derivation) → IsFit d.built → IsFitResult (restricted r d)
  unfolding restricted
  restricted_fit d fit = then_range_fit (digits_if d r.digits) (digits_if_fit d r.digits fit)

-- ---- built-in types

abbrev IsFitBuiltIn : Option BuiltIn → Type 0
IsFitBuiltIn None = ⊤
IsFitBuiltIn (Some b) = IsFit (start b)

or_else : (b : Bool) (x : Option BuiltIn) (y : Option BuiltIn) → IsFitBuiltIn x → IsFitBuiltIn y → IsFitBuiltIn (cond b x y)
or_else true x y f g = f
or_else false x y f g = g

integer_fit : (name : List ℕ) → IsFitBuiltIn (integer_named name)
unfolding integer_named
integer_fit name =
    or_else (bytes_eq name (codes "int8")) _ _ ((λ e. grind (arith, ints)), grind (arith, ints), grind (arith, ints)) (
    or_else (bytes_eq name (codes "int16")) _ _ ((λ e. grind (arith, ints)), grind (arith, ints), grind (arith, ints)) (
    or_else (bytes_eq name (codes "int32")) _ _ ((λ e. grind (arith, ints)), grind (arith, ints), grind (arith, ints)) (
    or_else (bytes_eq name (codes "int64")) _ _ ((λ e. absurd (cc)), grind (arith, ints), grind (arith, ints)) (
    or_else (bytes_eq name (codes "uint8")) _ _ ((λ e. grind (arith, ints)), grind (arith, ints), grind (arith, ints)) (
    or_else (bytes_eq name (codes "uint16")) _ _ ((λ e. grind (arith, ints)), grind (arith, ints), grind (arith, ints)) (
    or_else (bytes_eq name (codes "uint32")) _ _ ((λ e. grind (arith, ints)), grind (arith, ints), grind (arith, ints)) (
    or_else (bytes_eq name (codes "uint64")) _ _ ((λ e. absurd (cc)), grind (arith, ints), grind (arith, ints)) tt)))))))

other_fit : (name : List ℕ) → IsFitBuiltIn (other_named name)
unfolding other_named
other_fit name =
    or_else (bytes_eq name (codes "decimal64")) _ _ tt (
    or_else (bytes_eq name (codes "boolean")) _ _ tt (
    or_else (bytes_eq name (codes "string")) _ _ tt (
    or_else (bytes_eq name (codes "enumeration")) _ _ tt (
    or_else (bytes_eq name (codes "bits")) _ _ tt (
    or_else (bytes_eq name (codes "empty")) _ _ tt (
    or_else (bytes_eq name (codes "leafref")) _ _ tt tt))))))

first_fit : (x y : Option BuiltIn) → IsFitBuiltIn x → IsFitBuiltIn y → IsFitBuiltIn (first_of x y)
first_fit None y f g = g
first_fit (Some b) y f g = f

named_built_in_fit : (name : Option (List ℕ)) → IsFitBuiltIn (named_built_in name)
named_built_in_fit None = tt
named_built_in_fit (Some name) = first_fit (integer_named name) (other_named name) (integer_fit name) (other_fit name)

-- ---- meanings

whole_fit : (d : Derivation) (b : Bool) → IsFit d.built → IsFitMeaning (cond b (Some (plain d)) None)
whole_fit d true fit = fit
whole_fit d false fit = tt

result_fit : (x : Result Derivation StepFault) → IsFitResult x → IsFitMeaning (whole x)
result_fit (Err fault) fit = tt
result_fit (Ok d) fit = whole_fit d (is_none (lacking d.built)) fit

if_fit : (b : Bool) (x : Option Meaning) → IsFitMeaning x → IsFitMeaning (cond b x None)
if_fit true x fit = fit
if_fit false x fit = tt

module _ (rows : List Row) (i : ℕ) where
  restricted_at_fit : (d : Derivation) → IsFit d.built → IsFitMeaning (restricted_at rows i d)
  unfolding restricted_at
  restricted_at_fit d fit = if_fit (is_none (first_below rows i word.Path)) (whole (restricted (restrictions_of rows i) d)) (result_fit (restricted (restrictions_of rows i) d) (restricted_fit (restrictions_of rows i) d fit))

  leads_fit : (o : Option ℕ) → IsFitMeaning (leads_to rows o)
  leads_fit None = tt
  leads_fit (Some p) = if_fit (is_path rows p) (Some (reference p)) tt

  leafref_fit : IsFitMeaning (leafref_at rows i)
  unfolding leafref_at
  leafref_fit = if_fit (is_unrestricted (restrictions_of rows i)) (leads_to rows (first_below rows i word.Path)) (leads_fit (first_below rows i word.Path))

  kept_fit : (p : ℕ) → IsFitMeaning (kept_at rows i p)
  unfolding kept_at
  kept_fit p = if_fit (is_none (first_below rows i word.Path)) (cond (is_unrestricted (restrictions_of rows i)) (Some (reference p)) None) (if_fit (is_unrestricted (restrictions_of rows i)) (Some (reference p)) tt)

  narrowed_fit : (m : Meaning) → IsFitMeaning (Some m) → IsFitMeaning (narrowed_at rows i m)
  narrowed_fit (plain d) fit = restricted_at_fit d fit
  narrowed_fit (reference p) fit = kept_fit p

  either_fit : (b : Bool) (x y : Option Meaning) → IsFitMeaning x → IsFitMeaning y → IsFitMeaning (cond b x y)
  either_fit true x y f g = f
  either_fit false x y f g = g

  built_in_fit : (o : Option BuiltIn) → IsFitBuiltIn o → IsFitMeaning (built_in_at rows i o)
  built_in_fit None fit = tt
  built_in_fit (Some b) fit = either_fit (is_leafref b) (leafref_at rows i) (restricted_at rows i (bare b)) leafref_fit (restricted_at_fit (bare b) fit)

  type_fit : (base : Option Meaning) → IsFitMeaning base → IsFitMeaning (type_meaning rows i base)
  unfolding built_in_named
  type_fit None fit = built_in_fit (built_in_named rows i) (named_built_in_fit (argument_at rows (Some i)))
  type_fit (Some m) fit = narrowed_fit m fit

  from_fit : (base : Option Meaning) (o : Option Row) → IsFitMeaning base → IsFitMeaning (meaning_from rows i base o)
  from_fit base None fit = tt
  from_fit base (Some r) fit = either_fit (is_typed r.word) base (cond (is_type r.word) (type_meaning rows i base) None) fit (if_fit (is_type r.word) (type_meaning rows i base) (type_fit base fit))

  at_fit : (base : Option Meaning) → IsFitMeaning base → IsFitMeaning (meaning_at rows i base)
  unfolding meaning_at
  at_fit base fit = from_fit base (slice_get rows i) fit

first_known_fit : (f : ℕ → Option Meaning) → ((k : ℕ) → IsFitMeaning (f k)) → (ks : List ℕ) (known : List Meaning) → all_there (map f ks) ≡ Some known → IsFitMeaning (first_known known)
first_known_fit f fit ks [] e = tt
first_known_fit f fit [] (m ∷ ms) e = absurd (cc)
first_known_fit f fit (k ∷ ks) (m ∷ ms) e =
    let s = split f k ks (m ∷ ms) e in
    let first : m ≡ s.first = ap (λ (l : List Meaning). get_or l 0 m) s.known_is in
    let here : f k ≡ Some m = s.first_is ∙ ap (λ (x : Meaning). Some x) (sym first) in
    subst (λ (x : Option Meaning). IsFitMeaning x) here (fit k)

step_fit : (rows : List Row) (i : ℕ) (f : ℕ → Option Meaning) → ((k : ℕ) → IsFitMeaning (f k)) → (ks : List ℕ) (o : Option (List Meaning)) → all_there (map f ks) ≡ o → IsFitMeaning (option_and_then (meaning_step rows i) o)
step_fit rows i f fit ks None e = tt
step_fit rows i f fit ks (Some known) e = at_fit rows i (first_known known) (first_known_fit f fit ks known e)

within_fit : (rows : List Row) (typedefs : List (Option ℕ)) (steps i : ℕ) → IsFitMeaning (within (strict (meaning_step rows)) (leads rows typedefs) steps i)
within_fit rows typedefs zero i = tt
within_fit rows typedefs (suc steps) i =
    step_fit rows i (within (strict (meaning_step rows)) (leads rows typedefs) steps) (within_fit rows typedefs steps) (leads rows typedefs i) (all_there (map (within (strict (meaning_step rows)) (leads rows typedefs) steps) (leads rows typedefs i))) refl

meaning_fit : (rows : List Row) (typedefs : List (Option ℕ)) (i : ℕ) → IsFitMeaning (meaning_of rows typedefs i)
unfolding meaning_of
meaning_fit rows typedefs i = within_fit rows typedefs (length rows) i

-- ---- leafs

abbrev IsYang : TypeOfLeaf → Type 0
IsYang t = HasLow t.kind × HasDistinctNames t.kind × HasHeldBounds t.kind

made_fit : (limits : Option (List (ℤ × ℤ))) (b : Built) (t : TypeOfLeaf) → IsFit b → with_limits limits (kind_made b) ≡ Some t → IsYang t
made_fit limits b t fit e = by b fit e
  where
    is : (k : Kind) → HasLow k × HasDistinctNames k × HasHeldBounds k → Some (record { kind = k; limits = limits }) ≡ Some t → IsYang t
    is k yang f = let made : TypeOfLeaf = record { kind = k; limits = limits } in let same : made ≡ t = cc in subst (λ (x : TypeOfLeaf). IsYang x) same yang

    by : (b : Built) → IsFit b → with_limits limits (kind_made b) ≡ Some t → IsYang t
    by (built.integer low high) fit f = is (integer low high) (fit.0, tt, (fit.1, fit.2)) f
    by (built.decimal digits) fit f = is (decimal digits) (tt, tt, tt) f
    by built.boolean fit f = is boolean (tt, tt, tt) f
    by built.string fit f = is string (tt, tt, tt) f
    by (built.names members) fit f = is (enumeration (map member_name members)) (tt, tt, tt) f
    by (built.bits members) fit f = is (bits (names_in_order members)) (tt, in_order_once members fit, tt) f
    by built.empty fit f = is empty (tt, tt, tt) f
    by built.bare_decimal fit f = absurd (cc)
    by built.bare_names fit f = absurd (cc)
    by built.bare_bits fit f = absurd (cc)
    by built.reference fit f = absurd (cc)

plain_fit : (o : Option Meaning) (t : TypeOfLeaf) → IsFitMeaning o → plain_in o ≡ Some t → IsYang t
plain_fit None t fit e = absurd (cc)
plain_fit (Some (plain d)) t fit e = made_fit d.limits d.built t fit e
plain_fit (Some (reference p)) t fit e = absurd (cc)

plain_at_fit : (rows : List Row) (typedefs : List (Option ℕ)) (o : Option ℕ) (t : TypeOfLeaf) → plain_at rows typedefs o ≡ Some t → IsYang t
unfolding plain_type
plain_at_fit rows typedefs None t e = absurd (cc)
plain_at_fit rows typedefs (Some i) t e = plain_fit (meaning_of rows typedefs i) t (meaning_fit rows typedefs i) e

module _ (typedefs : List (Option ℕ)) (tree : Expanded) where
  step_yang : (f : ℕ → Option TypeOfLeaf) → ((k : ℕ) (t : TypeOfLeaf) → f k ≡ Some t → IsYang t) → (x : ℕ) (ks : List ℕ) (known : List TypeOfLeaf) (t : TypeOfLeaf)
      → all_there (map f ks) ≡ Some known → type_step typedefs tree x known ≡ Some t → IsYang t
  step_yang f yang x ks [] t e made = plain_at_fit tree.rows typedefs (row_of tree.nodes x) t made
  step_yang f yang x [] (k ∷ known) t e made = absurd (cc)
  step_yang f yang x (j ∷ js) (k ∷ known) t e made =
      let s = split f j js (k ∷ known) e in
      let first : k ≡ s.first = ap (λ (l : List TypeOfLeaf). get_or l 0 k) s.known_is in
      yang j t (s.first_is ∙ ap (λ (y : TypeOfLeaf). Some y) (sym first) ∙ made)

  within_yang : (steps x : ℕ) (t : TypeOfLeaf) → worth_within (strict (type_step typedefs tree)) (targets typedefs tree) steps x ≡ Some t → IsYang t
  within_yang zero x t e = absurd (cc)
  within_yang (suc steps) x t e =
      let u = unfold_one (type_step typedefs tree) (targets typedefs tree) steps x t e in
      step_yang (worth_within (strict (type_step typedefs tree)) (targets typedefs tree) steps) (within_yang steps) x (targets typedefs tree x) u.known t u.there u.made

  -- the type of a node is one of YANG
  pub type_yang : (x : ℕ) (t : TypeOfLeaf) → type_of_node typedefs tree x ≡ Some t → HasLow t.kind × HasDistinctNames t.kind × HasHeldBounds t.kind
  unfolding type_of_node worth_of
  type_yang x t e = within_yang (length tree.nodes) x t e
