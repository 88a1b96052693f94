-- Types in which no fault is found have a meaning (RFC 7950 sections 7.3, 7.4 and 9).
use Rattle.std.proofs.Common.{◌≡◌, ◌∙◌, ◌<◌, ◌⊎◌, inl, inr, ℕ, zero, suc, List, [], ◌∷◌, length, map, Bool, true, false, cond, ◌||◌, Option, Some, None, Result, slice_get, slice_index_or, refl, sym, ap, subst, arith, codes}
use Rattle.std.specs.Prelude.{Contains, is_some, is_none}
use Rattle.std.specs.Option.{option_map, option_and_then}
use Rattle.std.specs.Str.{bytes_eq}
use Rattle.nm_schema_statements.specs.declared.row.Row.{Row}
use Rattle.nm_schema_statements.specs.declared.word.Word.{Word}
use Rattle.nm_schema_statements.specs.declared.word.Word.TheVariants as word
use Rattle.nm_schema_statements.specs.declared.flaw.Flaw.TheVariants as flaw
use Rattle.nm_schema_statements.specs.declared.fault.Fault.{Fault}
use Rattle.nm_schema_statements.specs.declared.fault.Fault.TheVariants as fault
use Rattle.nm_schema_statements.specs.Word.{word_text}
use Rattle.nm_schema_statements.specs.Text.{is_number_type, is_plain_type, is_left_out_type, is_builtin}
use Rattle.nm_schema_statements.specs.Flaw.{is_there, lack, lack_fault, text_of, left_out, word_above}
use Rattle.nm_schema_statements.specs.Rows.{has_word, children, first_below}
use Rattle.nm_schema_statements.proofs.Words.{same_words, same_itself}
use Rattle.nm_graph.specs.Value.{strict, all_there}
use Rattle.nm_schema_names.specs.Leads.{definition, argument_leads, row_leads, leads_to as names_to}
use Rattle.nm_schema_names.specs.Flaw.{type_flaw as name_type_flaw, reference_flaw, text_flaw, argument_flaw, row_flaw, name_flaw}
use Rattle.nm_schema_uses.specs.Config.{LeadsBy}
use Rattle.nm_schema_uses.specs.Worth.{worth_within}
use Rattle.nm_schema_derive.specs.declared.names.BuiltIn.{BuiltIn}
use Rattle.nm_schema_derive.specs.declared.names.BuiltIn.TheVariants.{Leafref}
use Rattle.nm_schema_derive.specs.declared.members.Listed.{Listed}
use Rattle.nm_schema_derive.specs.declared.members.Numbering.TheVariants.{Values, Positions}
use Rattle.nm_schema_derive.specs.declared.derived.StepFault.{StepFault}
use Rattle.nm_schema_derive.specs.declared.derived.Lacking.{Lacking}
use Rattle.nm_schema_derive.specs.BuiltIn.{integer_named, other_named, first_of, built_in_of}
use Rattle.nm_schema_derive.specs.Built.{Built, Derivation}
use Rattle.nm_schema_derive.specs.Built as built
use Rattle.nm_schema_derive.specs.Step.{with_digits, with_range, with_length}
use Rattle.nm_schema_derive.specs.Restricted.{digits_if, names_if, bits_if}
use Rattle.nm_schema_typing.specs.Restricting.{argument_in, argument_at, argument_below, rows_with, listed_at, restrictions_of}
use Rattle.nm_schema_typing.specs.TypeGraph.{is_typed, is_type, typedef_at, named_typedef, at_most_one, type_below, leads}
use Rattle.nm_schema_typing.specs.Leafref.{LeafrefPath, path_read, has_predicate}
use Rattle.nm_schema_typing.specs.Meaning.{Meaning, plain, reference, is_unrestricted, whole, restricted, restricted_at, is_present, is_path, leads_to, leafref_at, kept_at, narrowed_at, is_leafref, bare, built_in_at, built_in_named, named_built_in, type_meaning, meaning_from, meaning_at, first_known, meaning_step}
use Rattle.nm_schema_typing.specs.Along.{within as within_steps, meaning_of}
use Rattle.nm_schema_typing.specs.Flaws.{to_restrict, base_by, base_of, base_above, flaw_on, kept, after_digits, restricted_by, restriction_in, restriction_flaw, takes_path, takes_path_by, is_built_in_leafref, path_form, form_flaw, path_in, path_below, path_flaw, needs, needs_what, lacking_in, lacking_flaw}
use Rattle.nm_schema_typing.specs.Listing.{with_listed}
use Rattle.nm_schema_typing.specs.TypeFlaw.{flaw_by, flaw_in, type_flaw}
use Rattle.nm_schema_faults.specs.Facts.{Facts, definitions}
use Rattle.nm_schema.specs.Faultless.{AreFaultless}
use Rattle.nm_schema_nodes.proofs.Unfolding.{split}
use Rattle.nm_schema.proofs.Elements.{nothing, first_or_later}
use Rattle.nm_schema.proofs.Faultless.{within}
use Rattle.nm_schema.proofs.Naming.{grammar_parts}
use Rattle.nm_schema.proofs.Orderly.{HasWord, definition_worded, grouping_is, argued, there_is}
use Rattle.nm_schema.proofs.Valued.{IsFounded, is_known, stays_known}
use Rattle.nm_schema.proofs.Restricted.{IsFine, AreFine, IsMade, taken, no_digits, no_range, no_length, no_names, no_bits, takes_digits, takes_range, takes_length, takes_names, takes_bits}
use Rattle.nm_schema.proofs.Listings.{StandsIn, first_stands, those_have, listed_taken}

-- ---- values along rows

map_same : {X Y : Type 0} (f g : X → Y) → ((x : X) → f x ≡ g x) → (xs : List X) → map f xs ≡ map g xs
map_same f g h [] = refl
map_same f g h (x ∷ xs) = rw (h x, map_same f g h xs) refl

pub same_within : {Y : Type 0} (step : ℕ → List Y → Option Y) (next : ℕ → List ℕ) (steps i : ℕ) → within_steps (strict step) next steps i ≡ worth_within (strict step) next steps i
same_within step next zero i = refl
same_within step next (suc steps) i = ap (λ (l : List (Option _)). strict step i l) (map_same (within_steps (strict step) next steps) (worth_within (strict step) next steps) (same_within step next steps) (next i))

-- ---- names of built-in types

or_some : (a b : Option BuiltIn) → is_some b ≡ true → is_some (first_of a b) ≡ true
or_some (Some x) b e = refl
or_some None b e = e

one_of : (b rest : Bool) (x : BuiltIn) (o : Option BuiltIn) → (rest ≡ true → is_some o ≡ true) → cond b true rest ≡ true → is_some (cond b (Some x) o) ≡ true
one_of true rest x o more e = refl
one_of false rest x o more e = more e

one_of_first : (b rest : Bool) (x : BuiltIn) (o other : Option BuiltIn) → (rest ≡ true → is_some (first_of o other) ≡ true) → cond b true rest ≡ true → is_some (first_of (cond b (Some x) o) other) ≡ true
one_of_first true rest x o other more e = refl
one_of_first false rest x o other more e = more e

passed : (b : Bool) (x : BuiltIn) (o : Option BuiltIn) → is_some o ≡ true → is_some (cond b (Some x) o) ≡ true
passed true x o e = refl
passed false x o e = e

never : (o : Option BuiltIn) → false ≡ true → is_some o ≡ true
never o e = absurd (cc)

number_named : (name : List ℕ) → is_number_type name ≡ true → is_some (built_in_of name) ≡ true
unfolding is_number_type integer_named other_named
number_named name e =
    one_of_first (bytes_eq name (codes "int8")) _ _ _ _ (
    one_of_first (bytes_eq name (codes "int16")) _ _ _ _ (
    one_of_first (bytes_eq name (codes "int32")) _ _ _ _ (
    one_of_first (bytes_eq name (codes "int64")) _ _ _ _ (
    one_of_first (bytes_eq name (codes "uint8")) _ _ _ _ (
    one_of_first (bytes_eq name (codes "uint16")) _ _ _ _ (
    one_of_first (bytes_eq name (codes "uint32")) _ _ _ _ (
    one_of_first (bytes_eq name (codes "uint64")) _ _ _ _ (
    one_of (bytes_eq name (codes "decimal64")) false _ _ (never _))))))))) e

plain_named : (name : List ℕ) → is_plain_type name ≡ true → is_some (other_named name) ≡ true
unfolding is_plain_type other_named
plain_named name e =
    passed (bytes_eq name (codes "decimal64")) _ _ (
    one_of (bytes_eq name (codes "boolean")) _ _ _ (
    one_of (bytes_eq name (codes "string")) _ _ _ (
    one_of (bytes_eq name (codes "enumeration")) _ _ _ (
    one_of (bytes_eq name (codes "bits")) _ _ _ (
    one_of (bytes_eq name (codes "empty")) _ _ _ (
    one_of (bytes_eq name (codes "leafref")) false _ None (never None)))))) e)

-- the name of a built-in type that isn't left out is that of one
built_in_there : (name : List ℕ) → is_builtin name ≡ true → is_left_out_type name ≡ false → is_some (built_in_of name) ≡ true
built_in_there name e left = by (is_number_type name) (is_plain_type name) refl refl e
  where
    by : (a b : Bool) → is_number_type name ≡ a → is_plain_type name ≡ b → (a || b || is_left_out_type name) ≡ true → is_some (built_in_of name) ≡ true
    by true b is other f = number_named name is
    by false true is other f = or_some (integer_named name) (other_named name) (plain_named name other)
    by false false is other f = absurd (let no : false ≡ true = sym left ∙ f in cc)

-- ---- rows of types

record IsTypedRow (rows : List Row) (i : ℕ) : Type 0 where
  row : Row
  there : slice_get rows i ≡ Some row
  sort : (is_typed row.word ≡ true) ⊎ (row.word ≡ word.«Type»)

lacks_type : (rows : List Row) (i : ℕ) (w : Word) → is_typed w ≡ true → lack_fault rows i w ≡ None → lack rows i word.«Type» ≡ None
lacks_type rows i word.Typedef t e = e
lacks_type rows i word.Leaf t e = e
lacks_type rows i word.LeafList t e = e
lacks_type rows i _ t e = absurd (cc)

not_lacking : (rows : List Row) (i : ℕ) (o : Option ℕ) (f : Fault) → cond (is_there o) None (Some f) ≡ None → (n : ℕ) × (o ≡ Some n)
not_lacking rows i None f e = absurd (cc)
not_lacking rows i (Some n) f e = (n, refl)

module _ (rows : List Row) (facts : Facts) (all : AreFaultless rows facts) where
  abbrev defs : List (Option ℕ)
  defs = definitions rows

  pub argument_there : (i : ℕ) (r : Row) → slice_get rows i ≡ Some r → r.argument ≡ Some (text_of r.argument)
  argument_there i r is = argued r.word r.argument (grammar_parts rows i r is (all.each i r is).grammar).2

  typed_none : (i : ℕ) (r : Row) (w : Word) → slice_get rows i ≡ Some r → r.word ≡ w → flaw_by rows defs i r w ≡ None
  unfolding type_flaw
  typed_none i r w is at = sym (ap (λ (x : Word). flaw_by rows defs i r x) at) ∙ sym (ap (flaw_in rows defs i) is) ∙ (all.each i r is).typed

  -- ---- where types come from

  -- a typedef, leaf or leaf-list has a type
  pub type_there : (i : ℕ) (r : Row) → slice_get rows i ≡ Some r → is_typed r.word ≡ true → (n : ℕ) × (first_below rows i word.«Type» ≡ Some n)
  type_there i r is t =
      let lacks = lacks_type rows i r.word t (grammar_parts rows i r is (all.each i r is).grammar).1 in
      not_lacking rows i (first_below rows i word.«Type») (fault.Lacks word.«Type») lacks

  leads_typed : (i : ℕ) (r : Row) → slice_get rows i ≡ Some r → is_typed r.word ≡ true → leads rows defs i ≡ type_below rows i
  unfolding leads
  leads_typed i r is t = rw (is, t) refl

  leads_type : (i : ℕ) (r : Row) → slice_get rows i ≡ Some r → r.word ≡ word.«Type» → leads rows defs i ≡ named_typedef rows defs i
  unfolding leads
  leads_type i r is w = rw (is, w) refl

  at_typedef : (o : Option ℕ) (k : ℕ) → Contains (typedef_at rows o) k → has_word word.Typedef (slice_get rows k) ≡ true
  at_typedef None k c = absurd (nothing k c)
  at_typedef (Some n) k c = by (has_word word.Typedef (slice_get rows n)) refl c
    where
      by : (b : Bool) → has_word word.Typedef (slice_get rows n) ≡ b → Contains (cond b (n ∷ []) []) k → has_word word.Typedef (slice_get rows k) ≡ true
      by true has d = elim (first_or_later n k [] d) [
        | inl same ↦ subst (λ (x : ℕ). has_word word.Typedef (slice_get rows x) ≡ true) same has
        | inr more ↦ absurd (nothing k more)
      ]
      by false has d = absurd (nothing k d)

  typedef_row : (k : ℕ) (o : Option Row) → slice_get rows k ≡ o → has_word word.Typedef o ≡ true → IsTypedRow rows k
  typedef_row k None is e = absurd (cc)
  typedef_row k (Some r) is e = record { row = r; there = is; sort = inl (ap is_typed (same_words r.word word.Typedef e)) }

  on_type : (i k : ℕ) → Contains (named_typedef rows defs i) k → IsTypedRow rows k
  unfolding named_typedef
  on_type i k c = typedef_row k (slice_get rows k) refl (at_typedef (slice_index_or defs i None) k c)

  on_typed : (i k : ℕ) (o : Option ℕ) → first_below rows i word.«Type» ≡ o → Contains (at_most_one o) k → IsTypedRow rows k
  on_typed i k None is c = absurd (nothing k c)
  on_typed i k (Some n) is c = elim (first_or_later n k [] c) [
    | inl same ↦
        let s = first_stands rows i n word.«Type» is in
        subst (λ (x : ℕ). IsTypedRow rows x) same (record { row = s.row; there = s.there; sort = inr s.word_is })
    | inr more ↦ absurd (nothing k more)
  ]

  on : (i k : ℕ) → IsTypedRow rows i → Contains (leads rows defs i) k → IsTypedRow rows k
  unfolding type_below
  on i k t c = by t.sort
    where
      by : (is_typed t.row.word ≡ true) ⊎ (t.row.word ≡ word.«Type») → IsTypedRow rows k
      by (inl typed) = on_typed i k (first_below rows i word.«Type») refl (subst (λ (l : List ℕ). Contains l k) (leads_typed i t.row t.there typed) c)
      by (inr w) = on_type i k (subst (λ (l : List ℕ). Contains l k) (leads_type i t.row t.there w) c)

  -- ---- what stands in a type

  has_type : (i : ℕ) (r : Row) → slice_get rows i ≡ Some r → r.word ≡ word.«Type» → has_word word.«Type» (slice_get rows i) ≡ true
  has_type i r is w = ap (has_word word.«Type») is ∙ same_itself r.word word.«Type» w

  above_is : (i : ℕ) (r : Row) (d : Derivation) → slice_get rows i ≡ Some r → r.word ≡ word.«Type» → base_of rows defs i ≡ Some d → base_above rows defs (Some i) ≡ Some d
  unfolding base_above
  above_is i r d is w base = ap (λ (b : Bool). cond b (base_of rows defs i) None) (has_type i r is w) ∙ base

  -- the argument of a row that stands in a type
  argument_is : (i k : ℕ) (w : Word) → first_below rows i w ≡ Some k → (s : StandsIn rows i k w) → argument_below rows i w ≡ s.row.argument
  argument_is i k w first s = ap (argument_at rows) first ∙ ap argument_in s.there

  module _ (i : ℕ) (r : Row) (is : slice_get rows i ≡ Some r) (w : r.word ≡ word.«Type») (d : Derivation) (base : base_of rows defs i ≡ Some d) where
    restriction_none : (k : ℕ) (x : Word) (s : StandsIn rows i k x) (text : List ℕ) → s.row.argument ≡ Some text → restriction_flaw rows defs s.row ≡ None → flaw_on s.row.keyword (restricted_by rows s.row text d x) ≡ None
    unfolding restriction_flaw
    restriction_none k x s text argument none =
        sym (ap (λ (y : Word). flaw_on s.row.keyword (restricted_by rows s.row text d y)) s.word_is)
        ∙ sym (ap (λ (o : Option ℕ). restriction_in rows s.row (Some text) (base_above rows defs o)) s.parent ∙ ap (restriction_in rows s.row (Some text)) (above_is i r d is w base))
        ∙ sym (ap (λ (a : Option (List ℕ)). restriction_in rows s.row a (base_above rows defs s.row.parent)) argument) ∙ none

    -- what a word restricts has no flaw
    record IsFineBelow (x : Word) (f : List ℕ → Result Derivation StepFault) : Type 0 where
      keyword : List ℕ
      fine : IsFine keyword f (argument_below rows i x)

    fine_by : (x : Word) (f : List ℕ → Result Derivation StepFault) → ((k : ℕ) (s : StandsIn rows i k x) (text : List ℕ) → s.row.argument ≡ Some text → flaw_on s.row.keyword (f text) ≡ None) → (o : Option ℕ) → first_below rows i x ≡ o → IsFineBelow x f
    fine_by x f none None first = record { keyword = []; fine = subst (λ (a : Option (List ℕ)). IsFine [] f a) (sym (ap (argument_at rows) first)) tt }
    fine_by x f none (Some k) first =
        let s = first_stands rows i k x first in
        let there = argument_there k s.row s.there in
        let argument : argument_below rows i x ≡ Some (text_of s.row.argument) = argument_is i k x first s ∙ there in
        record { keyword = s.row.keyword; fine = subst (λ (a : Option (List ℕ)). IsFine s.row.keyword f a) (sym argument) (none k s (text_of s.row.argument) there) }

    fine_digits : IsFineBelow word.FractionDigits (with_digits d)
    fine_digits = fine_by word.FractionDigits (with_digits d) (λ k s text argument. restriction_none k word.FractionDigits s text argument (typed_none k s.row word.FractionDigits s.there s.word_is)) (first_below rows i word.FractionDigits) refl

    fine_length : IsFineBelow word.Length (with_length d)
    fine_length = fine_by word.Length (with_length d) (λ k s text argument. restriction_none k word.Length s text argument (typed_none k s.row word.Length s.there s.word_is)) (first_below rows i word.Length) refl

    fine_range : IsFineBelow word.Range (with_range (kept d (digits_if d (argument_below rows i word.FractionDigits))))
    unfolding after_digits
    fine_range = fine_by word.Range (with_range (kept d (digits_if d (argument_below rows i word.FractionDigits)))) one (first_below rows i word.Range) refl
      where
        one : (k : ℕ) (s : StandsIn rows i k word.Range) (text : List ℕ) → s.row.argument ≡ Some text → flaw_on s.row.keyword (with_range (kept d (digits_if d (argument_below rows i word.FractionDigits))) text) ≡ None
        one k s text argument =
            let e = restriction_none k word.Range s text argument (typed_none k s.row word.Range s.there s.word_is) in
            sym (ap (λ (o : Option ℕ). flaw_on s.row.keyword (with_range (after_digits rows o d) text)) s.parent) ∙ e

    listed_is : (l : List Listed) (x : Derivation) → with_listed Values x l ≡ names_if x l
    listed_is [] x = refl
    listed_is (s ∷ ss) x = refl

    bits_are : (l : List Listed) (x : Derivation) → with_listed Positions x l ≡ bits_if x l
    bits_are [] x = refl
    bits_are (s ∷ ss) x = refl

    -- what a type can't do without stands in it
    needed : (x : Word) → needs rows i x ≡ None → (k : ℕ) × (first_below rows i x ≡ Some k)
    needed x e = by (first_below rows i x) refl e
      where
        by : (o : Option ℕ) → first_below rows i x ≡ o → cond (is_none o) (Some (flaw.BadArgument (word_text x))) None ≡ None → (k : ℕ) × (first_below rows i x ≡ Some k)
        by None first f = absurd (cc)
        by (Some k) first f = (k, first)

    some_with : (x : Word) (k : ℕ) → first_below rows i x ≡ Some k → Contains (rows_with rows i x) k
    unfolding rows_with
    some_with x k first = those_have rows x (children rows i) k first

    some_listed : (x y : Word) (l : List Listed) → map (listed_at rows y) (rows_with rows i x) ≡ l → (k : ℕ) → first_below rows i x ≡ Some k → l ≡ [] → ⊥
    some_listed x y l are k first none = by (rows_with rows i x) (some_with x k first) (are ∙ none)
      where
        by : (ks : List ℕ) → Contains ks k → map (listed_at rows y) ks ≡ [] → ⊥
        by [] c e = nothing k c
        by (j ∷ ks) c e = absurd (cc)

    module _ (lack_none : lacking_in rows i (Some d) ≡ None) where
      are_fine : AreFine (restrictions_of rows i) d
      unfolding restrictions_of
      are_fine =
          let digits = fine_digits in
          let range = fine_range in
          let length = fine_length in
          let names = listed_taken rows facts all i d (above_is i r d is w base) Values in
          let bits = listed_taken rows facts all i d (above_is i r d is w base) Positions in
          record {
            at_digits = digits.keyword;
            at_range = range.keyword;
            at_length = length.keyword;
            digits = digits.fine;
            range = range.fine;
            length = length.fine;
            names = (names.0, sym (listed_is (map (listed_at rows word.Value) (rows_with rows i word.Enum)) d) ∙ names.1);
            bits = (bits.0, sym (bits_are (map (listed_at rows word.Position) (rows_with rows i word.Bit)) d) ∙ bits.1);
            needs_digits = λ e. (
                let k = needed word.FractionDigits (sym (ap (needs_what rows i) e) ∙ lack_none) in
                let s = first_stands rows i k.0 word.FractionDigits k.1 in
                ap (λ (o : Option (List ℕ)). is_some o) (argument_is i k.0 word.FractionDigits k.1 s ∙ argument_there k.0 s.row s.there)
                );
            needs_names = λ e. (let k = needed word.Enum (sym (ap (needs_what rows i) e) ∙ lack_none) in some_listed word.Enum word.Value (map (listed_at rows word.Value) (rows_with rows i word.Enum)) refl k.0 k.1);
            needs_bits = λ e. (let k = needed word.Bit (sym (ap (needs_what rows i) e) ∙ lack_none) in some_listed word.Bit word.Position (map (listed_at rows word.Position) (rows_with rows i word.Bit)) refl k.0 k.1);
          }

      whole_made : (m : IsMade (restrictions_of rows i) d) → whole (restricted (restrictions_of rows i) d) ≡ Some (plain m.made)
      whole_made m = ap whole m.is ∙ ap (λ (o : Option Lacking). cond (is_none o) (Some (plain m.made)) None) m.whole

      -- a type that is no leafref has a meaning
      restricted_known : first_below rows i word.Path ≡ None → (m : Meaning) × (restricted_at rows i d ≡ Some m)
      unfolding restricted_at
      restricted_known none = let m = taken (restrictions_of rows i) d are_fine in (plain m.made, ap (λ (o : Option ℕ). cond (is_none o) (whole (restricted (restrictions_of rows i) d)) None) none ∙ whole_made m)

    -- ---- paths, and types that take no restriction

    path_none : (p : ℕ) (s : StandsIn rows i p word.Path) → path_in (takes_path rows defs i) (Some d) (Some (text_of s.row.argument)) ≡ None
    unfolding path_flaw
    path_none p s =
        sym (ap (λ (o : Option Derivation). path_in (takes_path rows defs i) o (Some (text_of s.row.argument))) (above_is i r d is w base))
        ∙ sym (ap (path_in (takes_path rows defs i) (base_above rows defs (Some i))) (argument_there p s.row s.there))
        ∙ sym (ap (path_below rows defs s.row) s.parent)
        ∙ typed_none p s.row word.Path s.there s.word_is

    -- `path` stands in the built-in leafref alone
    no_path : takes_path rows defs i ≡ false → first_below rows i word.Path ≡ None
    no_path takes = by (first_below rows i word.Path) refl
      where
        by : (o : Option ℕ) → first_below rows i word.Path ≡ o → o ≡ None
        by None first = refl
        by (Some p) first =
            let s = first_stands rows i p word.Path first in
            let no : path_in false (Some d) (Some (text_of s.row.argument)) ≡ None = sym (ap (λ (b : Bool). path_in b (Some d) (Some (text_of s.row.argument))) takes) ∙ path_none p s in
            absurd (cc)

    formed : (text : List ℕ) (b : Bool) (o : Option LeafrefPath) → path_read text ≡ o → cond b (Some (flaw.Unsupported (word_text word.Path))) (form_flaw o) ≡ None → is_present (path_read text) ≡ true
    formed text true o is e = absurd (cc)
    formed text false None is e = absurd (cc)
    formed text false (Some path) is e = ap is_present is

    -- and is a path there
    path_there : takes_path rows defs i ≡ true → (p : ℕ) → first_below rows i word.Path ≡ Some p → is_path rows p ≡ true
    unfolding path_form is_path
    path_there takes p first =
        let s = first_stands rows i p word.Path first in
        let text : List ℕ = text_of s.row.argument in
        let e : path_form text ≡ None = sym (ap (λ (b : Bool). path_in b (Some d) (Some text)) takes) ∙ path_none p s in
        ap (λ (o : Option Row). is_present (path_read (text_of (argument_in o)))) s.there ∙ formed text (has_predicate text) (path_read text) refl e

    unrestricted : d.built ≡ built.reference → is_unrestricted (restrictions_of rows i) ≡ true
    unfolding restrictions_of
    unrestricted of_reference =
        let b : Built = d.built in
        let digits = fine_digits in
        let range = fine_range in
        let length = fine_length in
        let names = listed_taken rows facts all i d (above_is i r d is w base) Values in
        let bits = listed_taken rows facts all i d (above_is i r d is w base) Positions in
        let none_digits = no_digits d.limits digits.keyword b (argument_below rows i word.FractionDigits) (ap takes_digits of_reference) digits.fine in
        let after : IsFine range.keyword (with_range d) (argument_below rows i word.Range) = subst (λ (o : Option (List ℕ)). IsFine range.keyword (with_range (kept d (digits_if d o))) (argument_below rows i word.Range)) none_digits range.fine in
        let none_range = no_range d.limits range.keyword b (argument_below rows i word.Range) (ap takes_range of_reference) after in
        let none_length = no_length d.limits length.keyword b (argument_below rows i word.Length) (ap takes_length of_reference) length.fine in
        let none_names = no_names d.limits [] b (map (listed_at rows word.Value) (rows_with rows i word.Enum)) (ap takes_names of_reference) (names.0, sym (listed_is (map (listed_at rows word.Value) (rows_with rows i word.Enum)) d) ∙ names.1) in
        let none_bits = no_bits d.limits [] b (map (listed_at rows word.Position) (rows_with rows i word.Bit)) (ap takes_bits of_reference) (bits.0, sym (bits_are (map (listed_at rows word.Position) (rows_with rows i word.Bit)) d) ∙ bits.1) in
        rw (none_digits, none_range, none_length, none_names, none_bits) refl

  -- ---- the meaning of a type

  lacking_none : (i : ℕ) (r : Row) → slice_get rows i ≡ Some r → r.word ≡ word.«Type» → lacking_flaw rows defs i ≡ None
  lacking_none i r is w = typed_none i r word.«Type» is w

  lacks_none : (i : ℕ) (r : Row) (d : Derivation) → slice_get rows i ≡ Some r → r.word ≡ word.«Type» → takes_path rows defs i ≡ false → base_of rows defs i ≡ Some d → lacking_in rows i (Some d) ≡ None
  unfolding lacking_flaw
  lacks_none i r d is w takes base =
      sym (ap (λ (b : Bool). cond b (needs rows i word.Path) (lacking_in rows i (base_of rows defs i))) takes ∙ ap (lacking_in rows i) base) ∙ lacking_none i r is w

  needs_none : (i : ℕ) (r : Row) → slice_get rows i ≡ Some r → r.word ≡ word.«Type» → takes_path rows defs i ≡ true → needs rows i word.Path ≡ None
  unfolding lacking_flaw
  needs_none i r is w takes = sym (ap (λ (b : Bool). cond b (needs rows i word.Path) (lacking_in rows i (base_of rows defs i))) takes) ∙ lacking_none i r is w

  -- a type that is no leafref
  own_known : (i : ℕ) (r : Row) (d : Derivation) → slice_get rows i ≡ Some r → r.word ≡ word.«Type» → takes_path rows defs i ≡ false → base_of rows defs i ≡ Some d → (m : Meaning) × (restricted_at rows i d ≡ Some m)
  own_known i r d is w takes base = restricted_known i r is w d base (lacks_none i r d is w takes base) (no_path i r is w d base takes)

  -- a leafref
  leafref_known : (i : ℕ) (r : Row) → slice_get rows i ≡ Some r → r.word ≡ word.«Type» → takes_path rows defs i ≡ true → base_of rows defs i ≡ Some (bare Leafref) → (m : Meaning) × (leafref_at rows i ≡ Some m)
  unfolding leafref_at
  leafref_known i r is w takes base =
      let k = needed i r is w (bare Leafref) base word.Path (needs_none i r is w takes) in
      let path = path_there i r is w (bare Leafref) base takes k.0 k.1 in
      (reference k.0, ap (λ (b : Bool). cond b (leads_to rows (first_below rows i word.Path)) None) (unrestricted i r is w (bare Leafref) base refl) ∙ ap (leads_to rows) k.1 ∙ ap (λ (b : Bool). cond b (Some (reference k.0)) None) path)

  -- a type that names a leafref
  kept_known : (i : ℕ) (r : Row) (p : ℕ) → slice_get rows i ≡ Some r → r.word ≡ word.«Type» → takes_path rows defs i ≡ false → base_of rows defs i ≡ Some (bare Leafref) → (m : Meaning) × (kept_at rows i p ≡ Some m)
  unfolding kept_at
  kept_known i r p is w takes base =
      (reference p, ap (λ (o : Option ℕ). cond (is_none o) (cond (is_unrestricted (restrictions_of rows i)) (Some (reference p)) None) None) (no_path i r is w (bare Leafref) base takes) ∙ ap (λ (b : Bool). cond b (Some (reference p)) None) (unrestricted i r is w (bare Leafref) base refl))

  -- ---- what a type names

  name_none : (i : ℕ) (r : Row) → slice_get rows i ≡ Some r → r.word ≡ word.«Type» → name_type_flaw rows i (text_of r.argument) ≡ None
  unfolding name_flaw
  name_none i r is w =
      let a : argument_flaw rows i r r.argument ≡ None = sym (ap (row_flaw rows i) is) ∙ (all.each i r is).name in
      let b : argument_flaw rows i r (Some (text_of r.argument)) ≡ None = sym (ap (argument_flaw rows i r) (argument_there i r is)) ∙ a in
      sym (ap (λ (x : Word). text_flaw rows i r x (text_of r.argument)) w) ∙ b

  leads_named : (i : ℕ) (r : Row) → slice_get rows i ≡ Some r → r.word ≡ word.«Type» → slice_index_or defs i None ≡ cond (is_builtin (text_of r.argument)) None (definition rows i word.Typedef (text_of r.argument))
  unfolding names_to
  leads_named i r is w =
      grouping_is rows i r is ∙ ap (row_leads rows i) is ∙ ap (λ (x : Word). argument_leads rows i x r.argument) w ∙ ap (argument_leads rows i word.«Type») (argument_there i r is)

  text_named : (i : ℕ) (r : Row) → slice_get rows i ≡ Some r → argument_at rows (Some i) ≡ Some (text_of r.argument)
  text_named i r is = ap argument_in is ∙ argument_there i r is

  some_built : (o : Option BuiltIn) → is_some o ≡ true → (b : BuiltIn) × (o ≡ Some b)
  some_built None e = absurd (cc)
  some_built (Some b) e = (b, refl)

  left_none : (i : ℕ) (r : Row) → slice_get rows i ≡ Some r → r.word ≡ word.«Type» → is_left_out_type (text_of r.argument) ≡ false
  left_none i r is w =
      let text : List ℕ = text_of r.argument in
      let e : left_out (word_above rows r.parent) word.«Type» text ≡ None = sym (ap (λ (x : Word). left_out (word_above rows r.parent) x text) w) ∙ (grammar_parts rows i r is (all.each i r is).grammar).3 in
      by (is_left_out_type text) e
    where
      by : (b : Bool) → cond b (Some fault.UnsupportedType) None ≡ None → b ≡ false
      by true f = absurd (cc)
      by false f = refl

  -- a type that names no typedef names a built-in type
  built_named : (i : ℕ) (r : Row) → slice_get rows i ≡ Some r → r.word ≡ word.«Type» → named_typedef rows defs i ≡ [] → (b : BuiltIn) × (built_in_named rows i ≡ Some b)
  unfolding named_typedef built_in_named
  built_named i r is w none = by (is_builtin text) refl
    where
      text : List ℕ
      text = text_of r.argument

      typedef_listed : (n : ℕ) (s : Row) → slice_get rows n ≡ Some s → s.word ≡ word.Typedef → typedef_at rows (Some n) ≡ n ∷ []
      typedef_listed n s at sort = ap (λ (b : Bool). cond b (n ∷ []) []) (ap (has_word word.Typedef) at ∙ same_itself s.word word.Typedef sort)

      defined : (o : Option ℕ) → definition rows i word.Typedef text ≡ o → HasWord rows word.Typedef o → is_some o ≡ true → typedef_at rows o ≡ [] → ⊥
      defined None at has some e = absurd (cc)
      defined (Some n) at has some e = let no : n ∷ [] ≡ [] = sym (typedef_listed n has.0 has.1 has.2) ∙ e in absurd (cc)

      by : (b : Bool) → is_builtin text ≡ b → (b : BuiltIn) × (named_built_in (argument_at rows (Some i)) ≡ Some b)
      by true is_built =
          let s = some_built (built_in_of text) (built_in_there text is_built (left_none i r is w)) in
          (s.0, ap named_built_in (text_named i r is) ∙ s.1)
      by false not_built =
          let e : reference_flaw (definition rows i word.Typedef text) text ≡ None = sym (ap (λ (b : Bool). cond b None (reference_flaw (definition rows i word.Typedef text) text)) not_built) ∙ name_none i r is w in
          let some = there_is (is_some (definition rows i word.Typedef text)) (flaw.BadReference text) e in
          let at : slice_index_or defs i None ≡ definition rows i word.Typedef text = leads_named i r is w ∙ ap (λ (b : Bool). cond b None (definition rows i word.Typedef text)) not_built in
          absurd (defined (definition rows i word.Typedef text) refl (definition_worded rows word.Typedef i text) some (sym (ap (typedef_at rows) at) ∙ none))

  leafref_is : (b : BuiltIn) → is_leafref b ≡ true → b ≡ Leafref
  leafref_is Leafref e = refl
  leafref_is _ e = absurd (cc)

  -- the meaning of a type, by that of the typedef that it names, or by its built-in type
  built_known : (i : ℕ) (r : Row) → slice_get rows i ≡ Some r → r.word ≡ word.«Type» → named_typedef rows defs i ≡ [] → (m : Meaning) × (type_meaning rows i None ≡ Some m)
  unfolding base_of takes_path
  built_known i r is w none = by b.0 b.1 (is_leafref b.0) refl
    where
      b : (b : BuiltIn) × (built_in_named rows i ≡ Some b)
      b = built_named i r is w none

      by : (b : BuiltIn) → built_in_named rows i ≡ Some b → (c : Bool) → is_leafref b ≡ c → (m : Meaning) × (built_in_at rows i (built_in_named rows i) ≡ Some m)
      by b named true leafref =
          let at = leafref_is b leafref in
          let takes : takes_path rows defs i ≡ true = ap (takes_path_by rows i) none ∙ ap is_built_in_leafref named ∙ leafref in
          let base : base_of rows defs i ≡ Some (bare Leafref) = ap (base_by rows defs i) none ∙ ap (option_map bare) named ∙ ap (λ (x : BuiltIn). Some (bare x)) at in
          let k = leafref_known i r is w takes base in
          (k.0, ap (built_in_at rows i) named ∙ ap (λ (x : Bool). cond x (leafref_at rows i) (restricted_at rows i (bare b))) leafref ∙ k.1)
      by b named false leafref =
          let takes : takes_path rows defs i ≡ false = ap (takes_path_by rows i) none ∙ ap is_built_in_leafref named ∙ leafref in
          let base : base_of rows defs i ≡ Some (bare b) = ap (base_by rows defs i) none ∙ ap (option_map bare) named in
          let k = own_known i r (bare b) is w takes base in
          (k.0, ap (built_in_at rows i) named ∙ ap (λ (x : Bool). cond x (leafref_at rows i) (restricted_at rows i (bare b))) leafref ∙ k.1)

  narrowed_known : (i n : ℕ) (ns : List ℕ) (r : Row) (m : Meaning) → slice_get rows i ≡ Some r → r.word ≡ word.«Type» → named_typedef rows defs i ≡ n ∷ ns → meaning_of rows defs n ≡ Some m → (x : Meaning) × (narrowed_at rows i m ≡ Some x)
  unfolding base_of takes_path
  narrowed_known i n ns r (plain d) is w named of =
      let takes : takes_path rows defs i ≡ false = ap (takes_path_by rows i) named in
      let base : base_of rows defs i ≡ Some d = ap (base_by rows defs i) named ∙ ap (option_map to_restrict) of in
      own_known i r d is w takes base
  narrowed_known i n ns r (reference p) is w named of =
      let takes : takes_path rows defs i ≡ false = ap (takes_path_by rows i) named in
      let base : base_of rows defs i ≡ Some (bare Leafref) = ap (base_by rows defs i) named ∙ ap (option_map to_restrict) of in
      kept_known i r p is w takes base

  -- ---- the meaning of each row

  abbrev value : ℕ → ℕ → Option Meaning
  value steps i = worth_within (strict (meaning_step rows)) (leads rows defs) steps i

  meaning_value : (i : ℕ) → meaning_of rows defs i ≡ value (length rows) i
  unfolding meaning_of
  meaning_value i = same_within (meaning_step rows) (leads rows defs) (length rows) i

  makes_typed : (steps i : ℕ) (r : Row) (known : List Meaning) → slice_get rows i ≡ Some r → is_typed r.word ≡ true → all_there (map (value steps) (leads rows defs i)) ≡ Some known → (m : Meaning) × (meaning_step rows i known ≡ Some m)
  unfolding type_below meaning_at
  makes_typed steps i r known is t e =
      let n = type_there i r is t in
      let at : leads rows defs i ≡ n.0 ∷ [] = leads_typed i r is t ∙ ap at_most_one n.1 in
      let s = split (value steps) n.0 [] known (sym (ap (λ (l : List ℕ). all_there (map (value steps) l)) at) ∙ e) in
      (s.first, ap (λ (l : List Meaning). meaning_from rows i (first_known l) (slice_get rows i)) s.known_is ∙ ap (meaning_from rows i (Some s.first)) is ∙ ap (λ (b : Bool). cond b (Some s.first) (cond (is_type r.word) (type_meaning rows i (Some s.first)) None)) t)

  type_made : (i : ℕ) (r : Row) (base : Option Meaning) → slice_get rows i ≡ Some r → r.word ≡ word.«Type» → meaning_at rows i base ≡ type_meaning rows i base
  unfolding meaning_at
  type_made i r base is w = rw (is, w) refl

  makes_type : (steps i : ℕ) (r : Row) (known : List Meaning) (ns : List ℕ) → steps < length rows → slice_get rows i ≡ Some r → r.word ≡ word.«Type» → named_typedef rows defs i ≡ ns → all_there (map (value steps) ns) ≡ Some known → (m : Meaning) × (meaning_step rows i known ≡ Some m)
  makes_type steps i r known [] less is w named e =
      let none : known ≡ [] = cc in
      let b = built_known i r is w named in
      (b.0, ap (λ (l : List Meaning). meaning_at rows i (first_known l)) none ∙ type_made i r None is w ∙ b.1)
  makes_type steps i r known (n ∷ ns) less is w named e =
      let s = split (value steps) n ns known e in
      let of : meaning_of rows defs n ≡ Some s.first = meaning_value n ∙ stays_known (meaning_step rows) (leads rows defs) steps (length rows) n s.first (omega (arith, less)) s.first_is in
      let k = narrowed_known i n ns r s.first is w named of in
      (k.0, ap (λ (l : List Meaning). meaning_at rows i (first_known l)) s.known_is ∙ type_made i r (Some s.first) is w ∙ k.1)

  makes : (steps i : ℕ) (known : List Meaning) → steps < length rows → IsTypedRow rows i → all_there (map (value steps) (leads rows defs i)) ≡ Some known → (m : Meaning) × (value (suc steps) i ≡ Some m)
  makes steps i known less t e = let m = by t.sort in (m.0, ap (λ (o : Option (List Meaning)). option_and_then (meaning_step rows i) o) e ∙ m.1)
    where
      by : (is_typed t.row.word ≡ true) ⊎ (t.row.word ≡ word.«Type») → (m : Meaning) × (meaning_step rows i known ≡ Some m)
      by (inl typed) = makes_typed steps i t.row known t.there typed e
      by (inr w) = makes_type steps i t.row known (named_typedef rows defs i) less t.there w refl (sym (ap (λ (l : List ℕ). all_there (map (value steps) l)) (leads_type i t.row t.there w)) ∙ e)

  -- each typedef, leaf, leaf-list and type has a meaning, where none leads to itself
  module _ (acyclic : (i : ℕ) → LeadsBy (leads rows defs) i i → ⊥) where
    founded : IsFounded value (leads rows defs) (length rows) (IsTypedRow rows)
    founded = record {
      on = on;
      within = λ i t. within rows i t.row t.there;
      acyclic = λ i t l. acyclic i l;
      makes = makes;
    }

    pub meaning_known : (i : ℕ) (r : Row) → slice_get rows i ≡ Some r → is_typed r.word ≡ true → (m : Meaning) × (meaning_of rows defs i ≡ Some m)
    meaning_known i r is t =
        let k = is_known value (leads rows defs) (length rows) (IsTypedRow rows) founded i (record { row = r; there = is; sort = inl t }) in
        (k.0, meaning_value i ∙ k.1)
