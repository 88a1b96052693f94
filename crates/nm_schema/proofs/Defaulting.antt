-- The default of each leaf is known where no fault is found (RFC 7950 sections 7.3.4, 7.6.1 and 9.9).
use Rattle.std.proofs.Common.{◌≡◌, ◌∙◌, ◌≤◌, ◌⊎◌, inl, inr, ℕ, zero, suc, List, [], ◌∷◌, length, map, Bool, true, false, cond, ◌&&◌, ◌||◌, ◌==◌, Option, Some, None, Result, Ok, Err, slice_get, slice_index_or, refl, sym, ap, subst, arith}
use Rattle.std.specs.Prelude.{Contains, is_some, not, unwrap_or}
use Rattle.std.specs.List.{list_any, range_with_len}
use Rattle.std.proofs.lemmas.Option.{same_Some}
use Rattle.nm_schema_statements.specs.declared.row.Row.{Row}
use Rattle.nm_schema_statements.specs.declared.word.Word.{Word}
use Rattle.nm_schema_statements.specs.declared.word.Word.TheVariants as word
use Rattle.nm_schema_statements.specs.declared.flaw.Flaw.TheVariants as flaw
use Rattle.nm_schema_statements.specs.Word.{same_word}
use Rattle.nm_schema_statements.specs.Flaw.{text_of}
use Rattle.nm_schema_statements.specs.Rows.{has_word, first_below}
use Rattle.nm_schema_statements.proofs.Words.{same_words, same_itself}
use Rattle.nm_graph.specs.Value.{strict, all_there}
use Rattle.nm_types.specs.declared.value.Value.{Value}
use Rattle.nm_types.specs.declared.fault.ValueFault.{ValueFault}
use Rattle.nm_types.specs.LeafType.{TypeOfLeaf}
use Rattle.nm_types.specs.Reading.{reading}
use Rattle.nm_schema_names.specs.Named.{parent_in, parent_of}
use Rattle.nm_schema_names.specs.Leads.{leads_to}
use Rattle.nm_schema_uses.specs.Worth.{worth_within}
use Rattle.nm_schema_typing.specs.Restricting.{argument_at, argument_in, argument_below}
use Rattle.nm_schema_typing.specs.TypeGraph.{is_typed, typedef_at, named_typedef, at_most_one, type_below, leads}
use Rattle.nm_schema_typing.specs.Defaults.{is_empty, is_octal, is_read, fits_type, is_default, is_mandatory, default_in as flaw_in_default, default_by, default_flaw, own_or, default_at, joined, first_text, default_step, default_of}
use Rattle.nm_schema_keys.specs.Keys.{IsKey}
use Rattle.nm_schema_nodes.specs.declared.instance.Instance.{Instance}
use Rattle.nm_schema_nodes.proofs.Unfolding.{split, unfold_one}
use Rattle.nm_schema_leafref.specs.Target.{type_of_node}
use Rattle.nm_schema_faults.specs.Facts.{Facts, AreFacts, definitions, is_marked, standing, tree}
use Rattle.nm_schema_faults.specs.Flaw.{bad_if, is_marked_in, own_flaw, is_defaulted, is_defaulted_in, is_narrowed, takes_over, inherited_flaw, misfit_flaw}
use Rattle.nm_schema_faults.specs.Misfit.{is_key_node, leads_in, base_of, base_takes, is_meant, suits, misfits, is_misfit, told_in, is_misfit_told, has_misfit}
use Rattle.nm_schema.specs.Faultless.{AreFaultless}
use Rattle.nm_schema.specs.Kind.{value_in, value_of, default_in}
use Rattle.nm_schema.proofs.Elements.{nothing, first_or_later, in_range}
use Rattle.nm_schema.proofs.Faultless.{within}
use Rattle.nm_schema.proofs.Orderly.{grouping_is}
use Rattle.nm_schema.proofs.Keys.{key_rows}
use Rattle.nm_schema.proofs.Valued.{stays_known}
use Rattle.nm_schema.proofs.Listings.{first_stands}
use Rattle.nm_schema.proofs.Meant.{same_within, argument_there, type_there}

-- ---- tests

told_bad : (b : Bool) (w : Word) → bad_if b w ≡ None → b ≡ false
told_bad true w e = absurd (cc)
told_bad false w e = refl

and_false : (a b : Bool) → a ≡ true → (a && b) ≡ false → b ≡ false
and_false true b t e = e
and_false false b t e = absurd (cc)

left_false : (a b : Bool) → b ≡ true → (a && b) ≡ false → a ≡ false
left_false true true t e = absurd (cc)
left_false true false t e = absurd (cc)
left_false false b t e = refl

turned : (b : Bool) → not b ≡ false → b ≡ true
turned true e = refl
turned false e = absurd (cc)

or_last : (a b : Bool) → b ≡ true → (a || b) ≡ true
or_last true b e = refl
or_last false b e = e

any_none : (p : ℕ → Bool) (xs : List ℕ) (x : ℕ) → list_any p xs ≡ false → Contains xs x → p x ≡ false
any_none p [] x e c = absurd (nothing x c)
any_none p (z ∷ xs) x e c = by (p z) refl (any_none p xs x) e (first_or_later z x xs c)
  where
    by : (b : Bool) → p z ≡ b → (list_any p xs ≡ false → Contains xs x → p x ≡ false) → (b || list_any p xs) ≡ false → (z ≡ x) ⊎ Contains xs x → p x ≡ false
    by true is rest f d = absurd (cc)
    by false is rest f (inl same) = ap p (sym same) ∙ is
    by false is rest f (inr d) = rest f d

is_itself : (n : ℕ) → (n == n) ≡ true
is_itself n = grind arith

-- ---- defaults along types

of_joined : (o : Option (Option (List ℕ))) (text : List ℕ) → joined o ≡ Some text → o ≡ Some (Some text)
of_joined None text e = absurd (cc)
of_joined (Some d) text e = ap (λ (x : Option (List ℕ)). Some x) e

module _ (rows : List Row) (facts : Facts) (are : AreFacts rows facts) (all : AreFaultless rows facts) where
  abbrev defs : List (Option ℕ)
  defs = definitions rows

  abbrev value : ℕ → ℕ → Option (Option (List ℕ))
  value steps i = worth_within (strict (default_step rows)) (leads rows defs) steps i

  default_value : (i : ℕ) → default_of rows defs i ≡ joined (value (length rows) i)
  unfolding default_of
  default_value i = ap joined (same_within (default_step rows) (leads rows defs) (length rows) i)

  -- a row has the word
  record IsWorded (w : Word) (i : ℕ) : Type 0 where
    row : Row
    there : slice_get rows i ≡ Some row
    word_is : row.word ≡ w

  typedef_row : (i : ℕ) (o : Option Row) → slice_get rows i ≡ o → has_word word.Typedef o ≡ true → IsWorded word.Typedef i
  typedef_row i None is e = absurd (cc)
  typedef_row i (Some r) is e = record { row = r; there = is; word_is = same_words r.word word.Typedef e }

  typedef_first : (o : Option ℕ) (b : ℕ) (bs : List ℕ) → typedef_at rows o ≡ b ∷ bs → (o ≡ Some b) × IsWorded word.Typedef b
  typedef_first None b bs e = absurd (cc)
  typedef_first (Some n) b bs e = by (has_word word.Typedef (slice_get rows n)) refl e
    where
      by : (c : Bool) → has_word word.Typedef (slice_get rows n) ≡ c → cond c (n ∷ []) [] ≡ b ∷ bs → (Some n ≡ Some b) × IsWorded word.Typedef b
      by false has f = absurd (cc)
      by true has f =
          let same : n ≡ b = cc in
          (ap (λ (x : ℕ). Some x) same, subst (λ (x : ℕ). IsWorded word.Typedef x) same (typedef_row n (slice_get rows n) refl has))

  typed_leads : (i n : ℕ) (r : Row) → slice_get rows i ≡ Some r → is_typed r.word ≡ true → first_below rows i word.«Type» ≡ Some n → leads rows defs i ≡ n ∷ []
  unfolding leads type_below
  typed_leads i n r is t first = rw (is, t) (ap at_most_one first)

  type_leads : (i : ℕ) (r : Row) → slice_get rows i ≡ Some r → r.word ≡ word.«Type» → leads rows defs i ≡ named_typedef rows defs i
  unfolding leads
  type_leads i r is w = rw (is, w) refl

  -- a type has the default of the typedef that it names
  record HasBase (steps i : ℕ) (text : List ℕ) : Type 0 where
    base : ℕ
    leads : leads_to rows i ≡ Some base
    typedef : IsWorded word.Typedef base
    value_is : value steps base ≡ Some (Some text)

  type_default : (i : ℕ) (r : Row) (base : Option (List ℕ)) → slice_get rows i ≡ Some r → r.word ≡ word.«Type» → default_at rows i base ≡ base
  unfolding default_at
  type_default i r base is w = rw (is, w) refl

  through_named : (steps i : ℕ) (r : Row) (text : List ℕ) (known : List (Option (List ℕ))) (ns : List ℕ) → slice_get rows i ≡ Some r → r.word ≡ word.«Type» → named_typedef rows defs i ≡ ns
      → all_there (map (value steps) ns) ≡ Some known → default_at rows i (joined (first_text known)) ≡ Some text → HasBase steps i text
  unfolding named_typedef
  through_named steps i r text known [] is w named e made =
      let none : known ≡ [] = cc in
      let no : None ≡ Some text = sym (ap (λ (l : List (Option (List ℕ))). joined (first_text l)) none) ∙ sym (type_default i r (joined (first_text known)) is w) ∙ made in
      absurd (cc)
  through_named steps i r text known (n ∷ ns) is w named e made =
      let s = split (value steps) n ns known e in
      let first : s.first ≡ Some text = sym (ap (λ (l : List (Option (List ℕ))). joined (first_text l)) s.known_is) ∙ sym (type_default i r (joined (first_text known)) is w) ∙ made in
      let t = typedef_first (slice_index_or defs i None) n ns named in
      record { base = n; leads = sym (grouping_is rows i r is) ∙ t.0; typedef = t.1; value_is = s.first_is ∙ ap (λ (x : Option (List ℕ)). Some x) first }

  through_type : (steps i : ℕ) (r : Row) (text : List ℕ) → slice_get rows i ≡ Some r → r.word ≡ word.«Type» → value (suc steps) i ≡ Some (Some text) → HasBase steps i text
  through_type steps i r text is w e =
      let u = unfold_one (default_step rows) (leads rows defs) steps i (Some text) e in
      let made : default_at rows i (joined (first_text u.known)) ≡ Some text = same_Some (default_at rows i (joined (first_text u.known))) (Some text) u.made in
      through_named steps i r text u.known (named_typedef rows defs i) is w refl (sym (ap (λ (l : List ℕ). all_there (map (value steps) l)) (type_leads i r is w)) ∙ u.there) made

  -- a typedef or leaf has its own, or that of its type
  data HasOwn (steps i : ℕ) (text : List ℕ) : Type 0 where
    own : argument_below rows i word.Default ≡ Some text → HasOwn steps i text
    taken : (n : ℕ) → argument_below rows i word.Default ≡ None → first_below rows i word.«Type» ≡ Some n → value steps n ≡ Some (Some text) → HasOwn steps i text

  typed_default : (i : ℕ) (r : Row) (base : Option (List ℕ)) → slice_get rows i ≡ Some r → is_typed r.word ≡ true → default_at rows i base ≡ own_or (argument_below rows i word.Default) base
  unfolding default_at
  typed_default i r base is t = rw (is, t) refl

  through_typed : (steps i : ℕ) (r : Row) (text : List ℕ) → slice_get rows i ≡ Some r → is_typed r.word ≡ true → value (suc steps) i ≡ Some (Some text) → HasOwn steps i text
  through_typed steps i r text is t e =
      let u = unfold_one (default_step rows) (leads rows defs) steps i (Some text) e in
      let made : own_or (argument_below rows i word.Default) (joined (first_text u.known)) ≡ Some text =
      sym (typed_default i r (joined (first_text u.known)) is t) ∙ same_Some (default_at rows i (joined (first_text u.known))) (Some text) u.made in
      by (type_there rows facts all i r is t) u.known u.there (argument_below rows i word.Default) refl made
    where
      by : (n : ℕ) × (first_below rows i word.«Type» ≡ Some n) → (known : List (Option (List ℕ))) → all_there (map (value steps) (leads rows defs i)) ≡ Some known
          → (o : Option (List ℕ)) → argument_below rows i word.Default ≡ o → own_or o (joined (first_text known)) ≡ Some text → HasOwn steps i text
      by n known there (Some mine) at f = own (at ∙ f)
      by n known there None at f =
          let s = split (value steps) n.0 [] known (sym (ap (λ (l : List ℕ). all_there (map (value steps) l)) (typed_leads i n.0 r is t n.1)) ∙ there) in
          let first : s.first ≡ Some text = sym (ap (λ (l : List (Option (List ℕ))). joined (first_text l)) s.known_is) ∙ f in
          taken n.0 at n.1 (s.first_is ∙ ap (λ (x : Option (List ℕ)). Some x) first)

  -- ---- what takes its default

  -- a typedef is no key
  not_key : (i : ℕ) → IsWorded word.Typedef i → is_marked facts.keys i ≡ false
  unfolding is_marked
  not_key i w = by (slice_index_or facts.keys i false) refl
    where
      leaf_not : IsKey rows defs (standing facts) i → ⊥
      leaf_not k =
          let h = key_rows rows defs k.list k.keys (standing facts) k.known in
          let leaf : same_word w.row.word word.Leaf ≡ true = sym (ap (has_word word.Leaf) w.there) ∙ (h.each i k.among).leaf in
          let no : false ≡ true = sym (ap (λ (x : Word). same_word x word.Leaf) w.word_is) ∙ leaf in
          absurd (cc)

      by : (b : Bool) → slice_index_or facts.keys i false ≡ b → b ≡ false
      by true e = absurd (leaf_not ((are.keys i).0 e))
      by false e = refl

  default_row : (i : ℕ) (text : List ℕ) → argument_below rows i word.Default ≡ Some text → (o : Option ℕ) → first_below rows i word.Default ≡ o → (k : ℕ) × (first_below rows i word.Default ≡ Some k)
  default_row i text e None first = absurd (let no : None ≡ Some text = sym (ap (argument_at rows) first) ∙ e in cc)
  default_row i text e (Some k) first = (k, first)

  -- a typedef takes its own default
  own_takes : (i : ℕ) (text : List ℕ) → IsWorded word.Typedef i → argument_below rows i word.Default ≡ Some text → is_default rows defs i text ≡ true
  unfolding own_flaw default_flaw
  own_takes i text w e =
      let k = default_row i text e (first_below rows i word.Default) refl in
      let s = first_stands rows i k.0 word.Default k.1 in
      let mine : s.row.argument ≡ Some text = sym (ap (argument_at rows) k.1 ∙ ap argument_in s.there) ∙ e in
      let up : parent_of rows k.0 ≡ Some i = ap parent_in s.there ∙ s.parent in
      let key : is_marked_in facts.keys (parent_of rows k.0) ≡ false = ap (is_marked_in facts.keys) up ∙ not_key i w in
      let a : default_by rows defs (slice_get rows k.0) ≡ None = sym (ap (λ (b : Bool). cond b None (default_by rows defs (slice_get rows k.0))) key) ∙ (all.each k.0 s.row s.there).own in
      let b : default_by rows defs (Some s.row) ≡ None = sym (ap (default_by rows defs) s.there) ∙ a in
      let c : flaw_in_default rows defs s.row s.row.argument s.row.parent ≡ None =
      sym (ap (λ (x : Bool). cond x (flaw_in_default rows defs s.row s.row.argument s.row.parent) None) (same_itself s.row.word word.Default s.word_is)) ∙ b in
      let d : flaw_in_default rows defs s.row (Some text) (Some i) ≡ None = sym (ap (λ (x : Option (List ℕ)). flaw_in_default rows defs s.row x s.row.parent) mine ∙ ap (flaw_in_default rows defs s.row (Some text)) s.parent) ∙ c in
      by s.row (is_default rows defs i text) (is_mandatory rows i) d
    where
      by : (r : Row) (b must : Bool) → cond (b && not must) None (Some (flaw.BadArgument r.keyword)) ≡ None → b ≡ true
      by r true must f = refl
      by r false must f = absurd (cc)

  none_first : (i : ℕ) (o : Option ℕ) → first_below rows i word.Default ≡ o → argument_below rows i word.Default ≡ None → o ≡ None
  none_first i None first e = refl
  none_first i (Some k) first e =
      let s = first_stands rows i k word.Default first in
      let no : Some (text_of s.row.argument) ≡ None = sym (ap (argument_at rows) first ∙ ap argument_in s.there ∙ argument_there rows facts all k s.row s.there) ∙ e in
      absurd (cc)

  default_is : (steps i : ℕ) (text : List ℕ) → steps ≤ length rows → value steps i ≡ Some (Some text) → default_of rows defs i ≡ Some text
  default_is steps i text le e = default_value i ∙ ap joined (stays_known (default_step rows) (leads rows defs) steps (length rows) i (Some text) le e)

  base_is : (i n base : ℕ) → first_below rows i word.«Type» ≡ Some n → leads_to rows n ≡ Some base → base_of rows i ≡ Some base
  unfolding base_of
  base_is i n base first led = ap (leads_in rows) first ∙ led

  -- a typedef takes the default that it takes over
  taken_over : (i base : ℕ) (text : List ℕ) → IsWorded word.Typedef i → argument_below rows i word.Default ≡ None → base_of rows i ≡ Some base → default_of rows defs i ≡ Some text → is_default rows defs base text ≡ true → is_default rows defs i text ≡ true
  unfolding inherited_flaw takes_over
  taken_over i base text w none base_at of takes =
      let first = none_first i (first_below rows i word.Default) refl none in
      let sort : is_defaulted_in (slice_get rows i) ≡ true = ap is_defaulted_in w.there ∙ ap is_defaulted w.word_is in
      let over : (is_defaulted_in (slice_get rows i) && (not (is_some (first_below rows i word.Default)) && not (is_marked facts.keys i))) ≡ true = rw (sort, first, not_key i w) refl in
      let flawed = told_bad ((is_defaulted_in (slice_get rows i) && (not (is_some (first_below rows i word.Default)) && not (is_marked facts.keys i))) && is_narrowed rows i (base_of rows i) (default_of rows defs i)) word.Default (all.each i w.row w.there).inherited in
      let narrowed = and_false (is_defaulted_in (slice_get rows i) && (not (is_some (first_below rows i word.Default)) && not (is_marked facts.keys i))) (is_narrowed rows i (base_of rows i) (default_of rows defs i)) over flawed in
      let both : (is_default rows defs base text && not (is_default rows defs i text)) ≡ false = sym (ap (λ (o : Option ℕ). is_narrowed rows i o (default_of rows defs i)) base_at ∙ ap (is_narrowed rows i (Some base)) of) ∙ narrowed in
      turned (is_default rows defs i text) (and_false (is_default rows defs base text) (not (is_default rows defs i text)) takes both)

  -- each typedef takes its default
  typedef_takes : (steps i : ℕ) (text : List ℕ) → steps ≤ length rows → IsWorded word.Typedef i → value steps i ≡ Some (Some text) → is_default rows defs i text ≡ true
  typedef_takes zero i text le w e = absurd (cc)
  typedef_takes (suc zero) i text le w e = by (through_typed zero i w.row text w.there (ap is_typed w.word_is) e)
    where
      by : HasOwn zero i text → is_default rows defs i text ≡ true
      by (own mine) = own_takes i text w mine
      by (taken n none first f) = absurd (cc)
  typedef_takes (suc (suc steps)) i text le w e = by (through_typed (suc steps) i w.row text w.there (ap is_typed w.word_is) e) (λ b base f. typedef_takes steps b text (omega (arith, le)) base f)
    where
      by : HasOwn (suc steps) i text → ((b : ℕ) → IsWorded word.Typedef b → value steps b ≡ Some (Some text) → is_default rows defs b text ≡ true) → is_default rows defs i text ≡ true
      by (own mine) rest = own_takes i text w mine
      by (taken n none first f) rest =
          let s = first_stands rows i n word.«Type» first in
          let b = through_type steps n s.row text s.there s.word_is f in
          taken_over i b.base text w none (base_is i n b.base first b.leads) (default_is (suc (suc steps)) i text le e) (rest b.base b.typedef b.value_is)

  -- a leaf has a default itself, or its type takes it
  meant_by : (steps i : ℕ) (r : Row) (text : List ℕ) → steps ≤ length rows → slice_get rows i ≡ Some r → is_typed r.word ≡ true → default_of rows defs i ≡ Some text → value steps i ≡ Some (Some text) → is_meant rows i ≡ true
  unfolding is_meant
  meant_by zero i r text le is t of e = absurd (cc)
  meant_by (suc steps) i r text le is t of e = by (through_typed steps i r text is t e)
    where
      base_there : (steps n : ℕ) → steps ≤ length rows → first_below rows i word.«Type» ≡ Some n → value steps n ≡ Some (Some text) → base_takes rows (base_of rows i) (default_of rows defs i) ≡ true
      base_there zero n le first f = absurd (cc)
      base_there (suc steps) n le first f =
          let s = first_stands rows i n word.«Type» first in
          let b = through_type steps n s.row text s.there s.word_is f in
          ap (λ (o : Option ℕ). base_takes rows o (default_of rows defs i)) (base_is i n b.base first b.leads) ∙ ap (base_takes rows (Some b.base)) of ∙ typedef_takes steps b.base text (omega (arith, le)) b.typedef b.value_is

      by : HasOwn steps i text → (is_some (first_below rows i word.Default) || base_takes rows (base_of rows i) (default_of rows defs i)) ≡ true
      by (own mine) = let k = default_row i text mine (first_below rows i word.Default) refl in ap (λ (o : Option ℕ). is_some o || base_takes rows (base_of rows i) (default_of rows defs i)) k.1
      by (taken n none first f) = or_last (is_some (first_below rows i word.Default)) (base_takes rows (base_of rows i) (default_of rows defs i)) (base_there steps n (omega (arith, le)) first f)

  meant : (i : ℕ) (r : Row) (text : List ℕ) → slice_get rows i ≡ Some r → is_typed r.word ≡ true → default_of rows defs i ≡ Some text → is_meant rows i ≡ true
  meant i r text is t of = meant_by (length rows) i r text (omega arith) is t of (of_joined (value (length rows) i) text (sym (default_value i) ∙ of))

  -- ---- the default of a node

  suited : (a b c d : Bool) → a ≡ true → b ≡ false → c ≡ true → (a && (not b && (c && not d))) ≡ false → d ≡ true
  suited true false true d x y z e = turned d e
  suited true false false d x y z e = absurd (cc)
  suited true true c d x y z e = absurd (cc)
  suited false b c d x y z e = absurd (cc)

  module _ (x : ℕ) (place : Instance) (r : Row) (there : slice_get facts.nodes x ≡ Some place) (is : slice_get rows place.row ≡ Some r) (leaf : r.word ≡ word.Leaf) (t : TypeOfLeaf) (type_is : type_of_node defs (tree rows facts) x ≡ Some t) where
    abbrev at : ℕ
    at = unwrap_or (first_below rows place.row word.Default) place.row

    at_row : (o : Option ℕ) → first_below rows place.row word.Default ≡ o → (s : Row) × (slice_get rows (unwrap_or o place.row) ≡ Some s)
    at_row None first = (r, is)
    at_row (Some k) first = let s = first_stands rows place.row k word.Default first in (s.row, s.there)

    no_misfit : is_misfit rows facts x ≡ false
    unfolding misfit_flaw has_misfit is_misfit_told
    no_misfit =
        let s = at_row (first_below rows place.row word.Default) refl in
        let none = told_bad (list_any (is_misfit_told rows facts at) (range_with_len 0 (length facts.nodes))) word.Default (all.each at s.0 s.1).misfit in
        let one : (is_misfit rows facts x && told_in rows (slice_get facts.nodes x) at) ≡ false = any_none (is_misfit_told rows facts at) (range_with_len 0 (length facts.nodes)) x none (in_range (length facts.nodes) x (within facts.nodes x place there)) in
        let told : told_in rows (slice_get facts.nodes x) at ≡ true = ap (λ (o : Option Instance). told_in rows o at) there ∙ is_itself at in
        left_false (is_misfit rows facts x) (told_in rows (slice_get facts.nodes x) at) told one

    read_value : (text : List ℕ) (b : Bool) (v : Result Value ValueFault) → cond b false (is_read v) ≡ true → (d : Option Value) × (value_in v ≡ Some d)
    read_value text true v e = absurd (cc)
    read_value text false (Ok v) e = (Some v, refl)
    read_value text false (Err fault) e = absurd (cc)

    text_known : (text : List ℕ) → default_of rows defs place.row ≡ Some text → is_key_node rows facts place ≡ false → (d : Option Value) × (value_in (reading t text) ≡ Some d)
    unfolding is_misfit
    text_known text of key =
        let none : misfits rows facts x (Some place) ≡ false = sym (ap (misfits rows facts x) there) ∙ no_misfit in
        let leaf_there : has_word word.Leaf (slice_get rows place.row) ≡ true = ap (has_word word.Leaf) is ∙ same_itself r.word word.Leaf leaf in
        let typed : is_typed r.word ≡ true = ap is_typed leaf in
        let fits = suited (has_word word.Leaf (slice_get rows place.row)) (is_key_node rows facts place) (is_meant rows place.row) (suits (default_of rows defs place.row) (type_of_node defs (tree rows facts) x)) leaf_there key (meant place.row r text is typed of) none in
        let read : fits_type text (Some t) ≡ true = sym (ap (λ (o : Option (List ℕ)). suits o (type_of_node defs (tree rows facts) x)) of ∙ ap (suits (Some text)) type_is) ∙ fits in
        read_value text (is_empty t.kind || is_octal t.kind text) (reading t text) read

    -- the default of a leaf is known
    pub default_known : (d : Option Value) × (default_in rows facts place t ≡ Some d)
    unfolding default_in
    default_known =
        let d = by (is_key_node rows facts place) (default_of rows defs place.row) refl refl in
        (d.0, d.1)
      where
        by : (b : Bool) (o : Option (List ℕ)) → is_key_node rows facts place ≡ b → default_of rows defs place.row ≡ o → (d : Option Value) × (cond b (Some None) (value_of t o) ≡ Some d)
        by true o key of = (None, refl)
        by false None key of = (None, refl)
        by false (Some text) key of = text_known text of key
