-- Modules in which no fault is found are known whole: each module is expanded, and each node is known.
use Rattle.std.proofs.Common.{◌≡◌, ◌∙◌, ◌<◌, ◌⊎◌, inl, inr, ℕ, zero, suc, List, [], ◌∷◌, length, Bool, true, false, cond, ◌&&◌, Option, Some, None, IfSome, get_or, slice_get, slice_index_or, refl, sym, ap, subst, arith}
use Rattle.std.specs.Prelude.{Contains, is_some}
use Rattle.std.proofs.lemmas.Option.{same_Some}
use Rattle.nm_yang.specs.Tree.{Tree}
use Rattle.nm_schema_statements.specs.declared.row.Row.{Row}
use Rattle.nm_schema_statements.specs.declared.word.Word.{Word}
use Rattle.nm_schema_statements.specs.declared.word.Word.TheVariants as word
use Rattle.nm_schema_statements.specs.Flaw.{is_data}
use Rattle.nm_schema_statements.specs.Rows.{has_word, first_below, rows_of, roots, module_in, module_at, AreRows, FromModules}
use Rattle.nm_schema_statements.proofs.Laws.{are_rows}
use Rattle.nm_schema_statements.proofs.Modules.{count_of_tops}
use Rattle.nm_schema_names.specs.Leads.{leads_to}
use Rattle.nm_schema_names.specs.Graph.{listed, word_leading, row_leading, leading}
use Rattle.nm_types.specs.declared.value.Value.{Value}
use Rattle.nm_types.specs.LeafType.{TypeOfLeaf}
use Rattle.nm_schema_uses.specs.Holding.{is_data_row, holding}
use Rattle.nm_schema_uses.specs.Config.{LeadsBy, one, further}
use Rattle.nm_schema_uses.specs.Members.{members}
use Rattle.nm_schema_typing.specs.TypeGraph.{is_typed, is_type, typedef_at, named_typedef, at_most_one, type_below, leads_from, leads}
use Rattle.nm_schema_tree.specs.declared.node.NodeKind.{NodeKind}
use Rattle.nm_schema_tree.specs.declared.node.NodeKind.TheVariants as kind
use Rattle.nm_schema_tree.specs.declared.node.Reference.{Reference}
use Rattle.nm_schema_nodes.specs.declared.instance.Instance.{Instance}
use Rattle.nm_schema_nodes.specs.Expansion.{Expanded, row_in, row_of, owner_of, module_row, is_grown}
use Rattle.nm_schema_nodes.proofs.Growth.{module_row-is}
use Rattle.nm_schema_leafref.specs.declared.led.Led.TheVariants as led
use Rattle.nm_schema_leafref.specs.Place.{is_leaf, is_known, is_known_node, is_known_module}
use Rattle.nm_schema_leafref.specs.Walk.{led_to}
use Rattle.nm_schema_leafref.specs.Target.{up_of}
use Rattle.nm_schema_faults.specs.Facts.{Facts, AreFacts, definitions, tree}
use Rattle.nm_schema_faults.specs.Fault.{first_fault}
use Rattle.nm_schema.specs.Faultless.{AreFaultless}
use Rattle.nm_schema.specs.Kind.{is_mandatory, referred, reference_of, leaf_with, leaf_typed, leaf_of, elements_of, leaf_list_with, leaf_list_of, keys_in, groups_in, list_with, is_filled, list_of, container_of, kind_of}
use Rattle.nm_schema.specs.Node.{node_with, node_by, node_in, node_of, AreKnown}
use Rattle.nm_schema.proofs.Elements.{nothing, first_or_later}
use Rattle.nm_schema.proofs.Faultless.{within, each_faultless, untold}
use Rattle.nm_schema.proofs.Claims.{AreOrderly}
use Rattle.nm_schema.proofs.Orderly.{parents_after, modules_stand, listed_one, grouping_is, all_held, acyclic, orderly}
use Rattle.nm_schema.proofs.Membered.{members_known, kept_known}
use Rattle.nm_schema.proofs.Grown.{owner_below, none_large, all_grown}
use Rattle.nm_schema.proofs.Arriving.{IsOpen, led_known, leaf_type_known}
use Rattle.nm_schema.proofs.Configured.{data_row}
use Rattle.nm_schema.proofs.Keyed.{list_keys, list_groups}
use Rattle.nm_schema.proofs.Defaulting.{default_known}

-- ---- types lead as rows do

module _ (rows : List Row) where
  same_listed : (o : Option ℕ) (k : ℕ) → Contains (at_most_one o) k → Contains (listed o) k
  same_listed None k c = absurd (nothing k c)
  same_listed (Some n) k c = c

  typed_leads : (i k : ℕ) (w : Word) → is_typed w ≡ true → Contains (listed (first_below rows i word.«Type»)) k → Contains (word_leading rows i w) k
  typed_leads i k word.Typedef t c = c
  typed_leads i k word.Leaf t c = c
  typed_leads i k word.LeafList t c = c
  typed_leads i k _ t c = absurd (cc)

  type_leads : (i k : ℕ) (w : Word) → is_type w ≡ true → Contains (listed (leads_to rows i)) k → Contains (word_leading rows i w) k
  type_leads i k word.«Type» t c = c
  type_leads i k _ t c = absurd (cc)

  of_typedef : (o : Option ℕ) (k : ℕ) → Contains (typedef_at rows o) k → o ≡ Some k
  of_typedef None k c = absurd (nothing k c)
  of_typedef (Some n) k c = by (has_word word.Typedef (slice_get rows n)) c
    where
      by : (b : Bool) → Contains (cond b (n ∷ []) []) k → Some n ≡ Some k
      by true d = elim (first_or_later n k [] d) [
        | inl same ↦ ap (λ (x : ℕ). Some x) same
        | inr more ↦ absurd (nothing k more)
      ]
      by false d = absurd (nothing k d)

  row_leads : (i k : ℕ) (o : Option Row) → slice_get rows i ≡ o → Contains (leads_from rows (definitions rows) i o) k → Contains (row_leading rows i o) k × (i < length rows)
  unfolding type_below named_typedef
  row_leads i k None is c = absurd (nothing k c)
  row_leads i k (Some r) is c = (by (is_typed r.word) (is_type r.word) refl refl c, within rows i r is)
    where
      by : (a b : Bool) → is_typed r.word ≡ a → is_type r.word ≡ b → Contains (cond a (at_most_one (first_below rows i word.«Type»)) (cond b (typedef_at rows (slice_index_or (definitions rows) i None)) [])) k → Contains (word_leading rows i r.word) k
      by true b t u d = typed_leads i k r.word t (same_listed (first_below rows i word.«Type») k d)
      by false true t u d = type_leads i k r.word u (listed_one rows (leads_to rows i) k (sym (grouping_is rows i r is) ∙ of_typedef (slice_index_or (definitions rows) i None) k d))
      by false false t u d = absurd (nothing k d)

  type_step : (i k : ℕ) → Contains (leads rows (definitions rows) i) k → Contains (leading rows i) k × (i < length rows)
  unfolding leads leading
  type_step i k c = row_leads i k (slice_get rows i) refl c

  types_lead : (i j : ℕ) → LeadsBy (leads rows (definitions rows)) i j → LeadsBy (leading rows) i j
  types_lead i j (one c) = one (type_step i j c).0
  types_lead i j (further k c l) = further k (type_step i k c).0 (types_lead k j l)

-- ---- faultless modules

module _ (modules : List Tree) where
  abbrev rows : List Row
  rows = rows_of modules

  pub rows_laws : AreRows rows
  rows_laws = are_rows rows (parents_after 0 0 modules) (modules, refl)

  -- where no first fault is found, nothing is wrong
  pub faultless : (facts : Facts) → first_fault rows facts ≡ None → AreFaultless rows facts
  faultless facts none = record { each = each_faultless rows facts none; small = none_large modules rows_laws (untold rows facts none) }

  module _ (facts : Facts) (are : AreFacts rows facts) (all : AreFaultless rows facts) where
    abbrev defs : List (Option ℕ)
    defs = definitions rows

    abbrev t : Expanded
    t = tree rows facts

    pub order : AreOrderly rows defs
    order = orderly rows facts all are.cycle (modules_stand modules)

    held : (i : ℕ) → LeadsBy (holding rows defs) i i → ⊥
    held i l = acyclic rows facts all are.cycle i (all_held rows i i l)

    types : (i : ℕ) → LeadsBy (leads rows defs) i i → ⊥
    types i l = acyclic rows facts all are.cycle i (types_lead rows i i l)

    grown : (m : ℕ) → m < length (roots rows) → is_grown rows defs m ≡ true
    grown m lt = all_grown modules rows_laws all.small order held m lt

    members_there : (i : ℕ) → is_some (members rows defs i) ≡ true
    members_there i = ap (λ (o : Option (List ℕ)). is_some o) (members_known rows defs order i).1

    place_there : (x : ℕ) → x < length facts.nodes → (place : Instance) × (slice_get facts.nodes x ≡ Some place)
    place_there x lt = there facts.nodes x lt
      where
        there : (xs : List Instance) (i : ℕ) → i < length xs → (place : Instance) × (slice_get xs i ≡ Some place)
        there [] i lt = absurd (omega (arith, lt))
        there (y ∷ xs) zero lt = (y, refl)
        there (y ∷ xs) (suc i) lt = there xs i (omega (arith, lt))

    open_node : (i : ℕ) → i < length facts.nodes → is_known_node t i ≡ true
    unfolding is_known_node row_of
    open_node i lt = let p = place_there i lt in ap (λ (o : Option Instance). is_known rows defs (row_in o)) p.1 ∙ members_there p.0.row

    open_module : (m : ℕ) → m < length (roots rows) → is_known_module t m ≡ true
    unfolding is_known_module
    open_module m lt =
        let root : ℕ = get_or (roots rows) m 0 in
        ap (λ (b : Bool). b && is_known rows defs (module_row rows m)) (grown m lt) ∙ ap (is_known rows defs) (module_row-is rows defs m lt) ∙ members_there root

    parent_before : (i : ℕ) (place : Instance) → slice_get facts.nodes i ≡ Some place → IfSome place.parent (λ p. p < i)
    parent_before i place is = by place.parent (are.nodes.parents i place is)
      where
        by : (o : Option ℕ) → IfSome o (λ p. (p < i) × (owner_of facts.nodes p ≡ Some place.owner)) → IfSome o (λ p. p < i)
        by None h = tt
        by (Some p) h = h.0

    row_module : (i m : ℕ) → module_at rows i ≡ Some m → m < length (roots rows)
    row_module i m e = by (slice_get rows i) refl e
      where
        by : (o : Option Row) → slice_get rows i ≡ o → module_in o ≡ Some m → m < length (roots rows)
        by None is f = absurd (cc)
        by (Some r) is f =
            let below = owner_below modules 0 0 i r is in
            let size = count_of_tops modules in
            let same = same_Some r.«module» m f in
            omega (arith, below, size, same)

    opened : IsOpen t
    opened = record {
      nodes = open_node;
      modules = open_module;
      owners = λ i place is. are.nodes.owners i place is;
      parents = parent_before;
      rows = row_module;
    }

    -- ---- each node

    filled : (i : ℕ) → is_filled rows i ≡ true
    unfolding is_filled
    filled i = ap (λ (o : Option (List ℕ)). is_some o) (kept_known rows defs order i).1

    -- a node of that word is known
    abbrev IsKind : ℕ → Instance → Word → Type 0
    IsKind x place w = (k : NodeKind) × (kind_of rows facts x place w ≡ Some k)

    reference_known : (x : ℕ) → x < length facts.nodes → (r : Option Reference) × (reference_of rows facts x ≡ Some r)
    unfolding reference_of
    reference_known x lt = by (led_known rows facts are all opened types x lt)
      where
        by : (led_to defs t x ≡ None) ⊎ ((y : ℕ) × (led_to defs t x ≡ Some (led.Node y))) → (r : Option Reference) × (referred (up_of defs t x) (led_to defs t x) ≡ Some r)
        by (inl e) = (None, ap (referred (up_of defs t x)) e)
        by (inr (y, e)) = (Some (record { target = y; up = up_of defs t x }), ap (referred (up_of defs t x)) e)

    container_known : (x : ℕ) (place : Instance) → IsKind x place word.Container
    unfolding container_of
    container_known x place = (kind.Container (is_some (first_below rows place.row word.Presence)), ap (λ (b : Bool). cond b (Some (kind.Container (is_some (first_below rows place.row word.Presence)))) None) (filled place.row))

    leaf_known : (x : ℕ) (place : Instance) (r : Row) → slice_get facts.nodes x ≡ Some place → slice_get rows place.row ≡ Some r → r.word ≡ word.Leaf → IsKind x place word.Leaf
    unfolding leaf_of
    leaf_known x place r there is w =
        let ty = leaf_type_known rows facts are all opened types x place r there is (ap is_leaf w) in
        let d = default_known rows facts are all x place r there is w ty.0 ty.1 in
        let ref = reference_known x (within facts.nodes x place there) in (
          kind.Leaf ty.0 d.0 (is_mandatory rows facts place) ref.0,
          ap (leaf_typed rows facts x place) ty.1 ∙ ap (λ (o : Option (Option Value)). leaf_with ty.0 o (is_mandatory rows facts place) (reference_of rows facts x)) d.1 ∙ ap (leaf_with ty.0 (Some d.0) (is_mandatory rows facts place)) ref.1,
        )

    leaf_list_known : (x : ℕ) (place : Instance) (r : Row) → slice_get facts.nodes x ≡ Some place → slice_get rows place.row ≡ Some r → r.word ≡ word.LeafList → IsKind x place word.LeafList
    unfolding leaf_list_of
    leaf_list_known x place r there is w =
        let ty = leaf_type_known rows facts are all opened types x place r there is (ap is_leaf w) in
        let ref = reference_known x (within facts.nodes x place there) in (
          kind.LeafList ty.0 ref.0 (elements_of rows place.row),
          ap (λ (o : Option TypeOfLeaf). leaf_list_with o (reference_of rows facts x) (elements_of rows place.row)) ty.1 ∙ ap (λ (o : Option (Option Reference)). leaf_list_with (Some ty.0) o (elements_of rows place.row)) ref.1,
        )

    list_known : (x : ℕ) (place : Instance) (r : Row) → slice_get facts.nodes x ≡ Some place → slice_get rows place.row ≡ Some r → r.word ≡ word.List → IsKind x place word.List
    unfolding list_of
    list_known x place r there is w =
        let keys = list_keys rows facts are all order are.nodes x place there r is w in
        let groups = list_groups rows facts are all order are.nodes x place there r is w in
        let n = elements_of rows place.row in (
          kind.List keys.0 groups.0 n,
          ap (λ (b : Bool). cond b (list_with (keys_in rows facts x place.row) (groups_in rows facts x place.row) n) None) (filled place.row)
              ∙ ap (λ (o : Option (List ℕ)). list_with o (groups_in rows facts x place.row) n) keys.1
              ∙ ap (λ (o : Option (List (List ℕ))). list_with (Some keys.0) o n) groups.1,
        )

    kind_known : (x : ℕ) (place : Instance) (r : Row) → slice_get facts.nodes x ≡ Some place → slice_get rows place.row ≡ Some r → is_data r.word ≡ true → IsKind x place r.word
    kind_known x place r there is d = by r.word refl d
      where
        by : (w : Word) → r.word ≡ w → is_data w ≡ true → IsKind x place w
        by word.Container w e = container_known x place
        by word.Leaf w e = leaf_known x place r there is w
        by word.LeafList w e = leaf_list_known x place r there is w
        by word.List w e = list_known x place r there is w
        by _ w e = absurd (cc)

    data_there : (i : ℕ) (o : Option Row) → slice_get rows i ≡ o → is_data_row o ≡ true → (r : Row) × (slice_get rows i ≡ Some r) × (is_data r.word ≡ true)
    data_there i None is d = absurd (cc)
    data_there i (Some r) is d = (r, is, d)

    -- each node of the tree is known
    pub node_known : (x : ℕ) → x < length facts.nodes → is_some (node_of rows facts x) ≡ true
    unfolding node_of
    node_known x lt =
        let p = place_there x lt in
        let r = data_there p.0.row (slice_get rows p.0.row) refl (data_row rows facts all order are.nodes x p.0 p.1) in
        let k = kind_known x p.0 r.0 p.1 r.1 r.2 in
        ap (λ (o : Option Instance). is_some (node_in rows facts x o)) p.1 ∙ ap (λ (o : Option Row). is_some (node_by rows facts x p.0 o)) r.1 ∙ ap (λ (o : Option NodeKind). is_some (node_with rows facts x p.0 o)) k.1

-- where no first fault is found in the rows of modules, each node is known
pub none_known : (rows : List Row) (facts : Facts) → FromModules rows → AreFacts rows facts → first_fault rows facts ≡ None → AreKnown rows facts
none_known rs facts (modules, is) are none =
    subst (λ (r : List Row). AreFacts r facts → first_fault r facts ≡ None → AreKnown r facts) (sym is) (λ a e. node_known modules facts a (faultless modules facts e)) are none
