-- Where leafrefs lead is known where no fault is found, and so is the type of each leaf (RFC 7950 section 9.9).
use Rattle.std.proofs.Common.{◌≡◌, ◌∙◌, ◌<◌, ◌⊎◌, inl, inr, ℕ, zero, suc, List, [], ◌∷◌, length, map, Bool, true, false, cond, Option, Some, None, IfSome, slice_get, slice_index_or, refl, sym, ap, subst, arith}
use Rattle.std.specs.Prelude.{Contains, ⊤}
use Rattle.std.specs.Option.{option_and_then}
use Rattle.std.specs.List.{position_from}
use Rattle.std.proofs.lemmas.Option.{same_Some}
use Rattle.nm_schema_statements.specs.declared.row.Row.{Row}
use Rattle.nm_schema_statements.specs.declared.word.Word.{Word}
use Rattle.nm_schema_statements.specs.declared.word.Word.TheVariants as word
use Rattle.nm_schema_statements.specs.Rows.{roots, module_at}
use Rattle.nm_graph.specs.Value.{strict, all_there}
use Rattle.nm_schema_names.specs.Named.{prefix_leads}
use Rattle.nm_types.specs.LeafType.{TypeOfLeaf}
use Rattle.nm_schema_uses.specs.Config.{LeadsBy}
use Rattle.nm_schema_uses.specs.Worth.{worth_within, worth_of}
use Rattle.nm_schema_typing.specs.declared.leafref.NodeName.{NodeName}
use Rattle.nm_schema_typing.specs.declared.leafref.Start.{Start}
use Rattle.nm_schema_typing.specs.declared.leafref.Start.TheVariants.{Root, Up}
use Rattle.nm_schema_typing.specs.Leafref.{LeafrefPath}
use Rattle.nm_schema_typing.specs.TypeGraph.{is_typed, leads}
use Rattle.nm_schema_typing.specs.Meaning.{Meaning, plain, reference}
use Rattle.nm_schema_typing.specs.Along.{meaning_of}
use Rattle.nm_schema_nodes.specs.declared.instance.Instance.{Instance}
use Rattle.nm_schema_nodes.specs.Expansion.{Expanded, row_in, row_of, owner_in, owner_of}
use Rattle.nm_schema_nodes.specs.Named.{is_child_named, is_top_named, child_named, top_named}
use Rattle.nm_schema_nodes.proofs.Unfolding.{split}
use Rattle.nm_schema_tree.proofs.Positions.{first_passes}
use Rattle.nm_schema_leafref.specs.declared.led.Led.{Led}
use Rattle.nm_schema_leafref.specs.declared.led.Led.TheVariants as led
use Rattle.nm_schema_leafref.specs.declared.led.Spot.{Spot}
use Rattle.nm_schema_leafref.specs.declared.led.Spot.TheVariants as spot
use Rattle.nm_schema_leafref.specs.declared.fault.PathFault.{PathFault}
use Rattle.nm_schema_leafref.specs.declared.fault.PathFault.TheVariants as fault
use Rattle.nm_schema_leafref.specs.Place.{parent_in, parent_of, is_leaf, is_leaf_in, is_leaf_at, is_leaf_node, is_known_node, is_known_module, is_of_module}
use Rattle.nm_schema_leafref.specs.Walk.{spot_at, above, raised, begun, module_led, named_module, found_or, into_module, into_node, down, stepped, walked, ended, led_along, path_at, path_row_of, meaning_at, path_row, led_if, led_by, led_from, led_to}
use Rattle.nm_schema_leafref.specs.Target.{target_in, targets, plain_in, plain_type, plain_at, type_step, type_of_node}
use Rattle.nm_schema_leafref.specs.Fault.{HasNoFault, HasFault, flaw_from, flaw_in}
use Rattle.nm_schema_leafref.proofs.Faults.{leads_nowhere}
use Rattle.nm_schema_faults.specs.Facts.{Facts, AreFacts, definitions, tree}
use Rattle.nm_schema_faults.specs.Flaw.{path_flaw}
use Rattle.nm_schema.specs.Faultless.{AreFaultless}
use Rattle.nm_schema.proofs.Elements.{nothing, first_or_later}
use Rattle.nm_schema.proofs.Faultless.{within}
use Rattle.nm_schema.proofs.Orderly.{row_there}
use Rattle.nm_schema.proofs.Valued.{IsFounded, is_known as value_known}
use Rattle.nm_schema.proofs.Meant.{meaning_known}
use Rattle.nm_schema.proofs.Kinded.{path_within, type_there}

-- ---- where paths lead

-- what stands in each node and at the top of each module is known
pub record IsOpen (t : Expanded) : Type 0 where
  pub nodes : (i : ℕ) → i < length t.nodes → is_known_node t i ≡ true
  pub modules : (m : ℕ) → m < length (roots t.rows) → is_known_module t m ≡ true
  pub owners : (i : ℕ) (node : Instance) → slice_get t.nodes i ≡ Some node → node.owner < length (roots t.rows)
  pub parents : (i : ℕ) (node : Instance) → slice_get t.nodes i ≡ Some node → IfSome node.parent (λ p. p < i)
  pub rows : (i m : ℕ) → module_at t.rows i ≡ Some m → m < length (roots t.rows)

module _ (t : Expanded) (open_ : IsOpen t) where
  -- a spot that is known: above all nodes, at one, or nowhere
  abbrev IsSpot : Spot → Type 0
  IsSpot spot.Root = ⊤
  IsSpot (spot.Node i) = i < length t.nodes
  IsSpot spot.Missing = ⊤
  IsSpot spot.Unknown = ⊥

  abbrev AreModules : Option ℕ → Type 0
  AreModules o = IfSome o (λ m. m < length (roots t.rows))

  parent_spot : (i : ℕ) (o : Option Instance) → slice_get t.nodes i ≡ o → i < length t.nodes → IsSpot (spot_at (parent_in o))
  parent_spot i None is lt = tt
  parent_spot i (Some node) is lt = by node.parent (open_.parents i node is)
    where
      by : (o : Option ℕ) → IfSome o (λ p. p < i) → IsSpot (spot_at o)
      by None before = tt
      by (Some p) before = omega (arith, before, lt)

  above_spot : (s : Spot) → IsSpot s → IsSpot (above t s)
  unfolding above parent_of
  above_spot spot.Root s = tt
  above_spot (spot.Node i) s = parent_spot i (slice_get t.nodes i) refl s
  above_spot spot.Missing s = tt
  above_spot spot.Unknown s = absurd s

  raised_spot : (n : ℕ) (s : Spot) → IsSpot s → IsSpot (raised t n s)
  raised_spot zero s is = is
  raised_spot (suc n) s is = raised_spot n (above t s) (above_spot s is)

  begun_spot : (x : ℕ) (start : Start) → x < length t.nodes → IsSpot (begun t x start)
  begun_spot x Root lt = tt
  begun_spot x (Up n) lt = raised_spot n (spot.Node x) lt

  found_spot : (o : Option ℕ) (b : Bool) → b ≡ true → ((i : ℕ) → o ≡ Some i → i < length t.nodes) → IsSpot (found_or o b)
  found_spot (Some i) b known there = there i refl
  found_spot None true known there = tt
  found_spot None false known there = absurd (cc)

  position_there : (f : Instance → Bool) (i : ℕ) → position_from f 0 t.nodes ≡ Some i → i < length t.nodes
  position_there f i e = let h = first_passes f t.nodes i e in within t.nodes i h.x h.here

  module_spot : (q : ℕ) (name : List ℕ) → q < length (roots t.rows) → IsSpot (into_module t q name)
  unfolding into_module top_named
  module_spot q name lt = found_spot (position_from (is_top_named t.rows q name) 0 t.nodes) (is_known_module t q) (open_.modules q lt) (λ i e. position_there (is_top_named t.rows q name) i e)

  node_spot : (i q : ℕ) (name : List ℕ) → i < length t.nodes → IsSpot (into_node t i q name)
  unfolding into_node child_named
  node_spot i q name lt = by (is_of_module t i q)
    where
      by : (b : Bool) → IsSpot (cond b (found_or (position_from (is_child_named t.rows i name) 0 t.nodes) (is_known_node t i)) spot.Missing)
      by false = tt
      by true = found_spot (position_from (is_child_named t.rows i name) 0 t.nodes) (is_known_node t i) (open_.nodes i lt) (λ k e. position_there (is_child_named t.rows i name) k e)

  down_spot : (s : Spot) (q : Option ℕ) (name : List ℕ) → IsSpot s → AreModules q → IsSpot (down t s q name)
  down_spot spot.Root None name s m = tt
  down_spot spot.Root (Some q) name s m = module_spot q name m
  down_spot (spot.Node i) None name s m = tt
  down_spot (spot.Node i) (Some q) name s m = node_spot i q name s
  down_spot spot.Missing q name s m = tt
  down_spot spot.Unknown q name s m = absurd s

  led_module : (o : Option ℕ) → AreModules (module_led t.rows o)
  led_module None = tt
  led_module (Some i) = by (module_at t.rows i) refl
    where
      by : (o : Option ℕ) → module_at t.rows i ≡ o → AreModules o
      by None e = tt
      by (Some m) e = open_.rows i m e

  name_module : (w m : ℕ) (prefix : Option (List ℕ)) → m < length (roots t.rows) → AreModules (named_module t.rows w m prefix)
  unfolding named_module
  name_module w m None lt = lt
  name_module w m (Some prefix) lt = led_module (prefix_leads t.rows w prefix)

  walked_spot : (w m : ℕ) (s : Spot) (ns : List NodeName) → m < length (roots t.rows) → IsSpot s → IsSpot (walked t w m s ns)
  unfolding stepped
  walked_spot w m s [] lt is = is
  walked_spot w m s (n ∷ ns) lt is = walked_spot w m (stepped t w m s n) ns lt (down_spot s (named_module t.rows w m n.prefix) n.name is (name_module w m n.prefix lt))

  -- where a path leads is known
  abbrev IsSure : Led → Type 0
  IsSure (led.Node y) = is_leaf_node t y ≡ true
  IsSure led.Missing = ⊤
  IsSure led.Unknown = ⊥

  ended_sure : (s : Spot) → IsSpot s → IsSure (ended t s)
  ended_sure spot.Root is = tt
  ended_sure (spot.Node i) is = by (is_leaf_node t i) refl
    where
      by : (b : Bool) → is_leaf_node t i ≡ b → IsSure (cond b (led.Node i) led.Missing)
      by true leaf = leaf
      by false leaf = tt
  ended_sure spot.Missing is = tt
  ended_sure spot.Unknown is = absurd is

  if_sure : (x : ℕ) (w m : Option ℕ) (o : Option LeafrefPath) → x < length t.nodes → AreModules m → IsSure (led_if t x w m o)
  unfolding led_along
  if_sure x None m o lt is = tt
  if_sure x (Some w) None o lt is = tt
  if_sure x (Some w) (Some m) None lt is = tt
  if_sure x (Some w) (Some m) (Some p) lt is = ended_sure (walked t w m (begun t x p.start) p.nodes) (walked_spot w m (begun t x p.start) p.nodes is (begun_spot x p.start lt))

  owner_module : (x : ℕ) (o : Option Instance) → slice_get t.nodes x ≡ o → AreModules (owner_in o)
  owner_module x None is = tt
  owner_module x (Some node) is = open_.owners x node is

  by_sure : (x p : ℕ) → x < length t.nodes → IsSure (led_by t x p)
  unfolding led_by owner_of
  by_sure x p lt = if_sure x (module_at t.rows p) (owner_in (slice_get t.nodes x)) (path_at t.rows p) lt (owner_module x (slice_get t.nodes x) refl)

-- ---- leafrefs and types without a fault

module _ (rows : List Row) (facts : Facts) (are : AreFacts rows facts) (all : AreFaultless rows facts) (open_ : IsOpen (tree rows facts)) (acyclic : (i : ℕ) → LeadsBy (leads rows (definitions rows)) i i → ⊥) where
  abbrev defs : List (Option ℕ)
  defs = definitions rows

  abbrev t : Expanded
  t = tree rows facts

  -- the path of a row has no fault
  no_fault : (p : ℕ) → p < length rows → slice_index_or facts.paths p None ≡ None
  unfolding path_flaw
  no_fault p lt = by (slice_index_or facts.paths p None) (sym (ap (λ (o : Option Row). flaw_in o (slice_index_or facts.paths p None)) r.1) ∙ (all.each p r.0 r.1).path)
    where
      r : (r : Row) × (slice_get rows p ≡ Some r)
      r = row_there rows p lt

      by : (o : Option PathFault) → flaw_from r.0 o ≡ None → o ≡ None
      by None e = refl
      by (Some f) e = absurd (cc)

  sound : (p : ℕ) → p < length rows → HasNoFault defs t p
  sound p lt = subst (λ (o : Option PathFault). HasFault defs t p o) (no_fault p lt) (are.paths p lt)

  -- a leafref's path is that of a row
  row_within : (x p : ℕ) (o : Option ℕ) → path_row_of (meaning_at rows defs o) ≡ Some p → p < length rows
  row_within x p None e = absurd (cc)
  row_within x p (Some i) e = by (meaning_of rows defs i) refl e
    where
      by : (m : Option Meaning) → meaning_of rows defs i ≡ m → path_row_of m ≡ Some p → p < length rows
      by None is f = absurd (cc)
      by (Some (plain d)) is f = absurd (cc)
      by (Some (reference q)) is f = path_within rows defs i p (is ∙ ap (λ (n : ℕ). Some (reference n)) (same_Some q p f))

  path_there : (x p : ℕ) → path_row defs t x ≡ Some p → p < length rows
  unfolding path_row
  path_there x p e = row_within x p (row_of facts.nodes x) e

  led_is : (x p : ℕ) → path_row defs t x ≡ Some p → led_to defs t x ≡ Some (led_by t x p)
  unfolding led_to
  led_is x p e = ap (led_from t x) e

  -- a leafref leads to a node
  leads_somewhere : (x p : ℕ) → x < length facts.nodes → path_row defs t x ≡ Some p → (y : ℕ) × (led_to defs t x ≡ Some (led.Node y))
  leads_somewhere x p lt e = by (led_by t x p) refl (by_sure t open_ x p lt)
    where
      by : (l : Led) → led_by t x p ≡ l → IsSure t open_ l → (y : ℕ) × (led_to defs t x ≡ Some (led.Node y))
      by (led.Node y) is leaf = (y, led_is x p e ∙ ap (λ (l : Led). Some l) is)
      by led.Missing is leaf = absurd (sound p (path_there x p e) x fault.Missing e (led_is x p e ∙ ap (λ (l : Led). Some l) is))
      by led.Unknown is leaf = absurd leaf

  -- where a node leads as a leafref is known
  pub led_known : (x : ℕ) → x < length facts.nodes → (led_to defs t x ≡ None) ⊎ ((y : ℕ) × (led_to defs t x ≡ Some (led.Node y)))
  unfolding led_to
  led_known x lt = by (path_row defs t x) refl
    where
      by : (o : Option ℕ) → path_row defs t x ≡ o → (led_from t x (path_row defs t x) ≡ None) ⊎ ((y : ℕ) × (led_from t x (path_row defs t x) ≡ Some (led.Node y)))
      by None e = inl (ap (led_from t x) e)
      by (Some p) e = inr (leads_somewhere x p lt e)

  -- ---- types

  abbrev IsLeaf : ℕ → Type 0
  IsLeaf x = is_leaf_node t x ≡ true

  -- the row of a leaf or leaf-list
  record IsLeafPlace (x : ℕ) : Type 0 where
    place : Instance
    there : slice_get facts.nodes x ≡ Some place
    row : Row
    row_there : slice_get rows place.row ≡ Some row
    leaf : is_leaf row.word ≡ true

  leaf_row : (x : ℕ) (place : Instance) (o : Option Row) → slice_get facts.nodes x ≡ Some place → slice_get rows place.row ≡ o → is_leaf_in o ≡ true → IsLeafPlace x
  leaf_row x place None there is e = absurd (cc)
  leaf_row x place (Some r) there is e = record { place = place; there = there; row = r; row_there = is; leaf = e }

  leaf_at : (x : ℕ) (o : Option Instance) → slice_get facts.nodes x ≡ o → is_leaf_at rows (row_in o) ≡ true → IsLeafPlace x
  leaf_at x None there e = absurd (cc)
  leaf_at x (Some place) there e = leaf_row x place (slice_get rows place.row) there refl e

  leaf_place : (x : ℕ) → IsLeaf x → IsLeafPlace x
  unfolding is_leaf_node row_of
  leaf_place x e = leaf_at x (slice_get facts.nodes x) refl e

  leaf_typed : (w : Word) → is_leaf w ≡ true → is_typed w ≡ true
  leaf_typed word.Leaf e = refl
  leaf_typed word.LeafList e = refl
  leaf_typed _ e = absurd (cc)

  leaf_within : (x : ℕ) → IsLeaf x → x < length facts.nodes
  leaf_within x e = let p = leaf_place x e in within facts.nodes x p.place p.there

  target_leaf : (x y : ℕ) → x < length facts.nodes → led_to defs t x ≡ Some (led.Node y) → IsLeaf y
  unfolding led_to
  target_leaf x y lt e = by (path_row defs t x) e
    where
      by : (o : Option ℕ) → led_from t x o ≡ Some (led.Node y) → IsLeaf y
      by None f = absurd (cc)
      by (Some p) f = subst (λ (l : Led). IsSure t open_ l) (same_Some (led_by t x p) (led.Node y) f) (by_sure t open_ x p lt)

  on : (x y : ℕ) → IsLeaf x → Contains (targets defs t x) y → IsLeaf y
  unfolding targets
  on x y leaf c = by (led_known x (leaf_within x leaf))
    where
      by : (led_to defs t x ≡ None) ⊎ ((z : ℕ) × (led_to defs t x ≡ Some (led.Node z))) → IsLeaf y
      by (inl e) = absurd (nothing y (subst (λ (o : Option Led). Contains (target_in o) y) e c))
      by (inr (z, e)) = elim (first_or_later z y [] (subst (λ (o : Option Led). Contains (target_in o) y) e c)) [
        | inl same ↦ target_leaf x y (leaf_within x leaf) (e ∙ ap (λ (n : ℕ). Some (led.Node n)) same)
        | inr more ↦ absurd (nothing y more)
      ]

  none_circular : (x : ℕ) → IsLeaf x → LeadsBy (targets defs t) x x → ⊥
  unfolding path_row led_to targets
  none_circular x leaf l = by (path_row defs t x) refl
    where
      by : (o : Option ℕ) → path_row defs t x ≡ o → ⊥
      by None e = leads_nowhere (targets defs t) x x (ap (λ (o : Option ℕ). target_in (led_from t x o)) e) l
      by (Some p) e = sound p (path_there x p e) x fault.Circular e l

  abbrev value : ℕ → ℕ → Option TypeOfLeaf
  value steps x = worth_within (strict (type_step defs t)) (targets defs t) steps x

  -- the type of a leaf that is no leafref
  own_type : (x : ℕ) → IsLeaf x → targets defs t x ≡ [] → (ty : TypeOfLeaf) × (plain_at rows defs (row_of facts.nodes x) ≡ Some ty)
  unfolding targets path_row row_of plain_type
  own_type x leaf none = by m.0 m.1 (led_known x (leaf_within x leaf))
    where
      p : IsLeafPlace x
      p = leaf_place x leaf

      m : (m : Meaning) × (meaning_of rows defs p.place.row ≡ Some m)
      m = meaning_known rows facts all acyclic p.place.row p.row p.row_there (leaf_typed p.row.word p.leaf)

      by : (m : Meaning) → meaning_of rows defs p.place.row ≡ Some m → (led_to defs t x ≡ None) ⊎ ((y : ℕ) × (led_to defs t x ≡ Some (led.Node y))) → (ty : TypeOfLeaf) × (plain_at rows defs (row_in (slice_get facts.nodes x)) ≡ Some ty)
      by (plain d) is l =
          let ty = type_there rows defs p.place.row d is in
          (ty.0, ap (λ (o : Option Instance). plain_at rows defs (row_in o)) p.there ∙ ap plain_in is ∙ ty.1)
      by (reference q) is (inr (y, e)) = absurd (let no : y ∷ [] ≡ [] = sym (ap target_in e) ∙ none in cc)
      by (reference q) is (inl e) =
          let path : path_row defs t x ≡ Some q = ap (λ (o : Option Instance). path_row_of (meaning_at rows defs (row_in o))) p.there ∙ ap path_row_of is in
          absurd (let no : None ≡ Some (led_by t x q) = sym e ∙ led_is x q path in cc)

  step_known : (x : ℕ) (known : List TypeOfLeaf) (ks : List ℕ) (steps : ℕ) → IsLeaf x → targets defs t x ≡ ks → all_there (map (value steps) ks) ≡ Some known → (ty : TypeOfLeaf) × (type_step defs t x known ≡ Some ty)
  step_known x (k ∷ known) ks steps leaf are e = (k, refl)
  step_known x [] [] steps leaf are e = own_type x leaf are
  step_known x [] (j ∷ ks) steps leaf are e = let s = split (value steps) j ks [] e in let no = s.known_is in absurd (cc)

  founded : IsFounded value (targets defs t) (length facts.nodes) IsLeaf
  founded = record {
    on = on;
    within = leaf_within;
    acyclic = none_circular;
    makes = λ steps x known less leaf e. (let s = step_known x known (targets defs t x) steps leaf refl e in (s.0, ap (λ (o : Option (List TypeOfLeaf)). option_and_then (type_step defs t x) o) e ∙ s.1));
  }

  -- the type of a leaf or leaf-list is known
  pub leaf_type_known : (x : ℕ) (place : Instance) (r : Row) → slice_get facts.nodes x ≡ Some place → slice_get rows place.row ≡ Some r → is_leaf r.word ≡ true → (ty : TypeOfLeaf) × (type_of_node defs t x ≡ Some ty)
  unfolding type_of_node worth_of is_leaf_node row_of
  leaf_type_known x place r there is leaf =
      value_known value (targets defs t) (length facts.nodes) IsLeaf founded x (ap (λ (o : Option Instance). is_leaf_at rows (row_in o)) there ∙ ap is_leaf_in is ∙ leaf)
