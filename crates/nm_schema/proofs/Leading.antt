-- Where leafrefs lead: the types on their way, and where their paths turn (RFC 7950 section 9.9).
use Rattle.std.proofs.Common.{◌≡◌, ◌∙◌, ◌<◌, ℕ, zero, suc, List, [], ◌∷◌, length, map, drop, Bool, true, false, cond, ◌==◌, Option, Some, None, IfSome, slice_get, refl, sym, ap, arith}
use Rattle.std.specs.Option.{option_and_then}
use Rattle.std.proofs.lemmas.Bool.{and_parts}
use Rattle.std.proofs.lemmas.Option.{same_Some}
use Rattle.nm_schema_statements.specs.declared.row.Row.{Row}
use Rattle.nm_schema_statements.specs.declared.word.Word.TheVariants as word
use Rattle.nm_schema_statements.specs.Word.{same_word}
use Rattle.nm_schema_statements.specs.Flaw.{text_of}
use Rattle.nm_schema_statements.specs.Rows.{same_parent, module_at}
use Rattle.nm_graph.specs.Value.{strict, all_there}
use Rattle.nm_types.specs.LeafType.{TypeOfLeaf}
use Rattle.nm_schema_typing.specs.declared.leafref.NodeName.{NodeName}
use Rattle.nm_schema_typing.specs.declared.leafref.Start.{Start}
use Rattle.nm_schema_typing.specs.declared.leafref.Start.TheVariants.{Root, Up}
use Rattle.nm_schema_typing.specs.Leafref.{LeafrefPath, pieces, node_named, before, nodes_named, ups, path_from, path_along, up_along, relative_path, path_of_pieces, path_read}
use Rattle.nm_schema_uses.specs.Worth.{worth_within, worth_of}
use Rattle.nm_schema_nodes.specs.declared.instance.Instance.{Instance}
use Rattle.nm_schema_nodes.specs.Expansion.{Expanded, is_below, is_top, owner_of}
use Rattle.nm_schema_nodes.specs.Named.{has_name, is_child_named, is_top_named, child_named, top_named}
use Rattle.nm_schema_nodes.proofs.Unfolding.{split, unfold_one, unfold_within}
use Rattle.nm_schema_tree.specs.declared.node.Node.{Node}
use Rattle.nm_schema_tree.specs.Nodes.{parent_of as above_of}
use Rattle.nm_schema_tree.proofs.Positions.{first_passes}
use Rattle.nm_schema_leafref.specs.declared.led.Led.TheVariants as led
use Rattle.nm_schema_leafref.specs.declared.led.Spot.{Spot}
use Rattle.nm_schema_leafref.specs.declared.led.Spot.TheVariants as spot
use Rattle.nm_schema_leafref.specs.Place.{parent_in, parent_of, levels_within, levels_of, is_leaf_node, is_known_node, is_known_module, is_of_module}
use Rattle.nm_schema_leafref.specs.Walk.{spot_at, above, raised, begun, named_module, found_or, into_module, into_node, down, stepped, walked, ended, led_along, path_in, path_at, path_row, led_if, led_by, led_from, led_to}
use Rattle.nm_schema_leafref.specs.Target.{targets, type_step, type_of_node, target_in, ups_from, ups_by, ups_at, up_of}
use Rattle.nm_schema.specs.Whole.{risen}
use Rattle.nm_schema.proofs.Givens.{parent_is, no_parent}
use Rattle.nm_schema.proofs.Faultless.{within}

-- ---- types

module _ (typedefs : List (Option ℕ)) (t : Expanded) where
  within_alike : (steps x y : ℕ) (ty : TypeOfLeaf) → targets typedefs t x ≡ y ∷ [] → worth_within (strict (type_step typedefs t)) (targets typedefs t) steps x ≡ Some ty → worth_within (strict (type_step typedefs t)) (targets typedefs t) steps y ≡ Some ty
  within_alike zero x y ty to e = absurd (cc)
  within_alike (suc steps) x y ty to e =
      let f = worth_within (strict (type_step typedefs t)) (targets typedefs t) steps in
      let u = unfold_one (type_step typedefs t) (targets typedefs t) steps x ty e in
      let there : all_there (map f (y ∷ [])) ≡ Some u.known = sym (ap (λ (l : List ℕ). all_there (map f l)) to) ∙ u.there in
      let s = split f y [] u.known there in
      let made : type_step typedefs t x (s.first ∷ s.others) ≡ Some ty = sym (ap (type_step typedefs t x) s.known_is) ∙ u.made in
      let v = unfold_within (type_step typedefs t) (targets typedefs t) steps y ty (s.first_is ∙ made) in
      ap (λ (known : Option (List TypeOfLeaf)). option_and_then (type_step typedefs t y) known) v.there ∙ v.made

  -- what a leafref leads to has its type
  pub alike : (x y : ℕ) (ty : TypeOfLeaf) → led_to typedefs t x ≡ Some (led.Node y) → type_of_node typedefs t x ≡ Some ty → type_of_node typedefs t y ≡ Some ty
  unfolding type_of_node worth_of targets
  alike x y ty to e = within_alike (length t.nodes) x y ty (ap target_in to) e

-- ---- up

-- one further up
risen_further : (nodes : List Node) (n : ℕ) (from : Option ℕ) (z : ℕ) → risen nodes n from ≡ Some (Some z) → risen nodes (suc n) from ≡ Some (above_of nodes z)
risen_further nodes zero None z e = absurd (let no = same_Some None (Some z) e in cc)
risen_further nodes zero (Some i) z e = let same = same_Some (Some i) (Some z) e in let at = same_Some i z same in ap (λ (k : ℕ). Some (above_of nodes k)) at
risen_further nodes (suc n) None z e = absurd (cc)
risen_further nodes (suc n) (Some i) z e = risen_further nodes n (above_of nodes i) z e

-- where one is on the way, if anywhere: at a node, or above all nodes
abbrev turn_of : Spot → Option (Option ℕ)
turn_of spot.Root = Some None
turn_of (spot.Node i) = Some (Some i)
turn_of spot.Missing = None
turn_of spot.Unknown = None

-- ---- the nodes of a path

-- a path goes through at least one node
record HasNodes (p : LeafrefPath) : Type 0 where
  first : NodeName
  others : List NodeName
  are : p.nodes ≡ first ∷ others

nodes_by : (start : Start) (first : Option NodeName) (others : Option (List NodeName)) (p : LeafrefPath) → path_from start (before first others) ≡ Some p → HasNodes p
nodes_by start None others p e = absurd (cc)
nodes_by start (Some first) None p e = absurd (cc)
nodes_by start (Some first) (Some others) p e =
    let made : LeafrefPath = record { start = start; nodes = first ∷ others } in
    let same : made ≡ p = cc in
    record { first = first; others = others; are = ap (λ (q : LeafrefPath). q.nodes) (sym same) }

nodes_along : (start : Start) (them : List (List ℕ)) (p : LeafrefPath) → path_along start them ≡ Some p → HasNodes p
nodes_along start [] p e = absurd (cc)
nodes_along start (piece ∷ them) p e = nodes_by start (node_named piece) (nodes_named them) p e

nodes_up : (n : ℕ) (them : List (List ℕ)) (p : LeafrefPath) → up_along n them ≡ Some p → HasNodes p
nodes_up zero them p e = absurd (cc)
nodes_up (suc n) them p e = nodes_along (Up (suc n)) (drop (suc n) them) p e

nodes_of : (them : List (List ℕ)) (p : LeafrefPath) → path_of_pieces them ≡ Some p → HasNodes p
unfolding relative_path
nodes_of [] p e = absurd (cc)
nodes_of ([] ∷ rest) p e = nodes_along Root rest p e
nodes_of ((b ∷ bytes) ∷ rest) p e = nodes_up (ups ((b ∷ bytes) ∷ rest)) ((b ∷ bytes) ∷ rest) p e

nodes_read : (text : List ℕ) (p : LeafrefPath) → path_read text ≡ Some p → HasNodes p
unfolding path_read
nodes_read text p e = nodes_of (pieces text) p e

nodes_in : (o : Option Row) (p : LeafrefPath) → path_in o ≡ Some p → HasNodes p
nodes_in None p e = absurd (cc)
nodes_in (Some r) p e = by (same_word r.word word.Path) e
  where
    by : (b : Bool) → cond b (path_read (text_of r.argument)) None ≡ Some p → HasNodes p
    by true f = nodes_read (text_of r.argument) p f
    by false f = absurd (cc)

nodes_at : (rows : List Row) (i : ℕ) (p : LeafrefPath) → path_at rows i ≡ Some p → HasNodes p
unfolding path_at
nodes_at rows i p e = nodes_in (slice_get rows i) p e

-- ---- the way

-- a node that one stands in is there, and comes before it
abbrev pub HoldsWithin : List Instance → Type 0
HoldsWithin nodes = (i p : ℕ) (c : Instance) → slice_get nodes i ≡ Some c → c.parent ≡ Some p → (p < i) × (a : Instance) × (slice_get nodes p ≡ Some a)

module _ (t : Expanded) (nodes : List Node) (stand : (i : ℕ) (c : Instance) → slice_get t.nodes i ≡ Some c → above_of nodes i ≡ c.parent) (holds : HoldsWithin t.nodes) where
  -- ---- down

  found_turn : (o : Option ℕ) (b : Bool) (u : Option ℕ) → turn_of (found_or o b) ≡ Some u → (z : ℕ) × (u ≡ Some z) × (o ≡ Some z)
  found_turn (Some i) b u e = (i, sym (same_Some (Some i) u e), refl)
  found_turn None true u e = absurd (cc)
  found_turn None false u e = absurd (cc)

  child_above : (i : ℕ) (name : List ℕ) (z : ℕ) → child_named t.rows t.nodes i name ≡ Some z → above_of nodes z ≡ Some i
  unfolding child_named is_below has_name
  child_above i name z e =
      let h = first_passes (is_child_named t.rows i name) t.nodes z e in
      let both = and_parts (is_below i h.x) (has_name t.rows name h.x) h.passes in
      stand z h.x h.here ∙ parent_is h.x.parent i both.0

  top_above : (m : ℕ) (name : List ℕ) (z : ℕ) → top_named t.rows t.nodes m name ≡ Some z → above_of nodes z ≡ None
  unfolding top_named is_top has_name
  top_above m name z e =
      let h = first_passes (is_top_named t.rows m name) t.nodes z e in
      let both = and_parts (is_top m h.x) (has_name t.rows name h.x) h.passes in
      let top = and_parts (same_parent h.x.parent None) (h.x.owner == m) both.0 in
      stand z h.x h.here ∙ no_parent h.x.parent top.0

  -- one comes down to a node from what stands above it
  record ComesDown (from : Spot) (to : Option ℕ) : Type 0 where
    node : ℕ
    to_is : to ≡ Some node
    from_is : turn_of from ≡ Some (above_of nodes node)

  down_top : (q : ℕ) (name : List ℕ) (u : Option ℕ) → turn_of (into_module t q name) ≡ Some u → ComesDown spot.Root u
  unfolding into_module
  down_top q name u e =
      let f = found_turn (top_named t.rows t.nodes q name) (is_known_module t q) u e in
      record { node = f.0; to_is = f.1; from_is = ap (λ (o : Option ℕ). Some o) (sym (top_above q name f.0 f.2)) }

  down_child : (i q : ℕ) (name : List ℕ) (u : Option ℕ) → turn_of (into_node t i q name) ≡ Some u → ComesDown (spot.Node i) u
  unfolding into_node
  down_child i q name u e = by (is_of_module t i q) e
    where
      by : (b : Bool) → turn_of (cond b (found_or (child_named t.rows t.nodes i name) (is_known_node t i)) spot.Missing) ≡ Some u → ComesDown (spot.Node i) u
      by false g = absurd (cc)
      by true g =
          let f = found_turn (child_named t.rows t.nodes i name) (is_known_node t i) u g in
          record { node = f.0; to_is = f.1; from_is = ap (λ (o : Option ℕ). Some o) (sym (child_above i name f.0 f.2)) }

  down_from : (s : Spot) (q : Option ℕ) (name : List ℕ) (u : Option ℕ) → turn_of (down t s q name) ≡ Some u → ComesDown s u
  down_from spot.Root None name u e = absurd (cc)
  down_from spot.Root (Some q) name u e = down_top q name u e
  down_from (spot.Node i) None name u e = absurd (cc)
  down_from (spot.Node i) (Some q) name u e = down_child i q name u e
  down_from spot.Missing q name u e = absurd (cc)
  down_from spot.Unknown q name u e = absurd (cc)

  -- going up again from the end leads to where one came from
  walked_up : (w m : ℕ) (s : Spot) (ns : List NodeName) (y : ℕ) → walked t w m s ns ≡ spot.Node y → (u : Option ℕ) × (turn_of s ≡ Some u) × (risen nodes (length ns) (Some y) ≡ Some u)
  unfolding stepped
  walked_up w m s [] y e = (Some y, ap turn_of e, refl)
  walked_up w m s (n ∷ ns) y e =
      let r = walked_up w m (stepped t w m s n) ns y e in
      let d = down_from s (named_module t.rows w m n.prefix) n.name r.0 r.1 in
      let up : risen nodes (length ns) (Some y) ≡ Some (Some d.node) = r.2 ∙ ap (λ (o : Option ℕ). Some o) d.to_is in
      (above_of nodes d.node, d.from_is, risen_further nodes (length ns) (Some y) d.node up)

  -- ---- up

  -- a node of the tree, or above all nodes
  abbrev IsThere : Option ℕ → Type 0
  IsThere None = Unit {0}
  IsThere (Some i) = (c : Instance) × (slice_get t.nodes i ≡ Some c)

  parent_is_there : (i : ℕ) (c : Instance) (o : Option ℕ) → slice_get t.nodes i ≡ Some c → c.parent ≡ o → IsThere o
  parent_is_there i c None is e = tt
  parent_is_there i c (Some p) is e = let h = holds i p c is e in (h.1, h.2)

  parent_here : (i : ℕ) (c : Instance) → slice_get t.nodes i ≡ Some c → parent_of t.nodes i ≡ c.parent
  unfolding parent_of
  parent_here i c is = ap parent_in is

  missing_stays : (n : ℕ) → raised t n spot.Missing ≡ spot.Missing
  unfolding above
  missing_stays zero = refl
  missing_stays (suc n) = missing_stays n

  raised_from : (n : ℕ) (o u : Option ℕ) → IsThere o → turn_of (raised t n (spot_at o)) ≡ Some u → risen nodes n o ≡ Some u
  unfolding above
  raised_from zero None u there e = e
  raised_from zero (Some i) u there e = e
  raised_from (suc n) None u there e = absurd (let no : None ≡ Some u = sym (ap turn_of (missing_stays n)) ∙ e in cc)
  raised_from (suc n) (Some i) u (c, is) e =
      let from : turn_of (raised t n (spot_at c.parent)) ≡ Some u = sym (ap (λ (o : Option ℕ). turn_of (raised t n (spot_at o))) (parent_here i c is)) ∙ e in
      ap (risen nodes n) (stand i c is) ∙ raised_from n c.parent u (parent_is_there i c c.parent is refl) from

  -- as many nodes as there are up to the top lead above all nodes
  levels_up : (steps : ℕ) (o : Option ℕ) → IsThere o → IfSome o (λ i. i < steps) → risen nodes (levels_within steps t.nodes o) o ≡ Some None
  levels_up zero None there lt = refl
  levels_up (suc steps) None there lt = refl
  levels_up zero (Some i) there lt = absurd (omega (arith, lt))
  levels_up (suc steps) (Some i) (c, is) lt =
      ap (λ (o : Option ℕ). risen nodes (levels_within steps t.nodes o) (above_of nodes i)) (parent_here i c is)
      ∙ ap (λ (o : Option ℕ). risen nodes (levels_within steps t.nodes c.parent) o) (stand i c is)
      ∙ levels_up steps c.parent (parent_is_there i c c.parent is refl) (below c.parent refl)
    where
      below : (o : Option ℕ) → c.parent ≡ o → IfSome o (λ p. p < steps)
      below None e = tt
      below (Some p) e = let h = holds i p c is e in omega (arith, h.0, lt)

  begun_up : (start : Start) (x : ℕ) (c : Instance) (u : Option ℕ) → slice_get t.nodes x ≡ Some c → turn_of (begun t x start) ≡ Some u → risen nodes (ups_from t x start) (Some x) ≡ Some u
  unfolding levels_of
  begun_up Root x c u is e = levels_up (length t.nodes) (Some x) (c, is) (within t.nodes x c is) ∙ e
  begun_up (Up n) x c u is e = raised_from n (Some x) u (c, is) e

  -- ---- where a leafref leads

  ended_at : (s : Spot) (y : ℕ) → ended t s ≡ led.Node y → (s ≡ spot.Node y) × (is_leaf_node t y ≡ true)
  ended_at spot.Root y e = absurd (cc)
  ended_at spot.Missing y e = absurd (cc)
  ended_at spot.Unknown y e = absurd (cc)
  ended_at (spot.Node i) y e = by (is_leaf_node t i) refl e
    where
      by : (b : Bool) → is_leaf_node t i ≡ b → cond b (led.Node i) led.Missing ≡ led.Node y → (spot.Node i ≡ spot.Node y) × (is_leaf_node t y ≡ true)
      by false is f = absurd (cc)
      by true is f = let same : i ≡ y = cc in (ap (λ (k : ℕ). spot.Node k) same, sym (ap (is_leaf_node t) same) ∙ is)

  -- node y is a leaf or leaf-list; so many nodes above node x one comes to where one comes so many nodes, at least one, above node y
  pub record Turns (x up y : ℕ) : Type 0 where
    pub turn : Option ℕ
    pub down : ℕ
    pub up_is : risen nodes up (Some x) ≡ Some turn
    pub down_is : risen nodes (suc down) (Some y) ≡ Some turn
    pub leaf : is_leaf_node t y ≡ true

  turns_along : (w m x y : ℕ) (c : Instance) (p : LeafrefPath) → slice_get t.nodes x ≡ Some c → HasNodes p → led_along t w m x p ≡ led.Node y → Turns x (ups_from t x p.start) y
  unfolding led_along
  turns_along w m x y c p is has e =
      let end = ended_at (walked t w m (begun t x p.start) p.nodes) y e in
      let walk : walked t w m (begun t x p.start) (has.first ∷ has.others) ≡ spot.Node y = sym (ap (walked t w m (begun t x p.start)) has.are) ∙ end.0 in
      let r = walked_up w m (begun t x p.start) (has.first ∷ has.others) y walk in
      record { turn = r.0; down = length has.others; up_is = begun_up p.start x c r.0 is r.1; down_is = r.2; leaf = end.1 }

  turns_if : (x y : ℕ) (c : Instance) (w m : Option ℕ) (o : Option LeafrefPath) → slice_get t.nodes x ≡ Some c → ((p : LeafrefPath) → o ≡ Some p → HasNodes p) → led_if t x w m o ≡ led.Node y → Turns x (ups_by t x o) y
  turns_if x y c None m o is has e = absurd (cc)
  turns_if x y c (Some w) None o is has e = absurd (cc)
  turns_if x y c (Some w) (Some m) None is has e = absurd (cc)
  turns_if x y c (Some w) (Some m) (Some p) is has e = turns_along w m x y c p is (has p refl) e

  turns_by : (x y i : ℕ) (c : Instance) → slice_get t.nodes x ≡ Some c → led_by t x i ≡ led.Node y → Turns x (ups_by t x (path_at t.rows i)) y
  unfolding led_by
  turns_by x y i c is e = turns_if x y c (module_at t.rows i) (owner_of t.nodes x) (path_at t.rows i) is (nodes_at t.rows i) e

  turns_from : (x y : ℕ) (c : Instance) (o : Option ℕ) → slice_get t.nodes x ≡ Some c → led_from t x o ≡ Some (led.Node y) → Turns x (ups_at t x o) y
  turns_from x y c None is e = absurd (cc)
  turns_from x y c (Some i) is e = turns_by x y i c is (same_Some (led_by t x i) (led.Node y) e)

  -- where a leafref leads, and where its path turns
  pub turns : (typedefs : List (Option ℕ)) (x y : ℕ) (c : Instance) → slice_get t.nodes x ≡ Some c → led_to typedefs t x ≡ Some (led.Node y) → Turns x (up_of typedefs t x) y
  unfolding led_to up_of
  turns typedefs x y c is e = turns_from x y c (path_row typedefs t x) is e
