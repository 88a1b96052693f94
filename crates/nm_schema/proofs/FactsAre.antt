-- What the function says of rows is so.
use Rattle.std.proofs.Common.{◌≡◌, ◌↔◌, ◌∙◌, ◌<◌, ◌≤◌, ◌+◌, ◌⊎◌, inl, inr, ℕ, zero, suc, List, [], ◌∷◌, ◌++◌, length, map, Bool, true, false, cond, ◌==◌, ◌&&◌, ◌||◌, Option, Some, None, slice_get, slice_index_or, refl, sym, ap, subst, arith}
use Rattle.std.specs.Prelude.{Contains}
use Rattle.std.specs.List.{find, list_any, range_with_len}
use Rattle.std.proofs.lemmas.Bool.{cases_lt, and_parts}
use Rattle.std.proofs.lemmas.Grind.{common_steps}
use Rattle.std.proofs.lemmas.List.FromFn.{get_or-map-range_with_len, length-map-range_with_len}
use Rattle.std.proofs.lemmas.List.Elements.{All-contains}
use Rattle.std.proofs.lemmas.Option.{same_Some}
use Rattle.nm_schema_statements.specs.declared.row.Row.{Row}
use Rattle.nm_schema_statements.specs.declared.word.Word.TheVariants as word
use Rattle.nm_schema_statements.specs.Rows.{has_word, first_below, same_parent, roots, AreRows}
use Rattle.nm_schema_names.specs.Graph.{leading}
use Rattle.nm_schema_names.proofs.Within.{leading-within}
use Rattle.nm_schema_uses.specs.Holding.{holding}
use Rattle.nm_schema_uses.specs.Config.{state_in, is_state, configuring, LeadsBy, IsConfiguration, IsInState, Marks}
use Rattle.nm_schema_uses.proofs.Graphs.{holding-within}
use Rattle.nm_schema_keys.specs.Keys.{has_row, has_known, keys_at, keys_of, IsKey}
use Rattle.nm_schema_nodes.specs.declared.instance.Instance.{Instance}
use Rattle.nm_schema_nodes.specs.Expansion.{Expanded, kept_below, grown_members, IsExpansion}
use Rattle.nm_schema_nodes.specs.Growing.{instance, IsGrowing}
use Rattle.nm_schema_nodes.proofs.Growth.{seeds_none, seeded, members-added, grown, weigh-next}
use Rattle.nm_schema_nodes.proofs.Depths.{grown_all}
use Rattle.nm_schema_leafref.specs.declared.fault.PathFault.{PathFault}
use Rattle.nm_schema_leafref.specs.Walk.{path_row, led_to}
use Rattle.nm_schema_leafref.specs.Target.{targets}
use Rattle.nm_schema_leafref.specs.Fault.{IsFaulty, HasFault}
use Rattle.nm_schema_leafref.proofs.Targets.{path_row-past, led_to-within}
use Rattle.nm_schema_leafref.proofs.Faults.{IsFaultOf, fault-is}
use Rattle.nm_schema_faults.specs.Fault.{first_some}
use Rattle.nm_schema_faults.specs.Facts.{AreFacts, IsCycle, definitions, tree}
use Rattle.nm_schema_faults.proofs.Defining.{definitions-named}
use Rattle.nm_schema.proofs.Orderly.{leads_before}
use Rattle.nm_schema.specs.FactsOf.{leads_within, reaches_within, cycle_of, is_configured, stands_in_state, marks_of, standing_of, is_key_leaf, tops_of, below_of, filled_from, nodes_of, node_fault, fault_for, path_fault, facts_in}
use Rattle.nm_schema.proofs.Elements.{here, later, in_range, finds_none, finds_some}
use Rattle.nm_schema.proofs.Faultless.{within, first_none}
use Rattle.nm_schema.proofs.Givens.{one_of, parent_is}
use Rattle.nm_schema.proofs.Keys.{key_rows}
use Rattle.nm_schema.proofs.Defaults.{has_this}
use Rattle.nm_schema.proofs.Listings.{first_stands}
use Rattle.nm_schema.proofs.Siblings.{kept_parts}
use Rattle.nm_schema.proofs.Reached.{some_true, true_some, told_leads, leads_told, leads_decides, reaches_decides, leads_inside}

-- ---- marks

past : {X : Type 0} (xs : List X) (i : ℕ) (x : X) → length xs ≤ i → slice_index_or xs i x ≡ x
past [] i x le = refl
past (y ∷ xs) zero x le = absurd (omega (arith, le))
past (y ∷ xs) (suc i) x le = past xs i x (omega (arith, le))

module _ (rows : List Row) where
  at_mark : (test : ℕ → Bool) (i : ℕ) → i < length rows → slice_index_or (marks_of rows test) i false ≡ test i
  at_mark test i lt = get_or-map-range_with_len test 0 (length rows) i i false lt (omega arith)

  marks_size : (test : ℕ → Bool) → length (marks_of rows test) ≡ length rows
  marks_size test = length-map-range_with_len test 0 (length rows)

  marks_are : (test : ℕ → Bool) (P : ℕ → Type 0) → ((i : ℕ) → i < length rows → (test i ≡ true) ↔ P i) → ((i : ℕ) → P i → i < length rows) → Marks P (marks_of rows test)
  marks_are test P tells inside i = (told, so)
    where
      by : (i < length rows) ⊎ (length rows ≤ i) → slice_index_or (marks_of rows test) i false ≡ true → P i
      by (inl lt) e = (tells i lt).0 (sym (at_mark test i lt) ∙ e)
      by (inr le) e = absurd (let size = marks_size test in let is : false ≡ true = sym (past (marks_of rows test) i false (omega (arith, size, le))) ∙ e in cc)

      told : slice_index_or (marks_of rows test) i false ≡ true → P i
      told e = by (cases_lt i (length rows)) e

      so : P i → slice_index_or (marks_of rows test) i false ≡ true
      so p = let lt = inside i p in at_mark test i lt ∙ (tells i lt).1 p

-- ---- the first of a range

find_least : (p : ℕ → Bool) (n a c j : ℕ) → find p (range_with_len a n) ≡ Some c → a ≤ j → j < c → p j ≡ false
find_least p zero a c j e le lt = absurd (cc)
find_least p (suc n) a c j e le lt = by (p a) refl (find_least p n (a + 1) c j) e
  where
    by : (b : Bool) → p a ≡ b → (find p (range_with_len (a + 1) n) ≡ Some c → a + 1 ≤ j → j < c → p j ≡ false) → cond b (Some a) (find p (range_with_len (a + 1) n)) ≡ Some c → p j ≡ false
    by true is rest f = absurd (let same = same_Some a c f in omega (arith, same, le, lt))
    by false is rest f = on (cases_lt a j)
      where
        on : (a < j) ⊎ (j ≤ a) → p j ≡ false
        on (inl less) = rest f (omega (arith, less)) lt
        on (inr most) = let same : j ≡ a = omega (arith, most, le) in ap p same ∙ is

-- the first that is there, and where
record IsFirst (g : ℕ → Option PathFault) (a : ℕ) (f : PathFault) : Type 0 where
  at : ℕ
  from : a ≤ at
  is : g at ≡ Some f
  none : (j : ℕ) → a ≤ j → j < at → g j ≡ None

first_at : (g : ℕ → Option PathFault) (n a : ℕ) (f : PathFault) → first_some (map g (range_with_len a n)) ≡ Some f → IsFirst g a f
first_at g zero a f e = absurd (cc)
first_at g (suc n) a f e = by (g a) refl (first_at g n (a + 1) f) e
  where
    by : (o : Option PathFault) → g a ≡ o → (first_some (map g (range_with_len (a + 1) n)) ≡ Some f → IsFirst g (a + 1) f) → first_some (o ∷ map g (range_with_len (a + 1) n)) ≡ Some f → IsFirst g a f
    by (Some x) is rest h = record { at = a; from = omega arith; is = is ∙ h; none = λ j le lt. absurd (omega (arith, le, lt)) }
    by None is rest h =
        let r = rest h in
        record {
          at = r.at;
          from = omega (arith, r.from);
          is = r.is;
          none = λ j le lt. elim (cases_lt a j) [
            | inl less ↦ r.none j (omega (arith, less)) lt
            | inr most ↦ let same : j ≡ a = omega (arith, most, le) in ap g same ∙ is
          ];
        }

-- ---- rows of modules

module _ (rows : List Row) (laws : AreRows rows) where
  abbrev defs : List (Option ℕ)
  defs = definitions rows

  abbrev count : ℕ
  count = length rows

  lead_within : (i k : ℕ) → Contains (leading rows i) k → k < count
  lead_within i k c = All-contains (λ k. k < count) (leading rows i) k (leading-within rows i) c

  hold_within : (i k : ℕ) → Contains (holding rows defs i) k → k < count
  hold_within i k c = All-contains (λ k. k < count) (holding rows defs i) k (holding-within rows defs i laws (definitions-named rows defs refl)) c

  config_within : (i k : ℕ) → Contains (configuring rows defs i) k → k < count
  config_within i k c = hold_within i k ((kept_parts rows defs i).among k c)

  root_within : (root : ℕ) → Contains (roots rows) root → root < count
  root_within root c = let o = one_of 0 None rows root c in within rows root o.row (ap (slice_get rows) (o.number ∙ omega arith) ∙ o.there)

  -- ---- cycles

  cycle_is : IsCycle rows (cycle_of rows)
  unfolding cycle_of
  cycle_is = by (find (λ i. leads_within (leading rows) count i i) (range_with_len 0 count)) refl
    where
      back : (i : ℕ) → LeadsBy (leading rows) i i → leads_within (leading rows) count i i ≡ true
      back i l = leads_told (leading rows) count lead_within i i l

      by : (o : Option ℕ) → find (λ i. leads_within (leading rows) count i i) (range_with_len 0 count) ≡ o → IsCycle rows o
      by None e = record {
        least = tt;
        none = λ i l. (
            let lt = leads_before rows i i l in
            let not_so = finds_none (λ i. leads_within (leading rows) count i i) (range_with_len 0 count) i e (in_range count i lt) in
            let is : true ≡ false = sym (back i l) ∙ not_so in
            absurd (cc)
            );
      }
      by (Some c) e =
          let s = finds_some (λ i. leads_within (leading rows) count i i) (range_with_len 0 count) c e in
          record {
            least = record {
              leads = told_leads (leading rows) count c c s.1;
              least = λ j lt l. (
                  let not_so = find_least (λ i. leads_within (leading rows) count i i) count 0 c j e (omega arith) lt in
                  let is : true ≡ false = sym (back j l) ∙ not_so in
                  absurd (cc)
                  );
            };
            none = tt;
          }

  -- ---- marks

  configured_are : Marks (IsConfiguration rows defs) (marks_of rows (is_configured rows))
  unfolding is_configured
  configured_are = marks_are rows (is_configured rows) (IsConfiguration rows defs) tells inside
    where
      told : (i : ℕ) → list_any (reaches_within (configuring rows defs) count i) (roots rows) ≡ true → IsConfiguration rows defs i
      told i e = let s = some_true (reaches_within (configuring rows defs) count i) (roots rows) e in (s.0, s.1, (reaches_decides (configuring rows defs) count config_within s.0 i).0 s.2)

      so : (i : ℕ) → IsConfiguration rows defs i → list_any (reaches_within (configuring rows defs) count i) (roots rows) ≡ true
      so i c = true_some (reaches_within (configuring rows defs) count i) (roots rows) c.0 c.1 ((reaches_decides (configuring rows defs) count config_within c.0 i).1 c.2)

      tells : (i : ℕ) → i < count → (is_configured rows i ≡ true) ↔ IsConfiguration rows defs i
      tells i lt = (told i, so i)

      inside : (i : ℕ) → IsConfiguration rows defs i → i < count
      inside i (root, c, inl same) = subst (λ (x : ℕ). x < count) same (root_within root c)
      inside i (root, c, inr l) = leads_inside (configuring rows defs) count config_within root i l

  state_within : (i : ℕ) → is_state rows i ≡ true → i < count
  unfolding is_state
  state_within i e = by (slice_get rows i) refl e
    where
      by : (o : Option Row) → slice_get rows i ≡ o → state_in rows i o ≡ true → i < count
      by None is f = absurd (cc)
      by (Some r) is f = within rows i r is

  in_state_are : Marks (IsInState rows defs) (marks_of rows (stands_in_state rows))
  unfolding stands_in_state
  in_state_are = marks_are rows (stands_in_state rows) (IsInState rows defs) tells inside
    where
      told : (i : ℕ) → list_any (λ k. is_state rows k && reaches_within (holding rows defs) count i k) (range_with_len 0 count) ≡ true → IsInState rows defs i
      told i e =
          let s = some_true (λ k. is_state rows k && reaches_within (holding rows defs) count i k) (range_with_len 0 count) e in
          let both = and_parts (is_state rows s.0) (reaches_within (holding rows defs) count i s.0) s.2 in
          (s.0, both.0, (reaches_decides (holding rows defs) count hold_within s.0 i).0 both.1)

      so : (i : ℕ) → IsInState rows defs i → list_any (λ k. is_state rows k && reaches_within (holding rows defs) count i k) (range_with_len 0 count) ≡ true
      so i (k, state, r) =
          let there = (reaches_decides (holding rows defs) count hold_within k i).1 r in
          true_some (λ k. is_state rows k && reaches_within (holding rows defs) count i k) (range_with_len 0 count) k (in_range count k (state_within k state)) (rw (state, there) refl)

      tells : (i : ℕ) → i < count → (stands_in_state rows i ≡ true) ↔ IsInState rows defs i
      tells i lt = (told i, so i)

      inside : (i : ℕ) → IsInState rows defs i → i < count
      inside i (k, state, inl same) = subst (λ (x : ℕ). x < count) same (state_within k state)
      inside i (k, state, inr l) = leads_inside (holding rows defs) count hold_within k i l

  -- ---- keys

  has_contains : (ns : List ℕ) (i : ℕ) → has_row ns i ≡ true → Contains ns i
  has_contains [] i e = absurd (cc)
  has_contains (n ∷ ns) i e = by (i == n) refl (has_contains ns i) e
    where
      number : (i == n) ≡ true → n ≡ i
      number f = grind (arith, common_steps)

      by : (b : Bool) → (i == n) ≡ b → (has_row ns i ≡ true → Contains ns i) → (b || has_row ns i) ≡ true → Contains (n ∷ ns) i
      by true is rest f = here n i ns (number is)
      by false is rest f = later n i ns (rest f)

  known_has : (o : Option (List ℕ)) (i : ℕ) → has_known o i ≡ true → (keys : List ℕ) × (o ≡ Some keys) × Contains keys i
  known_has None i e = absurd (cc)
  known_has (Some keys) i e = (keys, refl, has_contains keys i e)

  list_within : (l : ℕ) (keys : List ℕ) → keys_of rows defs (standing_of rows) l ≡ Some keys → l < count
  unfolding keys_of
  list_within l keys e = by (first_below rows l word.Key) refl e
    where
      by : (o : Option ℕ) → first_below rows l word.Key ≡ o → keys_at rows defs (standing_of rows) o ≡ Some keys → l < count
      by None first f = absurd (cc)
      by (Some k) first f =
          let s = first_stands rows l k word.Key first in
          let before = laws.parents k l s.row s.there s.parent in
          let lt = within rows k s.row s.there in
          omega (arith, before, lt)

  leaf_within : (i : ℕ) (o : Option Row) → slice_get rows i ≡ o → has_word word.Leaf o ≡ true → i < count
  leaf_within i None is e = absurd (cc)
  leaf_within i (Some r) is e = within rows i r is

  keys_are : Marks (IsKey rows defs (standing_of rows)) (marks_of rows (is_key_leaf rows))
  unfolding is_key_leaf
  keys_are = marks_are rows (is_key_leaf rows) (IsKey rows defs (standing_of rows)) tells inside
    where
      told : (i : ℕ) → list_any (λ l. has_known (keys_of rows defs (standing_of rows) l) i) (range_with_len 0 count) ≡ true → IsKey rows defs (standing_of rows) i
      told i e =
          let s = some_true (λ l. has_known (keys_of rows defs (standing_of rows) l) i) (range_with_len 0 count) e in
          let k = known_has (keys_of rows defs (standing_of rows) s.0) i s.2 in
          record { list = s.0; keys = k.0; known = k.1; among = k.2 }

      so : (i : ℕ) → IsKey rows defs (standing_of rows) i → list_any (λ l. has_known (keys_of rows defs (standing_of rows) l) i) (range_with_len 0 count) ≡ true
      so i k =
          true_some (λ l. has_known (keys_of rows defs (standing_of rows) l) i) (range_with_len 0 count) k.list (in_range count k.list (list_within k.list k.keys k.known))
          (ap (λ (o : Option (List ℕ)). has_known o i) k.known ∙ has_this k.keys i k.among)

      tells : (i : ℕ) → i < count → (is_key_leaf rows i ≡ true) ↔ IsKey rows defs (standing_of rows) i
      tells i lt = (told i, so i)

      inside : (i : ℕ) → IsKey rows defs (standing_of rows) i → i < count
      inside i k =
          let h = key_rows rows defs k.list k.keys (standing_of rows) k.known in
          leaf_within i (slice_get rows i) refl (h.each i k.among).leaf

  -- ---- nodes

  tops_grow : (n : ℕ) → n ≤ length (roots rows) → IsGrowing rows defs n 0 (tops_of rows n)
  unfolding tops_of
  tops_grow zero le = seeds_none rows defs [] refl
  tops_grow (suc n) le =
      let at : n + 1 ≡ suc n = omega arith in
      subst (λ (m : ℕ). IsGrowing rows defs m 0 (tops_of rows n ++ map (instance None n) (grown_members rows defs n))) at
      (seeded rows defs n (tops_of rows n) (grown_members rows defs n) (omega (arith, le)) refl (members-added rows defs n (omega (arith, le))) (tops_grow n (omega (arith, le))))

  none_past : (nodes : List Instance) (i : ℕ) → slice_get nodes i ≡ None → length nodes ≤ i
  none_past [] i e = omega arith
  none_past (x ∷ nodes) zero e = absurd (cc)
  none_past (x ∷ nodes) (suc i) e = let le = none_past nodes i e in omega (arith, le)

  past_none : (nodes : List Instance) (i : ℕ) → length nodes ≤ i → slice_get nodes i ≡ None
  past_none [] i le = refl
  past_none (x ∷ nodes) zero le = absurd (omega (arith, le))
  past_none (x ∷ nodes) (suc i) le = past_none nodes i (omega (arith, le))

  stays : (steps i : ℕ) (nodes : List Instance) → length nodes ≤ i → filled_from rows steps i nodes ≡ nodes
  unfolding filled_from
  stays zero i nodes le = refl
  stays (suc steps) i nodes le = ap (λ (o : Option Instance). filled_from rows steps (i + 1) (below_of rows nodes i o)) (past_none nodes i le) ∙ stays steps (i + 1) nodes (omega (arith, le))

  abbrev Grows : ℕ → List Instance → Type 0
  Grows i nodes = IsGrowing rows defs (length (roots rows)) i nodes

  ended : (i : ℕ) (nodes all : List Instance) → all ≡ nodes → length nodes ≤ i → Grows i nodes → IsExpansion rows defs all
  ended i nodes all same le g = subst (λ (l : List Instance). IsExpansion rows defs l) (sym same) (grown_all rows defs i nodes le g)

  filled : (steps i : ℕ) (nodes : List Instance) → Grows i nodes → 20000 ≤ i + steps → IsExpansion rows defs (filled_from rows steps i nodes)
  unfolding filled_from
  filled zero i nodes g most = ended i nodes nodes refl (no_more (slice_get nodes i) refl) g
    where
      no_more : (o : Option Instance) → slice_get nodes i ≡ o → length nodes ≤ i
      no_more None is = none_past nodes i is
      no_more (Some node) is = let some = weigh-next rows defs i nodes node is g.counted in absurd (omega (arith, some, g.bound, most))
  filled (suc steps) i nodes g most = by (slice_get nodes i) refl (λ more h. filled steps (i + 1) more h (omega (arith, most)))
    where
      by : (o : Option Instance) → slice_get nodes i ≡ o → ((more : List Instance) → Grows (i + 1) more → IsExpansion rows defs (filled_from rows steps (i + 1) more)) → IsExpansion rows defs (filled_from rows steps (i + 1) (below_of rows nodes i o))
      by None is rest = let le = none_past nodes i is in ended i nodes (filled_from rows steps (i + 1) nodes) (stays steps (i + 1) nodes (omega (arith, le))) le g
      by (Some node) is rest = rest (nodes ++ map (instance (Some i) node.owner) (kept_below rows defs node.row)) (grown rows defs (length (roots rows)) i nodes node is g)

  nodes_are : IsExpansion rows defs (nodes_of rows)
  unfolding nodes_of
  nodes_are = filled 20000 0 (tops_of rows (length (roots rows))) (tops_grow (length (roots rows)) (omega arith)) (omega arith)

-- ---- paths

module _ (typedefs : List (Option ℕ)) (t : Expanded) where
  target_within : (x y : ℕ) → Contains (targets typedefs t x) y → y < length t.nodes
  unfolding targets
  target_within x y c = All-contains (λ y. y < length t.nodes) (targets typedefs t x) y (led_to-within typedefs t x) c

  fault_is : (x : ℕ) → IsFaultOf typedefs t x (node_fault typedefs t x)
  unfolding node_fault
  fault_is x = fault-is typedefs t x (led_to typedefs t x) (leads_within (targets typedefs t) (length t.nodes) x x) refl (leads_decides (targets typedefs t) (length t.nodes) target_within x x)

  same_row : (p : ℕ) → same_parent (Some p) (Some p) ≡ true
  same_row p = grind (arith, common_steps)

  for_row : (p x : ℕ) → path_row typedefs t x ≡ Some p → fault_for typedefs t p x ≡ node_fault typedefs t x
  unfolding fault_for
  for_row p x e = ap (λ (b : Bool). cond b (node_fault typedefs t x) None) (ap (λ (o : Option ℕ). same_parent o (Some p)) e ∙ same_row p)

  of_row : (p x : ℕ) (f : PathFault) → fault_for typedefs t p x ≡ Some f → (path_row typedefs t x ≡ Some p) × (node_fault typedefs t x ≡ Some f)
  unfolding fault_for
  of_row p x f e = by (same_parent (path_row typedefs t x) (Some p)) refl e
    where
      by : (b : Bool) → same_parent (path_row typedefs t x) (Some p) ≡ b → cond b (node_fault typedefs t x) None ≡ Some f → (path_row typedefs t x ≡ Some p) × (node_fault typedefs t x ≡ Some f)
      by true is g = (parent_is (path_row typedefs t x) p is, g)
      by false is g = absurd (cc)

  none_faulty : (p x : ℕ) (f : PathFault) → path_row typedefs t x ≡ Some p → fault_for typedefs t p x ≡ None → IsFaulty typedefs t x f → ⊥
  none_faulty p x f path none faulty =
      let is : None ≡ Some f = sym none ∙ for_row p x path ∙ (fault_is x).only f faulty in
      absurd (cc)

  path_inside : (p x : ℕ) → path_row typedefs t x ≡ Some p → x < length t.nodes
  path_inside p x e = by (cases_lt x (length t.nodes))
    where
      by : (x < length t.nodes) ⊎ (length t.nodes ≤ x) → x < length t.nodes
      by (inl lt) = lt
      by (inr le) = absurd (let is : None ≡ Some p = sym (path_row-past typedefs t x le) ∙ e in cc)

  pub path_is : (p : ℕ) → HasFault typedefs t p (path_fault typedefs t p)
  unfolding path_fault
  path_is p = by (first_some (map (fault_for typedefs t p) (range_with_len 0 (length t.nodes)))) refl
    where
      by : (o : Option PathFault) → first_some (map (fault_for typedefs t p) (range_with_len 0 (length t.nodes))) ≡ o → HasFault typedefs t p o
      by None e = λ x f path. none_faulty p x f path (first_none (fault_for typedefs t p) (range_with_len 0 (length t.nodes)) x e (in_range (length t.nodes) x (path_inside p x path)))
      by (Some f) e =
          let a = first_at (fault_for typedefs t p) (length t.nodes) 0 f e in
          let o = of_row p a.at f a.is in
          record { node = a.at; path = o.0; faulty = (fault_is a.at).right f o.1; first = λ x g lt path. none_faulty p x g path (a.none x (omega arith) lt) }

-- ---- all of it

-- what the function says of the rows of modules is so
pub facts_are : (rows : List Row) → AreRows rows → AreFacts rows (facts_in rows)
unfolding facts_in
facts_are rows laws =
    let t : Expanded = tree rows (facts_in rows) in
    record {
      cycle = cycle_is rows laws;
      configured = configured_are rows laws;
      configured_size = marks_size rows (is_configured rows);
      in_state = in_state_are rows laws;
      in_state_size = marks_size rows (stands_in_state rows);
      keys = keys_are rows laws;
      keys_size = marks_size rows (is_key_leaf rows);
      nodes = nodes_are rows laws;
      paths = λ p lt. subst (λ (o : Option PathFault). HasFault (definitions rows) t p o) (sym (get_or-map-range_with_len (path_fault (definitions rows) t) 0 (length rows) p p None lt (omega arith))) (path_is (definitions rows) t p);
      paths_size = length-map-range_with_len (path_fault (definitions rows) t) 0 (length rows);
    }
