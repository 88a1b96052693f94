-- Whether a leafref is reached hangs on the rows of its target, and on the guards of its target's default.
use Rattle.std.proofs.Common.{◌≡◌, ℕ, ◌<◌, List, ◌++◌, length, Bool, true, false, not, ◌&&◌, ◌||◌, Option, Some, None, is_some, if◌then◌else◌, slice_get, refl, sym, ap, ◌∙◌}
use Rattle.std.specs.List.{list_any}
use Rattle.std.specs.FinMap.{get, contains_key}
use Rattle.nm_types.specs.declared.value.Value.{Value}
use Rattle.nm_types.specs.declared.value.Value.TheVariants.{Present}
use Rattle.nm_types.specs.Value.{is_same_value}
use Rattle.nm_schema_tree.specs.declared.node.Node.{Node}
use Rattle.nm_schema_tree.specs.declared.node.Reference.{Reference}
use Rattle.nm_schema_tree.specs.Nodes.{SchemaTree, same_parent, parent_of, keys_at, is_key, default_in, default_at, reference_at}
use Rattle.nm_path.specs.Sound.{IsSound}
use Rattle.nm_path.specs.Spelling.{node_of}
use Rattle.nm_config.specs.Rows.{Rows}
use Rattle.nm_config.specs.Under.{is_under}
use Rattle.nm_validate_rules.specs.declared.rule.Rule.TheVariants.{Leafref}
use Rattle.nm_validate_rules.specs.Guards.{leads_to, is_node, stands}
use Rattle.nm_validate_rules.specs.Places.{chain, places}
use Rattle.nm_validate_rules.specs.Values.{is_same_path, chosen_values, key_in_entry, default_in_use, Claim, claim_of, key_claims, claims_at, claims_by, row_values, has_key_leaf, key_values, default_values, is_reached}
use Rattle.nm_validate_rules.specs.Violated.{violated}
use Rattle.nm_validate_rules.proofs.Among.{any_passes, among_given, contains_among, among_contains}
use Rattle.nm_validate_rules.proofs.Leading.{itself}
use Rattle.nm_validate_rules.proofs.Looked.{get_within}
use Rattle.nm_validate_rules.proofs.Placed.{any_at, both_true, placed_law}
use Rattle.nm_validate_rules.specs.Reads.{stands_reads, has_value_of, hangs, default_reads, claim_reads, reads}
use Rattle.nm_validate_rules.specs.Reaches.{AgreeOn}
use Rattle.nm_validate_rules.proofs.Lists.{or_left, or_right, not_true, contrary, both_ways, any_weaker, among_filter_map}
use Rattle.nm_validate_rules.proofs.Agreeing.{Path, Test, same_path, path_is, left, any_agrees, row_agrees, given_keys_agree, given_entries_agree}
use Rattle.nm_validate_rules.proofs.Guarded.{stands_agrees}
use Rattle.nm_validate_rules.proofs.Chains.{stands_hangs}

-- ---- values that aren't looked at

no_row : {Y : Type 0} (u leads key : Bool) (y : Y) → (u && (leads || key)) ≡ false → (if leads && u then Some y else None) ≡ None
no_row u false key y e = refl
no_row false true key y e = refl
no_row true true key y e = absurd (cc)

no_key : {Y : Type 0} (u leads a b : Bool) (y : Option Y) → (u && (leads || a && b)) ≡ false → (if a && b && u then y else None) ≡ None
no_key u leads false b y e = refl
no_key u leads true false y e = refl
no_key false leads true true y e = refl
no_key true false true true y e = absurd (cc)
no_key true true true true y e = absurd (cc)

-- ---- defaults in use

-- a default that is in use
used : (u s : Bool) (d : Option Value) (v : Value) → (if u then (if s then d else None) else None) ≡ Some v → (u ≡ true) × (s ≡ true) × (d ≡ Some v)
used true true d v e = (refl, refl, e)
used true false d v e = absurd (cc)
used false s d v e = absurd (cc)

in_use : (u s : Bool) (d : Option Value) (v : Value) → u ≡ true → s ≡ true → d ≡ Some v → (if u then (if s then d else None) else None) ≡ Some v
in_use u s d v p q r = ap (λ b. if b then (if s then d else None) else None) p ∙ ap (λ b. if b then d else None) q ∙ r

default_by : (t : SchemaTree) (x : ℕ) (v : Value) (o : Option Node) → slice_get t.nodes x ≡ o → default_in o ≡ Some v → x < length t.nodes
default_by t x v None is e = absurd (cc)
default_by t x v (Some n) is e = get_within t.nodes x n is

module _ (t : SchemaTree) (sound : IsSound t.nodes) where
  default_hangs : (row path : Path) (x : ℕ) (v : Value) → default_at t.nodes x ≡ Some v → node_of t path ≡ Some x → stands_reads t path row ≡ true → default_reads t x row ≡ true
  unfolding default_reads
  default_hangs row path x v is at e =
      both_true (is_some (default_at t.nodes x)) (list_any (hangs t row) (chain t.nodes (Some x)))
      (ap is_some is) (stands_hangs t sound.tree row path x at e)

  module _ (context : Path) (x : ℕ) (f : Value → Bool) where
    -- what is read of the values of node x below a place
    abbrev target_reads : Test
    target_reads row = is_under context row && has_value_of t x row || default_reads t x row

    default_to : (one other : Rows) → AgreeOn target_reads one other → list_any f (default_values t one context x) ≡ true → list_any f (default_values t other context x) ≡ true
    default_to one other agree e =
        let h = any_passes f (default_values t one context x) e in
        let g = among_given (λ (path : Path). if is_under context path then default_in_use t one path x else None) (places t one x) h.x h.among in
        let p = g.x in
        let u = used (is_under context p) (stands t one p && not (contains_key one p)) (default_at t.nodes x) h.x g.gives in
        let lt = default_by t x h.x (slice_get t.nodes x) refl u.2 in
        let placed = (placed_law t one x p sound lt).0 (among_contains (places t one x) p g.among) in
        let stand : stands t one p ≡ stands t other p = stands_agrees t one other p (λ row r.
        agree row (or_right (is_under context row && has_value_of t x row) (default_reads t x row) (default_hangs row p x h.x u.2 placed.0 r))) in
        let there : contains_key one p ≡ contains_key other p = row_agrees one other p (λ row r.
        let same : p ≡ row = path_is p row r in
        let leads : leads_to t x row ≡ true = ap (leads_to t x) (sym same) ∙ ap (is_node x) placed.0 ∙ itself x in
        let value = or_left (leads_to t x row) (is_key t.nodes x && same_parent (parent_of t.nodes x) (node_of t row)) leads in
        agree row (or_left (is_under context row && has_value_of t x row) (default_reads t x row)
        (both_true (is_under context row) (has_value_of t x row) (ap (is_under context) (sym same) ∙ u.0) value))) in
        let alike : (stands t one p && not (contains_key one p)) ≡ (stands t other p && not (contains_key other p)) = λ i. stand i && not (there i) in
        let among = contains_among (places t other x) p ((placed_law t other x p sound lt).1 (placed.0, sym stand ∙ placed.1)) in
        any_at f (default_values t other context x) h.x
        (among_filter_map (λ (path : Path). if is_under context path then default_in_use t other path x else None) (places t other x) p h.x among
        (in_use (is_under context p) (stands t other p && not (contains_key other p)) (default_at t.nodes x) h.x u.0 (sym alike ∙ u.1) u.2))
        h.passes

    defaults_agree : (one other : Rows) → AgreeOn target_reads one other → list_any f (default_values t one context x) ≡ list_any f (default_values t other context x)
    defaults_agree one other agree =
        both_ways (list_any f (default_values t one context x)) (list_any f (default_values t other context x)) (default_to one other agree) (default_to other one (λ row e. sym (agree row e)))

  module _ (one other : Rows) where
    -- ---- one claim

    rows_agree : (context : Path) (x : ℕ) → AgreeOn (λ row. is_under context row && has_value_of t x row) one other → row_values t one context x ≡ row_values t other context x
    rows_agree context x agree =
        given_entries_agree one other (λ (e : Path × Value). if leads_to t x e.0 && is_under context e.0 then Some e.1 else None) (λ row. is_under context row && has_value_of t x row)
        (λ e n. no_row (is_under context e.0) (leads_to t x e.0) (is_key t.nodes x && same_parent (parent_of t.nodes x) (node_of t e.0)) e.1 n) agree

    keys_agree_at : (context : Path) (x : ℕ) → AgreeOn (λ row. is_under context row && has_value_of t x row) one other → key_values t one context x ≡ key_values t other context x
    keys_agree_at context x agree =
        given_keys_agree one other (λ (path : Path). if has_key_leaf t context x path then key_in_entry t x path else None) (λ row. is_under context row && has_value_of t x row)
        (λ p n. no_key (is_under context p) (leads_to t x p) (is_key t.nodes x) (same_parent (parent_of t.nodes x) (node_of t p)) (key_in_entry t x p) n) agree

    reached_agrees : (c : Claim) → AgreeOn (claim_reads t c) one other → is_reached t one c ≡ is_reached t other c
    reached_agrees c agree =
        let value = is_same_value c.value in
        let first = left one other (λ row. is_under c.context row && has_value_of t c.target row) (default_reads t c.target) agree in
        let of_rows : list_any value (row_values t one c.context c.target) ≡ list_any value (row_values t other c.context c.target) = ap (list_any value) (rows_agree c.context c.target first) in
        let of_keys : list_any value (key_values t one c.context c.target) ≡ list_any value (key_values t other c.context c.target) = ap (list_any value) (keys_agree_at c.context c.target first) in
        let defaults = defaults_agree c.context c.target value one other agree in
        λ i. of_rows i || of_keys i || defaults i

    -- ---- the claims of a path

    module _ (path : Path) where
      alike_by : (f : ℕ → Path → Bool) (v w : Value) (r : Option Reference) (others : List Claim)
          → list_any (λ (c : Claim). f c.target c.context) (claim_of path v r ++ others) ≡ list_any (λ (c : Claim). f c.target c.context) (claim_of path w r ++ others)
      alike_by f v w None others = refl
      alike_by f v w (Some r) others = refl

      -- which targets and places are claimed doesn't hang on the value
      alike : (f : ℕ → Path → Bool) (v w : Value) (o : Option ℕ)
          → list_any (λ (c : Claim). f c.target c.context) (claims_at t path v o) ≡ list_any (λ (c : Claim). f c.target c.context) (claims_at t path w o)
      alike f v w None = refl
      alike f v w (Some x) = alike_by f v w (reference_at t.nodes x) (key_claims t path (keys_at t.nodes (Some x)) (chosen_values path))

      each : (o : Option Value) → AgreeOn (λ row. list_any (λ (c : Claim). is_same_path path row || claim_reads t c row) (claims_at t path Present (node_of t path))) one other
          → list_any (λ c. not (is_reached t one c)) (claims_by t path o) ≡ list_any (λ c. not (is_reached t other c)) (claims_by t path o)
      each None agree = refl
      each (Some v) agree =
          any_agrees one other (λ c. not (is_reached t one c)) (λ c. not (is_reached t other c)) (λ c row. claim_reads t c row) (claims_at t path v (node_of t path))
          (λ c a. ap not (reached_agrees c a))
          (λ row e.
          let wider = any_weaker (λ (c : Claim). claim_reads t c row) (λ (c : Claim). is_same_path path row || claim_reads t c row) (claims_at t path v (node_of t path)) (λ c r. or_right (is_same_path path row) (claim_reads t c row) r) e in
          agree row (alike (λ x context. is_same_path path row || (is_under context row && has_value_of t x row || default_reads t x row)) Present v (node_of t path) ∙ wider))

      none_by : (rows : Rows) (o : Option Value) → list_any (λ (c : Claim). true) (claims_at t path Present (node_of t path)) ≡ false → list_any (λ c. not (is_reached t rows c)) (claims_by t path o) ≡ false
      none_by rows None none = refl
      none_by rows (Some v) none =
          not_true (list_any (λ c. not (is_reached t rows c)) (claims_at t path v (node_of t path))) (λ e.
          let some = any_weaker (λ (c : Claim). not (is_reached t rows c)) (λ (c : Claim). true) (claims_at t path v (node_of t path)) (λ c r. refl) e in
          contrary (list_any (λ (c : Claim). true) (claims_at t path Present (node_of t path))) (alike (λ x context. true) Present v (node_of t path) ∙ some) none)

      leafref_by : (b : Bool) → list_any (λ (c : Claim). true) (claims_at t path Present (node_of t path)) ≡ b → AgreeOn (reads t Leafref path) one other → violated t one Leafref path ≡ violated t other Leafref path
      leafref_by false is agree = none_by one (get one path) is ∙ sym (none_by other (get other path) is)
      leafref_by true is agree =
          let read = any_weaker (λ (c : Claim). true) (λ (c : Claim). is_same_path path path || claim_reads t c path) (claims_at t path Present (node_of t path)) (λ c r. or_left (is_same_path path path) (claim_reads t c path) (same_path path)) is in
          ap (λ (o : Option Value). list_any (λ c. not (is_reached t one c)) (claims_by t path o)) (agree path read) ∙ each (get other path) agree

      pub leafref_agrees : AgreeOn (reads t Leafref path) one other → violated t one Leafref path ≡ violated t other Leafref path
      leafref_agrees agree = leafref_by (list_any (λ (c : Claim). true) (claims_at t path Present (node_of t path))) refl agree
