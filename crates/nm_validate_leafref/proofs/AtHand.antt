-- What one look-up tells is reached.
use Rattle.std.proofs.Common.{◌≡◌, ℕ, List, [], Option, Some, None, is_some, Bool, true, false, not, ◌&&◌, ◌||◌, if◌then◌else◌, refl, sym, ap, ◌∙◌}
use Rattle.std.specs.Prelude.{filter}
use Rattle.std.specs.List.{list_any}
use Rattle.std.specs.Option.{option_or}
use Rattle.std.specs.FinMap.{contains_key, get, keys}
use Rattle.nm_types.specs.declared.value.Value.{Value}
use Rattle.nm_types.specs.Value.{is_same_value}
use Rattle.nm_types.specs.Path.{PathStep}
use Rattle.nm_schema_tree.specs.Levels.{IsTree}
use Rattle.nm_schema_tree.specs.Nodes.{SchemaTree, same_parent, parent_of, is_key, default_at}
use Rattle.nm_path.specs.Spelling.{node_of}
use Rattle.nm_config.specs.Rows.{Rows}
use Rattle.nm_config.specs.Under.{is_under}
use Rattle.nm_validate_rules.specs.Guards.{leads_to, stands}
use Rattle.nm_validate_rules.specs.Places.{places}
use Rattle.nm_validate_rules.specs.Values.{default_in_use, key_in_entry, row_values, key_values, default_values, is_reached}
use Rattle.nm_validate_rules.proofs.Among.{both, among_filter}
use Rattle.nm_validate_rules.proofs.Areas.{key_among, among_places}
use Rattle.nm_validate_rules.proofs.Leading.{node_is}
use Rattle.nm_validate_rules.proofs.Placed.{any_at}
use Rattle.nm_validate_places.specs.Leafs.{row_or_default}
use Rattle.nm_validate_leafref.specs.Known.{rows_of, gives, claim_to, has_below, is_below, is_leaf_with, is_entry_with}
use Rattle.nm_validate_leafref.proofs.Reaching.{by_rows, by_keys, by_defaults}

by_second : (a b c : Bool) → b ≡ true → (a || b || c) ≡ true
by_second true b c e = refl
by_second false b c e = ap (λ d. d || c) e

module _ (t : SchemaTree) (rows : Rows) (place : List PathStep) (x : ℕ) (v : Value) (path : List PathStep) where
  abbrev is_mine : List PathStep → Bool
  is_mine p = same_parent (parent_of t.nodes x) (node_of t p)

  -- an entry that is there has the value that is claimed
  pub reached_at_hand : is_entry_with t rows place x v path ≡ true → is_reached t rows (claim_to x place v) ≡ true
  reached_at_hand e =
      let a = both (contains_key rows path && is_key t.nodes x && is_mine path) (has_below place v (key_in_entry t x) path) e in
      let b = both (contains_key rows path && is_key t.nodes x) (is_mine path) a.0 in
      let c = both (contains_key rows path) (is_key t.nodes x) b.0 in
      let test = has_below place v (key_in_entry t x) in
      let among = among_filter is_mine (keys rows) path (key_among rows path c.0) b.1 in
      let any = ap (λ k. list_any test (if k then filter is_mine (keys rows) else [])) c.1 ∙ any_at test (filter is_mine (keys rows)) path among a.1 in
      by_second (list_any (is_same_value v) (row_values t rows place x)) (list_any (is_same_value v) (key_values t rows place x)) (list_any (is_same_value v) (default_values t rows place x)) (sym (by_keys t rows place x v) ∙ any)

-- ---- a leaf

by_first : (a b c : Bool) → a ≡ true → (a || b || c) ≡ true
by_first true b c e = refl
by_first false b c e = absurd (cc)

by_third : (a b c : Bool) → c ≡ true → (a || b || c) ≡ true
by_third true b c e = refl
by_third false true c e = refl
by_third false false c e = e

given_only : (v : Value) (a b : Bool) (o : Option Value) → gives v (if a && b then o else None) ≡ true → a ≡ true
given_only v true b o e = refl
given_only v false b o e = absurd (cc)

module _ (t : SchemaTree) (rows : Rows) (place : List PathStep) (x : ℕ) (v : Value) (path : List PathStep) (tree : IsTree t.nodes) where
  by_value : leads_to t x path ≡ true → is_under place path ≡ true → (o : Option Value) → get rows path ≡ o → gives v (option_or o (default_in_use t rows path x)) ≡ true
      → is_reached t rows (claim_to x place v) ≡ true
  by_value leads under (Some w) is e =
      let test = has_below place v (get rows) in
      let among = among_filter (leads_to t x) (keys rows) path (key_among rows path (ap is_some is)) leads in
      let passes : test path ≡ true = ap (λ o. is_under place path && gives v o) is ∙ ap (λ b. b && gives v (Some w)) under ∙ e in
      by_first (list_any (is_same_value v) (row_values t rows place x)) (list_any (is_same_value v) (key_values t rows place x)) (list_any (is_same_value v) (default_values t rows place x))
      (sym (by_rows t rows place x v) ∙ any_at test (rows_of t rows x) path among passes)
  by_value leads under None is e =
      let test = has_below place v (λ p. default_in_use t rows p x) in
      let there = given_only v (stands t rows path) (not (contains_key rows path)) (default_at t.nodes x) e in
      let among = among_places t rows tree x path (node_is x (node_of t path) leads) there in
      let passes : test path ≡ true = ap (λ b. b && gives v (default_in_use t rows path x)) under ∙ e in
      by_third (list_any (is_same_value v) (row_values t rows place x)) (list_any (is_same_value v) (key_values t rows place x)) (list_any (is_same_value v) (default_values t rows place x))
      (sym (by_defaults t rows place x v) ∙ any_at test (places t rows x) path among passes)

  -- a leaf below a place has the value that is claimed
  pub reached_by_leaf : is_leaf_with t rows place x v path ≡ true → is_reached t rows (claim_to x place v) ≡ true
  reached_by_leaf e =
      let a = both (is_below t place x path) (gives v (row_or_default t rows path x)) e in
      let b = both (leads_to t x path) (is_under place path) a.0 in
      by_value b.0 b.1 (get rows path) refl a.1
