-- The values that a claim is reached by, from the paths of the rows, of the entries and of the places that have them.
use Rattle.std.proofs.Common.{◌≡◌, ℕ, List, [], ◌∷◌, map, Bool, true, false, ◌&&◌, ◌||◌, Option, Some, None, if◌then◌else◌, refl, sym, ap, ◌∙◌}
use Rattle.std.specs.Prelude.{filter}
use Rattle.std.specs.List.{list_any, filter_map, cons_option}
use Rattle.std.specs.FinMap.{get, keys, entries}
use Rattle.nm_types.specs.declared.value.Value.{Value}
use Rattle.nm_types.specs.Value.{is_same_value}
use Rattle.nm_types.specs.Path.{PathStep}
use Rattle.nm_schema_tree.specs.Nodes.{SchemaTree, same_parent, parent_of, is_key}
use Rattle.nm_path.specs.Spelling.{node_of}
use Rattle.nm_config.specs.Rows.{Rows}
use Rattle.nm_config.specs.Under.{is_under}
use Rattle.nm_validate_rules.specs.Guards.{leads_to}
use Rattle.nm_validate_rules.specs.Places.{places}
use Rattle.nm_validate_rules.specs.Values.{key_in_entry, default_in_use, row_values, key_values, default_values}
use Rattle.nm_validate_places.specs.Listed.{Row}
use Rattle.nm_validate_places.proofs.Below.{any_kept}
use Rattle.nm_validate_places.proofs.Rows.{Have, all_there}
use Rattle.nm_validate_leafref.specs.Known.{rows_of, entries_of, gives, has_below}

any_same : {X : Type 0} (f g : X → Bool) (xs : List X) → ((x : X) → f x ≡ g x) → list_any f xs ≡ list_any g xs
any_same f g [] same = refl
any_same f g (x ∷ xs) same = ap (λ b. b || list_any f xs) (same x) ∙ ap (λ b. g x || b) (any_same f g xs same)

any_given : {X : Type 0} (v : Value) (f : X → Option Value) (xs : List X) → list_any (is_same_value v) (filter_map f xs) ≡ list_any (λ x. gives v (f x)) xs
any_given v f [] = refl
any_given v f (x ∷ xs) =
    let rest = any_given v f xs in
    elim (f x) as (λ o. list_any (is_same_value v) (cons_option o (filter_map f xs)) ≡ (gives v o || list_any (λ y. gives v (f y)) xs)) [
      | None ↦ rest
      | Some w ↦ ap (λ b. is_same_value v w || b) rest
    ]

any_none : {X : Type 0} (f : X → Bool) (xs : List X) → ((x : X) → f x ≡ false) → list_any f xs ≡ false
any_none f [] none = refl
any_none f (x ∷ xs) none = ap (λ b. b || list_any f xs) (none x) ∙ any_none f xs none

given_if : (v : Value) (b : Bool) (o : Option Value) → (b && gives v o) ≡ gives v (if b then o else None)
given_if v true o = refl
given_if v false o = refl

both_if : (v : Value) (a b : Bool) (o : Option Value) → (a && (b && gives v o)) ≡ gives v (if a && b then o else None)
both_if v true b o = given_if v b o
both_if v false b o = refl

module _ (t : SchemaTree) (rows : Rows) (context : List PathStep) (x : ℕ) (v : Value) where
  -- ---- rows

  by_entries : (es : List Row) → Have rows es → list_any (λ path. leads_to t x path && has_below context v (get rows) path) (map (λ e. e.0) es)
      ≡ list_any (λ e. gives v (if leads_to t x e.0 && is_under context e.0 then Some e.1 else None)) es
  by_entries [] h = refl
  by_entries (e ∷ es) h =
      ap (λ b. b || list_any (λ path. leads_to t x path && has_below context v (get rows) path) (map (λ (r : Row). r.0) es))
      (ap (λ o. leads_to t x e.0 && (is_under context e.0 && gives v o)) h.0 ∙ both_if v (leads_to t x e.0) (is_under context e.0) (Some e.1))
      ∙ ap (λ b. gives v (if leads_to t x e.0 && is_under context e.0 then Some e.1 else None) || b) (by_entries es h.1)

  pub by_rows : list_any (has_below context v (get rows)) (rows_of t rows x) ≡ list_any (is_same_value v) (row_values t rows context x)
  by_rows =
      any_kept (leads_to t x) (has_below context v (get rows)) (keys rows) ∙ by_entries (entries rows) (all_there rows)
      ∙ sym (any_given v (λ (e : Row). if leads_to t x e.0 && is_under context e.0 then Some e.1 else None) (entries rows))

  -- ---- keys

  abbrev of_key : Bool → List PathStep → Option Value
  of_key key path = if key && same_parent (parent_of t.nodes x) (node_of t path) && is_under context path then key_in_entry t x path else None

  of_none : (a b : Bool) (o : Option Value) → gives v (if false && a && b then o else None) ≡ false
  of_none a b o = refl

  by_key : (key : Bool) → list_any (has_below context v (key_in_entry t x)) (if key then filter (λ path. same_parent (parent_of t.nodes x) (node_of t path)) (keys rows) else [])
      ≡ list_any (λ path. gives v (of_key key path)) (keys rows)
  by_key true =
      any_kept (λ path. same_parent (parent_of t.nodes x) (node_of t path)) (has_below context v (key_in_entry t x)) (keys rows)
      ∙ any_same (λ path. same_parent (parent_of t.nodes x) (node_of t path) && has_below context v (key_in_entry t x) path) (λ path. gives v (of_key true path)) (keys rows)
      (λ path. both_if v (same_parent (parent_of t.nodes x) (node_of t path)) (is_under context path) (key_in_entry t x path))
  by_key false = sym (any_none (λ path. gives v (of_key false path)) (keys rows) (λ path. of_none (same_parent (parent_of t.nodes x) (node_of t path)) (is_under context path) (key_in_entry t x path)))

  pub by_keys : list_any (has_below context v (key_in_entry t x)) (entries_of t rows x) ≡ list_any (is_same_value v) (key_values t rows context x)
  by_keys = by_key (is_key t.nodes x) ∙ sym (any_given v (of_key (is_key t.nodes x)) (keys rows))

  -- ---- defaults

  pub by_defaults : list_any (has_below context v (λ path. default_in_use t rows path x)) (places t rows x) ≡ list_any (is_same_value v) (default_values t rows context x)
  by_defaults =
      any_same (has_below context v (λ path. default_in_use t rows path x)) (λ path. gives v (if is_under context path then default_in_use t rows path x else None)) (places t rows x)
      (λ path. given_if v (is_under context path) (default_in_use t rows path x))
      ∙ sym (any_given v (λ path. if is_under context path then default_in_use t rows path x else None) (places t rows x))
