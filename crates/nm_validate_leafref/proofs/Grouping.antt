-- The paths of groups are those of rows, and where no default is nothing is kept.
use Rattle.std.proofs.Common.{◌≡◌, ℕ, zero, suc, ◌<◌, List, [], ◌∷◌, map, length, Bool, true, false, ◌&&◌, ◌==◌, not, Option, Some, None, if◌then◌else◌, slice_get, refl, sym, ap, ◌∙◌, subst, arith}
use Rattle.std.proofs.lemmas.Grind.{common_steps}
use Rattle.std.proofs.lemmas.Bool.Decides.{nat_tests}
use Rattle.std.specs.Prelude.{filter}
use Rattle.std.specs.FinMap.{contains_key, keys}
use Rattle.nm_types.specs.declared.value.Value.{Value}
use Rattle.nm_types.specs.Path.{PathStep}
use Rattle.nm_schema_tree.specs.Nodes.{SchemaTree, same_parent, parent_of, keys_at, is_key, default_at}
use Rattle.nm_base.specs.Numbers.{is_among}
use Rattle.nm_path.specs.Spelling.{node_of}
use Rattle.nm_config.specs.Rows.{Rows}
use Rattle.nm_validate_rules.specs.Guards.{stands, is_node, leads_to}
use Rattle.nm_validate_rules.specs.Values.{default_in_use}
use Rattle.nm_validate_rules.proofs.Leading.{node_is}
use Rattle.nm_validate_rules.proofs.Looked.{get_within}
use Rattle.nm_validate_places.specs.Groups.{Group, paths_in, AreOf}
use Rattle.nm_validate_places.proofs.Choosing.{node_within}
use Rattle.nm_validate_places.proofs.Leasts.{filter_same, filter_none}
use Rattle.nm_validate_leafref.specs.Kept.{with_value, with_values}
use Rattle.nm_validate_leafref.specs.Known.{rows_of, entries_of}
use Rattle.nm_validate_leafref.proofs.Paths.{never_true}

-- there is no such group
beyond : (gs : List Group) (x : ℕ) → slice_get gs x ≡ None → x < length gs → ⊥
beyond [] x is lt = absurd (omega (arith, lt))
beyond (g ∷ gs) zero is lt = absurd (cc)
beyond (g ∷ gs) (suc x) is lt = beyond gs x is (omega (arith, lt))

same_number : (x y : ℕ) → (x == y) ≡ (y == x)
same_number x y = grind (arith, common_steps, nat_tests)

module _ (t : SchemaTree) (rows : Rows) where
  none_leads : (groups : List Group) (x : ℕ) → AreOf t (keys rows) groups → slice_get groups x ≡ None → filter (leads_to t x) (keys rows) ≡ []
  none_leads groups x of is = filter_none (leads_to t x) (keys rows) (λ path a. never_true (leads_to t x path) (λ e.
      beyond groups x is (subst (λ (n : ℕ). x < n) (sym of.count) (node_within t rows x path (node_is x (node_of t path) e)))))

  -- there are no rows of node x
  pub no_rows : (groups : List Group) (x : ℕ) → AreOf t (keys rows) groups → slice_get groups x ≡ None → rows_of t rows x ≡ []
  no_rows groups x of is = none_leads groups x of is

  -- those that there are
  pub group_rows : (groups : List Group) (x : ℕ) (g : Group) → AreOf t (keys rows) groups → slice_get groups x ≡ Some g → map (λ path. path.now) g.items ≡ rows_of t rows x
  group_rows groups x g of is = ap paths_in (sym is) ∙ of.each x (subst (λ (n : ℕ). x < n) of.count (get_within groups x g is))

  is_parent : (p : ℕ) (o : Option ℕ) → same_parent (Some p) o ≡ is_node p o
  is_parent p None = refl
  is_parent p (Some y) = same_number p y

  -- the entries whose key leaf x is are the rows of the list that it stands in
  entries_are : (x p : ℕ) → is_key t.nodes x ≡ true → parent_of t.nodes x ≡ Some p → entries_of t rows x ≡ rows_of t rows p
  entries_are x p key is =
      ap (λ b. if b then filter (λ path. same_parent (parent_of t.nodes x) (node_of t path)) (keys rows) else []) key
      ∙ filter_same (λ path. same_parent (parent_of t.nodes x) (node_of t path)) (leads_to t p) (keys rows)
      (λ path a. ap (λ o. same_parent o (node_of t path)) is ∙ is_parent p (node_of t path))

  -- there are no such entries
  pub no_group_entries : (groups : List Group) (x p : ℕ) → AreOf t (keys rows) groups → is_key t.nodes x ≡ true → parent_of t.nodes x ≡ Some p → slice_get groups p ≡ None → entries_of t rows x ≡ []
  no_group_entries groups x p of key is none = entries_are x p key is ∙ no_rows groups p of none

  -- those that there are
  pub group_entries : (groups : List Group) (x p : ℕ) (g : Group) → AreOf t (keys rows) groups → is_key t.nodes x ≡ true → parent_of t.nodes x ≡ Some p → slice_get groups p ≡ Some g
      → map (λ path. path.now) g.items ≡ entries_of t rows x
  group_entries groups x p g of key is here = group_rows groups p g of here ∙ sym (entries_are x p key is)

  -- there are none where x is no key
  pub no_entries : (x : ℕ) → is_key t.nodes x ≡ false → entries_of t rows x ≡ []
  no_entries x key = ap (λ b. if b then filter (λ path. same_parent (parent_of t.nodes x) (node_of t path)) (keys rows) else []) key

  -- what stands at the top is no key
  pub top_no_key : (x : ℕ) → parent_of t.nodes x ≡ None → is_key t.nodes x ≡ false
  unfolding is_among
  top_no_key x is = ap (λ o. is_among x (keys_at t.nodes o)) is

  no_default : (b : Bool) (o : Option Value) → o ≡ None → (if b then o else None) ≡ None
  no_default true o is = is
  no_default false o is = refl

  -- a leaf without a default has none in use
  pub no_defaults : (x d : ℕ) (kept : Rows) (paths : List (List PathStep)) → default_at t.nodes x ≡ None → kept ≡ with_values x d (λ path. default_in_use t rows path x) kept paths
  no_defaults x d kept [] is = refl
  no_defaults x d kept (p ∷ ps) is =
      no_defaults x d kept ps is
      ∙ ap (λ o. with_values x d (λ path. default_in_use t rows path x) (with_value x d kept p o) ps) (sym (no_default (stands t rows p && not (contains_key rows p)) (default_at t.nodes x) is))
