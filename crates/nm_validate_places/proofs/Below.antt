-- The places below nodes, from what each node stands in.
use Rattle.std.proofs.Common.{◌≡◌, ℕ, zero, suc, ◌+◌, ◌-◌, ◌<◌, List, [], ◌∷◌, ◌++◌, map, length, Bool, true, false, cond, ◌&&◌, ◌||◌, Option, Some, None, if◌then◌else◌, slice_get, refl, sym, ap, ◌∙◌, append_assoc, arith}
use Rattle.std.specs.Prelude.{filter}
use Rattle.std.specs.List.{fold, flat_map, list_any, range_with_len}
use Rattle.std.specs.FinMap.{keys}
use Rattle.std.proofs.lemmas.Grind.{fold-append}
use Rattle.nm_types.specs.Path.{PathStep}
use Rattle.nm_schema_tree.specs.declared.node.Node.{Node}
use Rattle.nm_schema_tree.specs.Nodes.{SchemaTree, parent_in, parent_of, case_at, is_guard_at, is_guard_in}
use Rattle.nm_schema_tree.specs.Levels.{IsTree}
use Rattle.nm_config.specs.Rows.{Rows}
use Rattle.nm_validate_rules.specs.Cases.{bare, numbers, is_in_case, exists_at, case_holds, is_allowed}
use Rattle.nm_validate_rules.specs.Guards.{leads_to}
use Rattle.nm_validate_rules.specs.Places.{chain_of, chain, placed, areas_below, areas}
use Rattle.nm_validate_rules.proofs.Looked.{get_within}
use Rattle.nm_validate_places.specs.Groups.{Group, in_group, AreOf}
use Rattle.nm_validate_places.specs.Placing.{place_at}
use Rattle.nm_validate_places.proofs.Leasts.{range_step}

-- ---- members of cases

pub any_kept : {X : Type 0} (test other : X → Bool) (xs : List X) → list_any other (filter test xs) ≡ list_any (λ x. test x && other x) xs
any_kept test other [] = refl
any_kept test other (x ∷ xs) =
    let rest = any_kept test other xs in
    elim (test x) as (λ b. list_any other (cond b (x ∷ filter test xs) (filter test xs)) ≡ ((b && other x) || list_any (λ y. test y && other y) xs)) [
      | true ↦ ap (λ b. other x || b) rest
      | false ↦ rest
    ]

twice_by : {X : Type 0} (one : X → Bool) (x : X) (kept both : List X) (a b : Bool) → one x ≡ a → filter one kept ≡ both → filter one (cond b (x ∷ kept) kept) ≡ cond (a && b) (x ∷ both) both
twice_by one x kept both true true e h = ap (λ c. cond c (x ∷ filter one kept) (filter one kept)) e ∙ ap (λ l. x ∷ l) h
twice_by one x kept both false true e h = ap (λ c. cond c (x ∷ filter one kept) (filter one kept)) e ∙ h
twice_by one x kept both true false e h = h
twice_by one x kept both false false e h = h

-- what passes one test of what passes another
pub filter_twice : {X : Type 0} (one other : X → Bool) (xs : List X) → filter one (filter other xs) ≡ filter (λ x. one x && other x) xs
filter_twice one other [] = refl
filter_twice one other (x ∷ xs) = twice_by one x (filter other xs) (filter (λ y. one y && other y) xs) (one x) (other x) refl (filter_twice one other xs)

-- a case holds where one of its nodes exists
pub holds_by : (t : SchemaTree) (rows : Rows) (above : List PathStep) (c : ℕ) (nodes : List ℕ) → nodes ≡ filter (is_in_case t c) (numbers t.nodes) → list_any (exists_at t rows above) nodes ≡ case_holds t rows above c
unfolding case_holds
holds_by t rows above c nodes is = ap (list_any (exists_at t rows above)) is ∙ any_kept (is_in_case t c) (exists_at t rows above) (numbers t.nodes)

-- one number more is looked at
pub kept_in : (test : ℕ → Bool) (i n : ℕ) (before after all : List ℕ) → i < n → test i ≡ true → after ≡ before ++ i ∷ [] → before ++ filter test (range_with_len i (n - i)) ≡ all → after ++ filter test (range_with_len (i + 1) (n - (i + 1))) ≡ all
kept_in test i n before after all lt is e h =
    let rest = filter test (range_with_len (i + 1) (n - (i + 1))) in
    let step : filter test (range_with_len i (n - i)) ≡ i ∷ rest = ap (filter test) (range_step i n lt) ∙ ap (λ b. cond b (i ∷ rest) rest) is in
    ap (λ l. l ++ rest) e ∙ append_assoc before (i ∷ []) rest ∙ ap (λ l. before ++ l) (sym step) ∙ h

pub kept_out : (test : ℕ → Bool) (i n : ℕ) (before after all : List ℕ) → i < n → test i ≡ false → after ≡ before → before ++ filter test (range_with_len i (n - i)) ≡ all → after ++ filter test (range_with_len (i + 1) (n - (i + 1))) ≡ all
kept_out test i n before after all lt is e h =
    let rest = filter test (range_with_len (i + 1) (n - (i + 1))) in
    let step : filter test (range_with_len i (n - i)) ≡ rest = ap (filter test) (range_step i n lt) ∙ ap (λ b. cond b (i ∷ rest) rest) is in
    ap (λ l. l ++ rest) e ∙ ap (λ l. before ++ l) (sym step) ∙ h

-- ---- places of a node

place_put : (b : Bool) (p : List PathStep) (keep : List (List PathStep)) (f : List PathStep → List PathStep) → (if b then f p ∷ [] else []) ++ map f keep ≡ map f (cond b (p ∷ keep) keep)
place_put true p keep f = refl
place_put false p keep f = refl

pub placed_is : (t : SchemaTree) (rows : Rows) (x : ℕ) (above : List (List PathStep)) → flat_map (place_at t rows x) above ≡ placed t rows above x
placed_is t rows x [] = refl
placed_is t rows x (a ∷ more) =
    let f = λ (p : List PathStep). p ++ bare t.nodes x ∷ [] in
    ap (λ l. place_at t rows x a ++ l) (placed_is t rows x more) ∙ place_put (is_allowed t rows a (case_at t.nodes x)) a (filter (λ p. is_allowed t rows p (case_at t.nodes x)) more) f

-- ---- from what a node stands in

module _ (t : SchemaTree) (tree : IsTree t.nodes) where
  parent_by : (x p : ℕ) (o : Option Node) → slice_get t.nodes x ≡ o → parent_in o ≡ Some p → p < x
  parent_by x p None is e = absurd (cc)
  parent_by x p (Some n) is e = tree.parents x p n is e

  above_same : (n m x : ℕ) (o : Option ℕ) → parent_of t.nodes x ≡ o → x < suc n → x < suc m → ((p : ℕ) → p < n → p < m → chain_of t.nodes n (Some p) ≡ chain_of t.nodes m (Some p))
      → chain_of t.nodes n o ≡ chain_of t.nodes m o
  above_same n m x None is a b more = refl
  above_same n m x (Some p) is a b more =
      let lower = parent_by x p (slice_get t.nodes x) refl is in
      more p (omega (arith, lower, a)) (omega (arith, lower, b))

  same_chain : (n m x : ℕ) → x < n → x < m → chain_of t.nodes n (Some x) ≡ chain_of t.nodes m (Some x)
  same_chain zero m x a b = absurd (omega (arith, a))
  same_chain (suc n) zero x a b = absurd (omega (arith, b))
  same_chain (suc n) (suc m) x a b = ap (λ l. l ++ x ∷ []) (above_same n m x (parent_of t.nodes x) refl a b (λ p q r. same_chain n m p q r))

  pub top_chain : (x : ℕ) (o : Option ℕ) → parent_of t.nodes x ≡ o → chain_of t.nodes x o ≡ chain t.nodes o
  top_chain x None is = refl
  top_chain x (Some p) is =
      let lower = parent_by x p (slice_get t.nodes x) refl is in
      same_chain x (suc p) p lower (omega arith)

  pub areas_are : (rows : Rows) (x : ℕ) → areas t rows (Some x) ≡ areas_below t rows (areas t rows (parent_of t.nodes x)) x
  areas_are rows x =
      let f = areas_below t rows in
      let start : List (List PathStep) = [] ∷ [] in
      fold-append f start (chain_of t.nodes x (parent_of t.nodes x)) (x ∷ [])
      ∙ ap (λ c. f (fold f start c) x) (top_chain x (parent_of t.nodes x) refl)

  guard_within : (o : Option Node) (x : ℕ) → slice_get t.nodes x ≡ o → is_guard_in o ≡ true → x < length t.nodes
  guard_within None x is e = absurd (cc)
  guard_within (Some n) x is e = get_within t.nodes x n is

  -- the places below a list or a container with presence are its rows
  pub guard_areas : (rows : Rows) (x : ℕ) (groups : List Group) → AreOf t (keys rows) groups → is_guard_at t.nodes x ≡ true → in_group groups x ≡ areas t rows (Some x)
  guard_areas rows x groups h e =
      h.each x (guard_within (slice_get t.nodes x) x refl e)
      ∙ sym (areas_are rows x ∙ ap (λ b. if b then filter (leads_to t x) (keys rows) else placed t rows (areas t rows (parent_of t.nodes x)) x) e)

  -- those below a container without presence are its places
  pub other_areas : (rows : Rows) (x : ℕ) → is_guard_at t.nodes x ≡ false → placed t rows (areas t rows (parent_of t.nodes x)) x ≡ areas t rows (Some x)
  other_areas rows x e = sym (areas_are rows x ∙ ap (λ b. if b then filter (leads_to t x) (keys rows) else placed t rows (areas t rows (parent_of t.nodes x)) x) e)
