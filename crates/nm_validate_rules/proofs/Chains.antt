-- The nodes above a node are those on the way to it, and where the guard of a path is read, it is read off them.
use Rattle.std.proofs.Common.{◌≡◌, ℕ, zero, suc, ◌<◌, List, [], ◌∷◌, ◌++◌, length, Bool, true, false, ◌&&◌, ◌||◌, Option, Some, None, if◌then◌else◌, slice_get, refl, sym, ap, ◌∙◌, append_assoc, inl, inr, arith, ◌+◌, take, length-append}
use Rattle.std.specs.List.{list_any, range_with_len}
use Rattle.nm_types.specs.Path.{PathStep}
use Rattle.nm_schema_tree.specs.declared.node.Node.{Node}
use Rattle.nm_schema_tree.specs.Nodes.{SchemaTree, parent_in, parent_of, case_at, is_guard_at}
use Rattle.nm_schema_tree.specs.Levels.{IsTree}
use Rattle.nm_path.specs.Spelling.{node_of}
use Rattle.nm_config.specs.Under.{is_whole}
use Rattle.nm_validate_rules.specs.Standing.{is_own_at}
use Rattle.nm_validate_rules.specs.Guards.{leads_to, is_node}
use Rattle.nm_validate_rules.specs.Places.{chain_of, chain}
use Rattle.nm_validate_rules.specs.Values.{is_same_path}
use Rattle.nm_validate_rules.specs.Violated.{is_area_of}
use Rattle.nm_validate_rules.proofs.Among.{both, among_numbers}
use Rattle.nm_validate_rules.proofs.Areas.{ends}
use Rattle.nm_validate_rules.proofs.Leading.{by_last, node_is, itself}
use Rattle.nm_validate_rules.proofs.Placed.{any_at, both_true}
use Rattle.nm_validate_rules.specs.Reads.{case_reads, allowed_reads, case_hangs, hangs, open_reads, guard_reads, stands_reads_from, stands_reads}
use Rattle.nm_validate_rules.proofs.Lists.{or_left, or_right, either, any_front, any_last}
use Rattle.nm_validate_rules.proofs.Agreeing.{Path, path_is}
use Rattle.nm_validate_rules.proofs.Entries.{allowed_begins, entry_is}

pub area_node : (t : SchemaTree) (o : Option ℕ) (above : Path) → is_area_of t o above ≡ true → node_of t above ≡ o
unfolding node_of
area_node t None [] e = refl
area_node t None (s ∷ ss) e = absurd (cc)
area_node t (Some p) above e = node_is p (node_of t above) e

-- what tells that a case holds at a place above a node
case_told : (t : SchemaTree) (row above : Path) (x : ℕ) (o : Option ℕ) → is_area_of t (parent_of t.nodes x) above ≡ true → allowed_reads t above o row ≡ true → case_hangs t x o row ≡ true
case_told t row above x None area e = absurd (cc)
case_told t row above x (Some c) area e =
    let goes = allowed_begins t row above (Some c) e in
    let long : length row ≡ length above + length goes.rest = ap length goes.begins ∙ length-append above goes.rest in
    let lt : length above < suc (length row) = omega (arith, long) in
    let taken = entry_is t row above goes in
    any_at (λ n. is_area_of t (parent_of t.nodes x) (take n row) && case_reads t (take n row) c row) (range_with_len 0 (suc (length row))) (length above) (among_numbers (suc (length row)) (length above) lt)
    (both_true (is_area_of t (parent_of t.nodes x) (take (length above) row)) (case_reads t (take (length above) row) c row)
    (ap (is_area_of t (parent_of t.nodes x)) taken ∙ area) (ap (λ (p : Path). case_reads t p c row) taken ∙ e))

module _ (t : SchemaTree) (tree : IsTree t.nodes) where
  -- ---- chains

  parent_by : (x p : ℕ) (o : Option Node) → slice_get t.nodes x ≡ o → parent_in o ≡ Some p → p < x
  parent_by x p None is e = absurd (cc)
  parent_by x p (Some n) is e = tree.parents x p n is e

  above_same : (n m x : ℕ) (o : Option ℕ) → parent_of t.nodes x ≡ o → x < suc n → x < suc m → ((p : ℕ) → p < n → p < m → chain_of t.nodes n (Some p) ≡ chain_of t.nodes m (Some p))
      → chain_of t.nodes n o ≡ chain_of t.nodes m o
  above_same n m x None is a b more = refl
  above_same n m x (Some p) is a b more =
      let lower = parent_by x p (slice_get t.nodes x) refl is in
      more p (omega (arith, lower, a)) (omega (arith, lower, b))

  same_chain : (n m x : ℕ) → x < n → x < m → chain_of t.nodes n (Some x) ≡ chain_of t.nodes m (Some x)
  same_chain zero m x a b = absurd (omega (arith, a))
  same_chain (suc n) zero x a b = absurd (omega (arith, b))
  same_chain (suc n) (suc m) x a b = ap (λ l. l ++ x ∷ []) (above_same n m x (parent_of t.nodes x) refl a b (λ p q r. same_chain n m p q r))

  top_chain : (x : ℕ) (o : Option ℕ) → parent_of t.nodes x ≡ o → chain_of t.nodes x o ≡ chain t.nodes o
  top_chain x None is = refl
  top_chain x (Some p) is =
      let lower = parent_by x p (slice_get t.nodes x) refl is in
      same_chain x (suc p) p lower (omega arith)

  -- the nodes down to that of a path are those down to that of the path above, and the node itself
  pub chain_step : (above : Path) (s : PathStep) (x : ℕ) → node_of t (above ++ s ∷ []) ≡ Some x → chain t.nodes (node_of t (above ++ s ∷ [])) ≡ chain t.nodes (node_of t above) ++ x ∷ []
  chain_step above s x at =
      let leads = by_last t above s x at in
      let parent : parent_of t.nodes x ≡ leads.node.parent = ap parent_in leads.there in
      ap (chain t.nodes) at
      ∙ ap (λ l. l ++ x ∷ []) (ap (chain_of t.nodes x) parent ∙ top_chain x leads.node.parent parent ∙ ap (chain t.nodes) (sym (area_node t leads.node.parent above leads.area)))

  -- ---- as many nodes as steps

  length_last : {X : Type 0} (xs : List X) (x : X) → length (xs ++ x ∷ []) ≡ suc (length xs)
  length_last [] x = refl
  length_last (y ∷ ys) x = ap suc (length_last ys x)

  long_by : (n : ℕ) (o : Option ℕ) (above : Path) → is_area_of t o above ≡ true → ((p : ℕ) → o ≡ Some p → length (chain_of t.nodes n (Some p)) ≡ length above) → length (chain_of t.nodes n o) ≡ length above
  long_by n None [] area more = refl
  long_by n None (s ∷ ss) area more = absurd (cc)
  long_by n (Some p) above area more = more p refl

  nowhere : (x : ℕ) → node_of t [] ≡ Some x → ⊥
  unfolding node_of
  nowhere x e = cc

  long_from : (n x : ℕ) (path : Path) → x < n → node_of t path ≡ Some x → length (chain_of t.nodes n (Some x)) ≡ length path
  long_from zero x path lt at = absurd (omega (arith, lt))
  long_from (suc n) x [] lt at = absurd (nowhere x at)
  long_from (suc n) x (s ∷ ss) lt at =
      let d = ends s ss in
      let here : node_of t (d.above ++ d.step ∷ []) ≡ Some x = ap (node_of t) (sym d.is) ∙ at in
      let leads = by_last t d.above d.step x here in
      let parent : parent_of t.nodes x ≡ leads.node.parent = ap parent_in leads.there in
      let more : length (chain_of t.nodes n (parent_of t.nodes x)) ≡ length d.above =
      ap (λ (o : Option ℕ). length (chain_of t.nodes n o)) parent ∙ long_by n leads.node.parent d.above leads.area (λ p is.
      let lower = tree.parents x p leads.node leads.there is in
      long_from n p d.above (omega (arith, lower, lt)) (area_node t (Some p) d.above (ap (λ (o : Option ℕ). is_area_of t o d.above) (sym is) ∙ leads.area))) in
      length_last (chain_of t.nodes n (parent_of t.nodes x)) x ∙ ap suc more ∙ sym (length_last d.above d.step) ∙ ap length (sym d.is)

  -- as many nodes lead down to the node of a path as the path has steps
  pub chain_length : (x : ℕ) (path : Path) → node_of t path ≡ Some x → length (chain t.nodes (Some x)) ≡ length path
  chain_length x path at = long_from (suc x) x path (omega arith) at

  -- ---- what guards are read off

  module _ (row : Path) where
    hang_last : (above : Path) (s : PathStep) (x : ℕ) → node_of t (above ++ s ∷ []) ≡ Some x → hangs t row x ≡ true → list_any (hangs t row) (chain t.nodes (node_of t (above ++ s ∷ []))) ≡ true
    hang_last above s x at e = ap (list_any (hangs t row)) (chain_step above s x at) ∙ any_last (hangs t row) (chain t.nodes (node_of t above)) x e

    hang_above : (above : Path) (s : PathStep) (x : ℕ) → node_of t (above ++ s ∷ []) ≡ Some x → list_any (hangs t row) (chain t.nodes (node_of t above)) ≡ true
        → list_any (hangs t row) (chain t.nodes (node_of t (above ++ s ∷ []))) ≡ true
    hang_above above s x at e = ap (list_any (hangs t row)) (chain_step above s x at) ∙ any_front (hangs t row) (chain t.nodes (node_of t above)) (x ∷ []) e

    open_hang : (so_far : Bool) (above : Path) (s : PathStep) → (so_far ≡ true → list_any (hangs t row) (chain t.nodes (node_of t above)) ≡ true) → (o : Option ℕ) → node_of t (above ++ s ∷ []) ≡ o
        → open_reads t so_far above s o row ≡ true → list_any (hangs t row) (chain t.nodes (node_of t (above ++ s ∷ []))) ≡ true
    open_hang so_far above s more None at e = absurd (cc)
    open_hang so_far above s more (Some x) at e =
        let h = both (is_whole s.chosen) (so_far || allowed_reads t above (case_at t.nodes x) row) e in
        elim (either so_far (allowed_reads t above (case_at t.nodes x) row) h.1) [
          | inl before ↦ hang_above above s x at (more before)
          | inr case ↦
              let leads = by_last t above s x at in
              let area : is_area_of t (parent_of t.nodes x) above ≡ true = ap (λ (o : Option ℕ). is_area_of t o above) (ap parent_in leads.there) ∙ leads.area in
              hang_last above s x at (or_right (is_guard_at t.nodes x && leads_to t x row) (case_hangs t x (case_at t.nodes x) row) (case_told t row above x (case_at t.nodes x) area case))
        ]

    own_hang : (above : Path) (s : PathStep) (o : Option ℕ) → node_of t (above ++ s ∷ []) ≡ o → is_own_at t.nodes o ≡ true → is_same_path (above ++ s ∷ []) row ≡ true
        → list_any (hangs t row) (chain t.nodes (node_of t (above ++ s ∷ []))) ≡ true
    own_hang above s None at own e = absurd (cc)
    own_hang above s (Some x) at own e =
        let same : above ++ s ∷ [] ≡ row = path_is (above ++ s ∷ []) row e in
        let leads : leads_to t x row ≡ true = ap (leads_to t x) (sym same) ∙ ap (is_node x) at ∙ itself x in
        hang_last above s x at (or_left (is_guard_at t.nodes x && leads_to t x row) (case_hangs t x (case_at t.nodes x) row) (both_true (is_guard_at t.nodes x) (leads_to t x row) own leads))

    guard_hang : (so_far : Bool) (above : Path) (s : PathStep) → (so_far ≡ true → list_any (hangs t row) (chain t.nodes (node_of t above)) ≡ true) → (own : Bool) → is_own_at t.nodes (node_of t (above ++ s ∷ [])) ≡ own
        → (if own then is_same_path (above ++ s ∷ []) row else open_reads t so_far above s (node_of t (above ++ s ∷ [])) row) ≡ true → list_any (hangs t row) (chain t.nodes (node_of t (above ++ s ∷ []))) ≡ true
    guard_hang so_far above s more true own e = own_hang above s (node_of t (above ++ s ∷ [])) refl own e
    guard_hang so_far above s more false own e = open_hang so_far above s more (node_of t (above ++ s ∷ [])) refl e

    stands_hang : (so_far : Bool) (above ss : Path) → (so_far ≡ true → list_any (hangs t row) (chain t.nodes (node_of t above)) ≡ true) → stands_reads_from t so_far above ss row ≡ true
        → list_any (hangs t row) (chain t.nodes (node_of t (above ++ ss))) ≡ true
    stands_hang so_far above [] more e = absurd (cc)
    stands_hang so_far above (s ∷ []) more e = open_hang so_far above s more (node_of t (above ++ s ∷ [])) refl e
    stands_hang so_far above (s ∷ r ∷ ss) more e =
        ap (λ (p : Path). list_any (hangs t row) (chain t.nodes (node_of t p))) (sym (append_assoc above (s ∷ []) (r ∷ ss)))
        ∙ stands_hang (guard_reads t so_far above s row) (above ++ s ∷ []) (r ∷ ss) (guard_hang so_far above s more (is_own_at t.nodes (node_of t (above ++ s ∷ []))) refl) e

    no_more : (path : Path) → false ≡ true → list_any (hangs t row) (chain t.nodes (node_of t path)) ≡ true
    no_more path e = absurd (cc)

    -- what is read to tell whether a leaf may stand at a path hangs on the nodes above it
    pub stands_hangs : (path : Path) (x : ℕ) → node_of t path ≡ Some x → stands_reads t path row ≡ true → list_any (hangs t row) (chain t.nodes (Some x)) ≡ true
    stands_hangs path x at e = ap (λ (o : Option ℕ). list_any (hangs t row) (chain t.nodes o)) (sym at) ∙ stands_hang false [] path (no_more []) e
