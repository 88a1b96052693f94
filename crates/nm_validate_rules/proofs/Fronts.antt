-- Where a rule reads a row: below a front of the row, by steps that choose no entries.
use Rattle.std.proofs.Common.{◌≡◌, ◌⊎◌, ℕ, suc, ◌+◌, ◌<◌, List, [], ◌∷◌, ◌++◌, take, drop, length, map, Bool, true, false, ◌&&◌, ◌||◌, ◌==◌, Option, Some, None, is_some, if◌then◌else◌, refl, sym, ap, ◌∙◌, subst, append-nil, append_assoc, inl, inr, arith, length-append}
use Rattle.std.proofs.lemmas.Grind.{common_steps}
use Rattle.std.specs.Prelude.{filter}
use Rattle.std.specs.List.{list_any, range_with_len}
use Rattle.nm_base.specs.Numbers.{is_among}
use Rattle.nm_types.specs.Path.{PathStep}
use Rattle.nm_schema_tree.specs.declared.node.Node.{Node}
use Rattle.nm_schema_tree.specs.Nodes.{SchemaTree, parent_of, case_at}
use Rattle.nm_schema_tree.specs.Levels.{IsTree}
use Rattle.nm_path.specs.declared.place.Place.TheVariants.{Top, Nowhere}
use Rattle.nm_path.specs.Spelling.{found_of, below, node_from, node_of}
use Rattle.nm_config.specs.Under.{is_whole, Continues}
use Rattle.nm_validate_rules.specs.Standing.{is_own_at}
use Rattle.nm_validate_rules.specs.Cases.{bare}
use Rattle.nm_validate_rules.specs.Places.{chain_of, chain}
use Rattle.nm_validate_rules.specs.Values.{is_same_path, path_in}
use Rattle.nm_validate_rules.proofs.Among.{Among, both, among_filter, among_map, among_numbers}
use Rattle.nm_validate_rules.proofs.Leading.{by_last, bare_is}
use Rattle.nm_validate_rules.proofs.Areas.{whole_is}
use Rattle.nm_validate_rules.proofs.Placed.{both_true}
use Rattle.nm_validate_rules.specs.Reads.{allowed_reads, open_reads, guard_reads, holds_reads_from, holds_reads, stands_reads_from, stands_reads}
use Rattle.nm_validate_rules.specs.Candidates.{fronts_of, is_above, is_on_way, below_fronts}
use Rattle.nm_validate_rules.proofs.Lists.{either, any_front, any_last, take_front}
use Rattle.nm_validate_rules.proofs.Agreeing.{Path}
use Rattle.nm_validate_rules.proofs.Chains.{chain_step, chain_length}
use Rattle.nm_validate_rules.proofs.Entries.{row_itself, allowed_begins}

drop_front : {X : Type 0} (xs ys : List X) → drop (length xs) (xs ++ ys) ≡ ys
drop_front [] ys = refl
drop_front (x ∷ xs) ys = drop_front xs ys

-- ---- paths that lead nowhere

lost : (nodes : List Node) (ss : Path) → node_from nodes Nowhere None ss ≡ None
lost nodes [] = refl
lost nodes (s ∷ ss) = lost nodes ss

node_further : (nodes : List Node) (o : Option ℕ) (ss tail : Path)
    → node_from nodes (below o) o (ss ++ tail) ≡ node_from nodes (below (node_from nodes (below o) o ss)) (node_from nodes (below o) o ss) tail
node_further nodes o [] tail = refl
node_further nodes o (s ∷ ss) tail = node_further nodes (found_of nodes (below o) s.«module» s.name) ss tail

lost_further : (t : SchemaTree) (s : PathStep) (ss tail : Path) → node_of t (s ∷ ss) ≡ None → node_of t ((s ∷ ss) ++ tail) ≡ None
unfolding node_of
lost_further t s ss tail e =
    node_further t.nodes (found_of t.nodes Top s.«module» s.name) ss tail ∙ ap (λ (o : Option ℕ). node_from t.nodes (below o) o tail) e ∙ lost t.nodes tail

-- ---- steps that choose nothing

-- steps below a place choose no entries and lead to nodes
abbrev pub are_open : SchemaTree → Path → Path → Bool
are_open t above [] = true
are_open t above (s ∷ ss) = is_whole s.chosen && is_some (node_of t (above ++ s ∷ [])) && are_open t (above ++ s ∷ []) ss

open_more : (t : SchemaTree) (above tail : Path) (s : PathStep) → are_open t above tail ≡ true → is_whole s.chosen ≡ true → is_some (node_of t ((above ++ tail) ++ s ∷ [])) ≡ true → are_open t above (tail ++ s ∷ []) ≡ true
open_more t above [] s e w n =
    both_true (is_whole s.chosen && is_some (node_of t (above ++ s ∷ []))) true
    (both_true (is_whole s.chosen) (is_some (node_of t (above ++ s ∷ []))) w (ap (λ (p : Path). is_some (node_of t (p ++ s ∷ []))) (sym (append-nil above)) ∙ n)) refl
open_more t above (r ∷ tail) s e w n =
    let h = both (is_whole r.chosen && is_some (node_of t (above ++ r ∷ []))) (are_open t (above ++ r ∷ []) tail) e in
    both_true (is_whole r.chosen && is_some (node_of t (above ++ r ∷ []))) (are_open t (above ++ r ∷ []) (tail ++ s ∷ [])) h.0
    (open_more t (above ++ r ∷ []) tail s h.1 w (ap (λ (p : Path). is_some (node_of t (p ++ s ∷ []))) (append_assoc above (r ∷ []) tail) ∙ n))

-- a path lies below a front of a row, by steps that choose no entries
pub record IsNear (t : SchemaTree) (row path : Path) : Type 0 where
  pub above : Path
  pub tail : Path
  pub front : Continues above row
  pub is : path ≡ above ++ tail
  pub open_steps : are_open t above tail ≡ true

-- the nodes that such steps lead to
record Steps (t : SchemaTree) (above tail : Path) (x : ℕ) : Type 0 where
  nodes : List ℕ
  chain_is : chain t.nodes (Some x) ≡ chain t.nodes (node_of t above) ++ nodes
  tail_is : tail ≡ map (bare t.nodes) nodes

some_node : (o : Option ℕ) → is_some o ≡ true → (z : ℕ) × (o ≡ Some z)
some_node None e = absurd (cc)
some_node (Some z) e = (z, refl)

same_number : (x : ℕ) → (x == x) ≡ true
same_number x = grind (arith, common_steps)

module _ (t : SchemaTree) (tree : IsTree t.nodes) where
  steps : (above tail : Path) (x : ℕ) → are_open t above tail ≡ true → node_of t (above ++ tail) ≡ Some x → Steps t above tail x
  steps above [] x e at =
      record {
        nodes = [];
        chain_is = ap (chain t.nodes) (sym at ∙ ap (node_of t) (append-nil above)) ∙ sym (append-nil (chain t.nodes (node_of t above)));
        tail_is = refl;
      }
  steps above (s ∷ ss) x e at =
      let h = both (is_whole s.chosen && is_some (node_of t (above ++ s ∷ []))) (are_open t (above ++ s ∷ []) ss) e in
      let k = both (is_whole s.chosen) (is_some (node_of t (above ++ s ∷ []))) h.0 in
      let z = some_node (node_of t (above ++ s ∷ [])) k.1 in
      let leads = by_last t above s z.0 z.1 in
      let step = bare_is t s z.0 leads.node leads.there leads.owner_is leads.name_is (whole_is s.chosen k.0) in
      let more = steps (above ++ s ∷ []) ss x h.1 (ap (node_of t) (append_assoc above (s ∷ []) ss) ∙ at) in
      record {
        nodes = z.0 ∷ more.nodes;
        chain_is = more.chain_is ∙ ap (λ l. l ++ more.nodes) (chain_step t tree above s z.0 z.1) ∙ append_assoc (chain t.nodes (node_of t above)) (z.0 ∷ []) more.nodes;
        tail_is = λ i. sym step i ∷ more.tail_is i;
      }

  -- the front of what leads to a node does so too
  front_by : (above tail : Path) (x : ℕ) → node_of t (above ++ tail) ≡ Some x → (o : Option ℕ) → node_of t above ≡ o → (above ≡ []) ⊎ ((z : ℕ) × (o ≡ Some z))
  front_by [] tail x at o is = inl refl
  front_by (s ∷ ss) tail x at (Some z) is = inr (z, refl)
  front_by (s ∷ ss) tail x at None is = let no = lost_further t s ss tail is in absurd (cc)

  -- as many nodes lead down to the node of a path as the path has steps
  as_long : (above : Path) → (above ≡ []) ⊎ ((z : ℕ) × (node_of t above ≡ Some z)) → length (chain t.nodes (node_of t above)) ≡ length above
  unfolding node_of
  as_long above (inl is) = ap (λ (p : Path). length (chain t.nodes (node_of t p))) is ∙ ap length (sym is)
  as_long above (inr z) = ap (λ (o : Option ℕ). length (chain t.nodes o)) z.1 ∙ chain_length t tree z.0 above z.1

  on_way : (x z : ℕ) (nodes : List ℕ) → chain t.nodes (Some x) ≡ chain t.nodes (Some z) ++ nodes → is_among z (chain t.nodes (Some x)) ≡ true
  unfolding is_among
  on_way x z nodes e =
      ap (list_any (λ j. j == z)) e
      ∙ any_front (λ j. j == z) (chain t.nodes (Some z)) nodes (any_last (λ j. j == z) (chain_of t.nodes z (parent_of t.nodes z)) z (same_number z))

  above_by : (above : Path) (x : ℕ) (nodes : List ℕ) → chain t.nodes (Some x) ≡ chain t.nodes (node_of t above) ++ nodes → (above ≡ []) ⊎ ((z : ℕ) × (node_of t above ≡ Some z)) → is_above t x above ≡ true
  above_by above x nodes e (inl is) = ap (is_above t x) is
  above_by [] x nodes e (inr z) = refl
  above_by (s ∷ ss) x nodes e (inr z) = ap (is_on_way t x) z.1 ∙ on_way x z.0 nodes (e ∙ ap (λ (o : Option ℕ). chain t.nodes o ++ nodes) z.1)

  module _ (row : Path) where
    front_among : (above : Path) → Continues above row → Among (fronts_of row) above
    front_among above h =
        let long : length row ≡ length above + length h.rest = ap length h.begins ∙ length-append above h.rest in
        let lt : length above < suc (length row) = omega (arith, long) in
        let taken : take (length above) row ≡ above = ap (take (length above)) h.begins ∙ take_front above h.rest in
        subst (λ (p : Path). Among (fronts_of row) p) taken (among_map (λ (n : ℕ). take n row) (range_with_len 0 (suc (length row))) (length above) (among_numbers (suc (length row)) (length above) lt))

    -- such a path is that of its node below the front
    pub near_below : (path : Path) (x : ℕ) → IsNear t row path → node_of t path ≡ Some x → Among (below_fronts t row x) path
    near_below path x h at =
        let leads : node_of t (h.above ++ h.tail) ≡ Some x = ap (node_of t) (sym h.is) ∙ at in
        let s = steps h.above h.tail x h.open_steps leads in
        let front = front_by h.above h.tail x leads (node_of t h.above) refl in
        let dropped : drop (length h.above) (chain t.nodes (Some x)) ≡ s.nodes =
        ap (λ (n : ℕ). drop n (chain t.nodes (Some x))) (sym (as_long h.above front)) ∙ ap (drop (length (chain t.nodes (node_of t h.above)))) s.chain_is ∙ drop_front (chain t.nodes (node_of t h.above)) s.nodes in
        let is : path_in t h.above x ≡ path = ap (λ (ns : List ℕ). h.above ++ map (bare t.nodes) ns) dropped ∙ ap (λ (p : Path). h.above ++ p) (sym s.tail_is) ∙ sym h.is in
        let kept = among_filter (is_above t x) (fronts_of row) h.above (front_among h.above h.front) (above_by h.above x s.nodes s.chain_is front) in
        subst (λ (p : Path). Among (below_fronts t row x) p) is (among_map (λ (above : Path). path_in t above x) (filter (is_above t x) (fronts_of row)) h.above kept)

-- ---- what guards read

module _ (t : SchemaTree) (row : Path) where
  pub near_itself : (path : Path) → Continues path row → IsNear t row path
  near_itself path h = record { above = path; tail = []; front = h; is = sym (append-nil path); open_steps = refl }

  pub near_last : (above : Path) (s : PathStep) → Continues above row → is_whole s.chosen ≡ true → is_some (node_of t (above ++ s ∷ [])) ≡ true → IsNear t row (above ++ s ∷ [])
  near_last above s h w n =
      record { above = above; tail = s ∷ []; front = h; is = refl; open_steps = both_true (is_whole s.chosen && is_some (node_of t (above ++ s ∷ []))) true (both_true (is_whole s.chosen) (is_some (node_of t (above ++ s ∷ []))) w n) refl }

  near_more : (path : Path) (s : PathStep) → IsNear t row path → is_whole s.chosen ≡ true → is_some (node_of t (path ++ s ∷ [])) ≡ true → IsNear t row (path ++ s ∷ [])
  near_more path s h w n =
      record {
        above = h.above;
        tail = h.tail ++ s ∷ [];
        front = h.front;
        is = ap (λ (p : Path). p ++ s ∷ []) h.is ∙ append_assoc h.above h.tail (s ∷ []);
        open_steps = open_more t h.above h.tail s h.open_steps w (ap (λ (p : Path). is_some (node_of t (p ++ s ∷ []))) (sym h.is) ∙ n);
      }

  open_near : (so_far : Bool) (above : Path) (s : PathStep) → (so_far ≡ true → IsNear t row above) → (o : Option ℕ) → node_of t (above ++ s ∷ []) ≡ o → open_reads t so_far above s o row ≡ true → IsNear t row (above ++ s ∷ [])
  open_near so_far above s more None at e = absurd (cc)
  open_near so_far above s more (Some x) at e =
      let h = both (is_whole s.chosen) (so_far || allowed_reads t above (case_at t.nodes x) row) e in
      let there : is_some (node_of t (above ++ s ∷ [])) ≡ true = ap is_some at in
      elim (either so_far (allowed_reads t above (case_at t.nodes x) row) h.1) [
        | inl before ↦ near_more above s (more before) h.0 there
        | inr case ↦ near_last above s (allowed_begins t row above (case_at t.nodes x) case) h.0 there
      ]

  guard_near : (so_far : Bool) (above : Path) (s : PathStep) → (so_far ≡ true → IsNear t row above) → (own : Bool)
      → (if own then is_same_path (above ++ s ∷ []) row else open_reads t so_far above s (node_of t (above ++ s ∷ [])) row) ≡ true → IsNear t row (above ++ s ∷ [])
  guard_near so_far above s more true e = near_itself (above ++ s ∷ []) (row_itself (above ++ s ∷ []) row e)
  guard_near so_far above s more false e = open_near so_far above s more (node_of t (above ++ s ∷ [])) refl e

  holds_near_from : (so_far : Bool) (above ss : Path) → (so_far ≡ true → IsNear t row above) → holds_reads_from t so_far above ss row ≡ true → IsNear t row (above ++ ss)
  holds_near_from so_far above [] more e = subst (λ (p : Path). IsNear t row p) (sym (append-nil above)) (more e)
  holds_near_from so_far above (s ∷ ss) more e =
      subst (λ (p : Path). IsNear t row p) (append_assoc above (s ∷ []) ss)
      (holds_near_from (guard_reads t so_far above s row) (above ++ s ∷ []) ss (guard_near so_far above s more (is_own_at t.nodes (node_of t (above ++ s ∷ [])))) e)

  no_start : false ≡ true → IsNear t row []
  no_start e = absurd (cc)

  pub holds_near : (above : Path) → holds_reads t above row ≡ true → IsNear t row above
  holds_near above e = holds_near_from false [] above no_start e

  stands_near_from : (so_far : Bool) (above ss : Path) → (so_far ≡ true → IsNear t row above) → stands_reads_from t so_far above ss row ≡ true → IsNear t row (above ++ ss)
  stands_near_from so_far above [] more e = absurd (cc)
  stands_near_from so_far above (s ∷ []) more e = open_near so_far above s more (node_of t (above ++ s ∷ [])) refl e
  stands_near_from so_far above (s ∷ r ∷ ss) more e =
      subst (λ (p : Path). IsNear t row p) (append_assoc above (s ∷ []) (r ∷ ss))
      (stands_near_from (guard_reads t so_far above s row) (above ++ s ∷ []) (r ∷ ss) (guard_near so_far above s more (is_own_at t.nodes (node_of t (above ++ s ∷ [])))) e)

  pub stands_near : (path : Path) → stands_reads t path row ≡ true → IsNear t row path
  stands_near path e = stands_near_from false [] path no_start e
