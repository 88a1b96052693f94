-- What is read of a leaf in an entry lies at or below the entry.
use Rattle.std.proofs.Common.{◌≡◌, ℕ, suc, List, [], ◌∷◌, ◌++◌, take, drop, length, map, Bool, true, false, not, ◌&&◌, ◌||◌, Option, Some, None, is_some, if◌then◌else◌, refl, sym, ap, ◌∙◌, subst, append-nil, append_assoc, inl, inr}
use Rattle.std.specs.Ordering.{eq_by_cmp}
use Rattle.nm_types.specs.Path.{PathStep, step_cmp}
use Rattle.nm_types.specs.PathLaws.{same_step_decides}
use Rattle.nm_schema_tree.specs.declared.node.Node.{Node}
use Rattle.nm_schema_tree.specs.Nodes.{SchemaTree, case_at, is_key, default_at}
use Rattle.nm_path.specs.Spelling.{found_of, below, node_from, node_of}
use Rattle.nm_path.specs.declared.place.Place.{Place}
use Rattle.nm_path.specs.declared.place.Place.TheVariants.{Top}
use Rattle.nm_config.specs.Under.{is_whole, goes_along, is_end, is_under, Continues}
use Rattle.nm_validate_rules.specs.Standing.{is_own_at}
use Rattle.nm_validate_rules.specs.Cases.{bare, numbers, is_in_case}
use Rattle.nm_validate_rules.specs.Guards.{front}
use Rattle.nm_validate_rules.specs.Places.{chain}
use Rattle.nm_validate_rules.specs.Values.{as_list, is_same_path, path_in}
use Rattle.nm_validate_rules.specs.Violated.{last_chosen}
use Rattle.nm_validate_rules.proofs.Among.{both, any_passes}
use Rattle.nm_validate_rules.proofs.Areas.{ends}
use Rattle.nm_validate_rules.specs.Reads.{tells, case_reads, allowed_reads, open_reads, guard_reads, stands_reads_from, stands_reads, leaf_reads}
use Rattle.nm_validate_rules.proofs.Lists.{either, take_front, contrary}
use Rattle.nm_validate_rules.proofs.Agreeing.{Path, path_is}

-- ---- the path of the list of an entry

pub as_list_length : (p : Path) → length (as_list p) ≡ length p
as_list_length [] = refl
as_list_length (s ∷ []) = refl
as_list_length (s ∷ r ∷ ss) = ap suc (as_list_length (r ∷ ss))

as_list_from : (nodes : List Node) (place : Place) (last : Option ℕ) (p : Path) → node_from nodes place last (as_list p) ≡ node_from nodes place last p
as_list_from nodes place last [] = refl
as_list_from nodes place last (s ∷ []) = refl
as_list_from nodes place last (s ∷ r ∷ ss) = as_list_from nodes (below (found_of nodes place s.«module» s.name)) (found_of nodes place s.«module» s.name) (r ∷ ss)

as_list_node : (t : SchemaTree) (p : Path) → node_of t (as_list p) ≡ node_of t p
unfolding node_of
as_list_node t p = as_list_from t.nodes Top None p

module _ (p q : Path) (e : is_same_path (as_list p) (as_list q) ≡ true) where
  -- entries of one list have as many steps
  pub same_length : length p ≡ length q
  same_length = sym (as_list_length p) ∙ ap length (path_is (as_list p) (as_list q) e) ∙ as_list_length q

  -- and lead to one node
  pub same_node : (t : SchemaTree) → node_of t p ≡ node_of t q
  same_node t = sym (as_list_node t p) ∙ ap (node_of t) (path_is (as_list p) (as_list q) e) ∙ as_list_node t q

-- ---- the last step

pub front_last : (a : Path) (s : PathStep) → front (a ++ s ∷ []) ≡ a
front_last [] s = refl
front_last (b ∷ []) s = refl
front_last (b ∷ c ∷ a) s = ap (λ (p : Path). b ∷ p) (front_last (c ∷ a) s)

pub chosen_last : (a : Path) (s : PathStep) → last_chosen (a ++ s ∷ []) ≡ s.chosen
chosen_last [] s = refl
chosen_last (b ∷ []) s = refl
chosen_last (b ∷ c ∷ a) s = chosen_last (c ∷ a) s

-- ---- rows below a place

longer : (a : PathStep) (past row : Path) → Continues past row → Continues (a ∷ past) (a ∷ row)
longer a past row h = record { rest = h.rest; begins = ap (λ (p : Path). a ∷ p) h.begins }

not_end : (ss : Path) (b : PathStep) → is_end (ss ++ b ∷ []) ≡ false
not_end [] b = refl
not_end (s ∷ ss) b = refl

-- a row at or below a node goes on behind the steps above the node
pub begins_below : (above : Path) (b : PathStep) (row : Path) → is_under (above ++ b ∷ []) row ≡ true → Continues above row
unfolding is_under
begins_below [] b row e = record { rest = row; begins = refl }
begins_below (a ∷ past) b [] e = absurd (cc)
begins_below (a ∷ past) b (o ∷ row) e =
    let h = both (goes_along (is_end (past ++ b ∷ [])) a o) (is_under (past ++ b ∷ []) row) e in
    let along : eq_by_cmp step_cmp a o ≡ true = ap (λ x. goes_along x a o) (sym (not_end past b)) ∙ h.0 in
    let same : a ≡ o = (same_step_decides a o (eq_by_cmp step_cmp a o) refl).0 along in
    subst (λ (s : PathStep). Continues (a ∷ past) (s ∷ row)) same (longer a past row (begins_below past b row h.1))

shorter : (above : Path) (s : PathStep) (row : Path) → Continues (above ++ s ∷ []) row → Continues above row
shorter above s row h = record { rest = s ∷ h.rest; begins = h.begins ∙ append_assoc above (s ∷ []) h.rest }

pub row_itself : (p row : Path) → is_same_path p row ≡ true → Continues p row
row_itself p row e = record { rest = []; begins = sym (path_is p row e) ∙ sym (append-nil p) }

module _ (t : SchemaTree) (row : Path) where
  case_begins : (above : Path) (c : ℕ) → case_reads t above c row ≡ true → Continues above row
  unfolding case_reads
  case_begins above c e =
      let h = any_passes (λ x. is_in_case t c x && tells t above x row) (numbers t.nodes) e in
      begins_below above (bare t.nodes h.x) row (both (is_in_case t c h.x) (tells t above h.x row) h.passes).1

  pub allowed_begins : (above : Path) (o : Option ℕ) → allowed_reads t above o row ≡ true → Continues above row
  allowed_begins above None e = absurd (cc)
  allowed_begins above (Some c) e = case_begins above c e

  module _ (entry : Path) where
    open_begins : (so_far : Bool) (above : Path) (s : PathStep) (o : Option ℕ) → (so_far ≡ true → Continues entry row) → (Continues above row → Continues entry row) → open_reads t so_far above s o row ≡ true → Continues entry row
    open_begins so_far above s None before up e = absurd (cc)
    open_begins so_far above s (Some x) before up e =
        elim (either so_far (allowed_reads t above (case_at t.nodes x) row) (both (is_whole s.chosen) (so_far || allowed_reads t above (case_at t.nodes x) row) e).1) [
          | inl is ↦ before is
          | inr case ↦ up (allowed_begins above (case_at t.nodes x) case)
        ]

    guard_begins : (so_far : Bool) (above : Path) (s : PathStep) (own : Bool) → (so_far ≡ true → Continues entry row) → (Continues above row → Continues entry row)
        → (if own then is_same_path (above ++ s ∷ []) row else open_reads t so_far above s (node_of t (above ++ s ∷ [])) row) ≡ true → Continues entry row
    guard_begins so_far above s true before up e = up (shorter above s row (row_itself (above ++ s ∷ []) row e))
    guard_begins so_far above s false before up e = open_begins so_far above s (node_of t (above ++ s ∷ [])) before up e

    begins_from : (so_far : Bool) (above ss : Path) → (so_far ≡ true → Continues entry row) → (Continues above row → Continues entry row) → stands_reads_from t so_far above ss row ≡ true → Continues entry row
    begins_from so_far above [] before up e = absurd (cc)
    begins_from so_far above (s ∷ []) before up e = open_begins so_far above s (node_of t (above ++ s ∷ [])) before up e
    begins_from so_far above (s ∷ r ∷ ss) before up e =
        begins_from (guard_reads t so_far above s row) (above ++ s ∷ []) (r ∷ ss)
        (guard_begins so_far above s (is_own_at t.nodes (node_of t (above ++ s ∷ []))) before up) (λ c. up (shorter above s row c)) e

    -- from the top down to an entry: it is read by itself, and what is above it no more
    from_entry : (a : Path) (s r : PathStep) (rest : Path) (so_far : Bool) (at : Path) → at ++ (a ++ s ∷ []) ≡ entry → is_own_at t.nodes (node_of t entry) ≡ true
        → stands_reads_from t so_far at (a ++ s ∷ r ∷ rest) row ≡ true → stands_reads_from t (is_same_path entry row) entry (r ∷ rest) row ≡ true
    from_entry [] s r rest so_far at is own e =
        let here : is_own_at t.nodes (node_of t (at ++ s ∷ [])) ≡ true = ap (λ (p : Path). is_own_at t.nodes (node_of t p)) is ∙ own in
        let guard : guard_reads t so_far at s row ≡ is_same_path (at ++ s ∷ []) row =
        ap (λ (g : Bool). if g then is_same_path (at ++ s ∷ []) row else open_reads t so_far at s (node_of t (at ++ s ∷ [])) row) here in
        sym (ap (λ (p : Path). stands_reads_from t (is_same_path p row) p (r ∷ rest) row) is) ∙ sym (ap (λ (g : Bool). stands_reads_from t g (at ++ s ∷ []) (r ∷ rest) row) guard) ∙ e
    from_entry (b ∷ []) s r rest so_far at is own e =
        from_entry [] s r rest (guard_reads t so_far at b row) (at ++ b ∷ []) (append_assoc at (b ∷ []) (s ∷ []) ∙ is) own e
    from_entry (b ∷ c ∷ a) s r rest so_far at is own e =
        from_entry (c ∷ a) s r rest (guard_reads t so_far at b row) (at ++ b ∷ []) (append_assoc at (b ∷ []) ((c ∷ a) ++ s ∷ []) ∙ is) own e

  nowhere : is_own_at t.nodes (node_of t []) ≡ true → ⊥
  unfolding node_of
  nowhere e = cc

  below_entry : (entry : Path) (r : PathStep) (rest : Path) → is_own_at t.nodes (node_of t entry) ≡ true → stands_reads t (entry ++ r ∷ rest) row ≡ true → Continues entry row
  below_entry [] r rest own e = absurd (nowhere own)
  below_entry (s ∷ ss) r rest own e =
      let d = ends s ss in
      let path : (s ∷ ss) ++ r ∷ rest ≡ d.above ++ (d.step ∷ r ∷ rest) = ap (λ (p : Path). p ++ r ∷ rest) d.is ∙ append_assoc d.above (d.step ∷ []) (r ∷ rest) in
      let h = from_entry (s ∷ ss) d.above d.step r rest false [] (sym d.is) own (sym (ap (λ (p : Path). stands_reads_from t false [] p row) path) ∙ e) in
      begins_from (s ∷ ss) (is_same_path (s ∷ ss) row) (s ∷ ss) (r ∷ rest) (row_itself (s ∷ ss) row) (λ c. c) h

  -- nothing is read to tell whether an entry stands as a leaf does
  closed_open : (so_far : Bool) (above : Path) (s : PathStep) (o : Option ℕ) → is_whole s.chosen ≡ false → open_reads t so_far above s o row ≡ true → ⊥
  closed_open so_far above s None w e = cc
  closed_open so_far above s (Some x) w e = contrary (is_whole s.chosen) (both (is_whole s.chosen) (so_far || allowed_reads t above (case_at t.nodes x) row) e).0 w

  closed_from : (so_far : Bool) (above ss : Path) → is_whole (last_chosen ss) ≡ false → stands_reads_from t so_far above ss row ≡ true → ⊥
  closed_from so_far above [] w e = cc
  closed_from so_far above (s ∷ []) w e = closed_open so_far above s (node_of t (above ++ s ∷ [])) w e
  closed_from so_far above (s ∷ r ∷ ss) w e = closed_from (guard_reads t so_far above s row) (above ++ s ∷ []) (r ∷ ss) w e

  in_entry : (entry tail : Path) → is_own_at t.nodes (node_of t entry) ≡ true → is_whole (last_chosen entry) ≡ false → stands_reads t (entry ++ tail) row ≡ true → Continues entry row
  in_entry entry [] own w e = absurd (closed_from false [] entry w (sym (ap (λ (p : Path). stands_reads t p row) (append-nil entry)) ∙ e))
  in_entry entry (r ∷ rest) own w e = below_entry entry r rest own e

  row_in : (entry tail : Path) → is_same_path (entry ++ tail) row ≡ true → Continues entry row
  row_in entry tail e = record { rest = tail; begins = sym (path_is (entry ++ tail) row e) }

  -- what is read of a leaf in an entry lies at or below the entry
  pub leaf_begins : (entry : Path) (x : ℕ) → is_own_at t.nodes (node_of t entry) ≡ true → is_whole (last_chosen entry) ≡ false → leaf_reads t (path_in t entry x) x row ≡ true → Continues entry row
  leaf_begins entry x own w e =
      let tail = map (bare t.nodes) (drop (length entry) (chain t.nodes (Some x))) in
      let p = entry ++ tail in
      let h = (both (not (is_key t.nodes x)) (is_same_path p row || is_some (default_at t.nodes x) && stands_reads t p row) e).1 in
      elim (either (is_same_path p row) (is_some (default_at t.nodes x) && stands_reads t p row) h) [
        | inl same ↦ row_in entry tail same
        | inr guard ↦ in_entry entry tail own w (both (is_some (default_at t.nodes x)) (stands_reads t p row) guard).1
      ]

  -- an entry is a front of what lies at or below it
  pub entry_is : (entry : Path) → Continues entry row → take (length entry) row ≡ entry
  entry_is entry h = ap (take (length entry)) h.begins ∙ take_front entry h.rest
