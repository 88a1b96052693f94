-- The rules on values, keys, single nodes and missing choices read a row at its candidates alone.
use Rattle.std.proofs.Common.{◌≡◌, ℕ, [], ◌∷◌, ◌++◌, length, Bool, true, not, ◌&&◌, ◌||◌, ◌==◌, Option, Some, None, is_some, slice_get, refl, sym, ap, ◌∙◌, subst, inl, inr}
use Rattle.std.specs.Prelude.{filter, Contains}
use Rattle.std.specs.List.{flat_map, range_with_len}
use Rattle.nm_schema_tree.specs.declared.choice.ChoiceNode.{ChoiceNode}
use Rattle.nm_schema_tree.specs.Nodes.{SchemaTree, case_at, is_mandatory_at, elements_at}
use Rattle.nm_path.specs.Sound.{IsSound}
use Rattle.nm_path.specs.Spelling.{node_of}
use Rattle.nm_config.specs.Under.{is_whole, is_under, Continues}
use Rattle.nm_validate_rules.specs.declared.rule.Rule.{Rule}
use Rattle.nm_validate_rules.specs.declared.rule.Rule.TheVariants.{ValueType, Key, Mandatory, Leafref, Unique, MinElements, MaxElements, MandatoryChoice, OneCase}
use Rattle.nm_validate_rules.specs.Cases.{bare, numbers, is_in_case}
use Rattle.nm_validate_rules.specs.Guards.{front}
use Rattle.nm_validate_rules.specs.Places.{choice_step}
use Rattle.nm_validate_rules.specs.Values.{is_same_path}
use Rattle.nm_validate_rules.specs.Violated.{is_area_of, last_chosen, is_mandatory_node, is_of_choice, is_choice_path}
use Rattle.nm_validate_rules.proofs.Among.{Among, both, any_passes, among_filter, among_map, among_flat, among_numbers, among_contains}
use Rattle.nm_validate_rules.proofs.Leading.{by_last, node_is}
use Rattle.nm_validate_rules.proofs.Areas.{Ends, ends}
use Rattle.nm_validate_rules.proofs.Looked.{get_within}
use Rattle.nm_validate_rules.specs.Reads.{tells, allowed_reads, other_reads, beside_reads, choice_reads, holds_reads, stands_reads, is_counted, min_reads, max_reads, missing_reads, reads}
use Rattle.nm_validate_rules.specs.Candidates.{below_fronts, areas_below_fronts, choices_below_fronts, is_mandatory_choice, candidates, has_candidates}
use Rattle.nm_validate_rules.proofs.Lists.{either}
use Rattle.nm_validate_rules.proofs.Agreeing.{Path, path_is}
use Rattle.nm_validate_rules.proofs.Entries.{front_last, chosen_last, begins_below, row_itself, allowed_begins}
use Rattle.nm_validate_rules.proofs.Fronts.{IsNear, near_below, near_itself, near_last, holds_near, stands_near}

nowhere : (t : SchemaTree) (x : ℕ) → node_of t [] ≡ Some x → ⊥
unfolding node_of
nowhere t x e = cc

-- a path that leads to a node has a last step
path_ends : (t : SchemaTree) (path : Path) (x : ℕ) → node_of t path ≡ Some x → Ends path
path_ends t [] x at = absurd (nowhere t x at)
path_ends t (s ∷ ss) x at = ends s ss

top_is : (t : SchemaTree) (above : Path) → is_area_of t None above ≡ true → above ≡ []
top_is t [] e = refl
top_is t (s ∷ ss) e = absurd (cc)

module _ (t : SchemaTree) (row : Path) where
  other_begins : (above : Path) (x c : ℕ) → other_reads t above x c row ≡ true → Continues above row
  unfolding other_reads
  other_begins above x c e =
      let h = any_passes (λ (y : ℕ). not (y == x) && is_in_case t c y && tells t above y row) (numbers t.nodes) e in
      begins_below above (bare t.nodes h.x) row (both (not (h.x == x) && is_in_case t c h.x) (tells t above h.x row) h.passes).1

  beside_begins : (above : Path) (x : ℕ) (o : Option ℕ) → beside_reads t above x o row ≡ true → Continues above row
  beside_begins above x None e = absurd (cc)
  beside_begins above x (Some c) e = other_begins above x c e

  choice_begins : (above : Path) (k : ℕ) → choice_reads t above k row ≡ true → Continues above row
  unfolding choice_reads
  choice_begins above k e =
      let h = any_passes (λ (x : ℕ). is_of_choice t k x && tells t above x row) (numbers t.nodes) e in
      begins_below above (bare t.nodes h.x) row (both (is_of_choice t k h.x) (tells t above h.x row) h.passes).1

  module _ (sound : IsSound t.nodes) (path : Path) where
    -- ---- single nodes

    near_ends : (x : ℕ) → node_of t path ≡ Some x → is_whole (last_chosen path) ≡ true → (d : Ends path) → Continues d.above row → IsNear t row path
    near_ends x at w d h =
        let chosen : is_whole d.step.chosen ≡ true = ap is_whole (sym (chosen_last d.above d.step)) ∙ ap (λ (p : Path). is_whole (last_chosen p)) (sym d.is) ∙ w in
        let there : is_some (node_of t (d.above ++ d.step ∷ [])) ≡ true = ap (λ (p : Path). is_some (node_of t p)) (sym d.is) ∙ ap is_some at in
        subst (λ (p : Path). IsNear t row p) (sym d.is) (near_last t row d.above d.step h chosen there)

    node_candidate : (x : ℕ) (test : ℕ → Bool) → node_of t path ≡ Some x → test x ≡ true → IsNear t row path → Among (flat_map (below_fronts t row) (filter test (numbers t.nodes))) path
    node_candidate x test at passes near =
        let d = path_ends t path x at in
        let leads = by_last t d.above d.step x (ap (node_of t) (sym d.is) ∙ at) in
        let lt = get_within t.nodes x leads.node leads.there in
        among_flat (below_fronts t row) (filter test (numbers t.nodes)) x path
        (among_filter test (numbers t.nodes) x (among_numbers (length t.nodes) x lt) passes) (near_below t sound.tree row path x near at)

    mandatory_by : (o : Option ℕ) → node_of t path ≡ o → (is_mandatory_node t o && is_whole (last_chosen path) && (is_same_path path row || stands_reads t path row)) ≡ true → Among (candidates t Mandatory row) path
    mandatory_by None at e = absurd (cc)
    mandatory_by (Some x) at e =
        let h = both (is_mandatory_at t.nodes x && is_whole (last_chosen path)) (is_same_path path row || stands_reads t path row) e in
        let near : IsNear t row path = elim (either (is_same_path path row) (stands_reads t path row) h.1) [
          | inl same ↦ near_itself t row path (row_itself path row same)
          | inr stand ↦ stands_near t row path stand
        ] in
        node_candidate x (is_mandatory_at t.nodes) at (both (is_mandatory_at t.nodes x) (is_whole (last_chosen path)) h.0).0 near

    front_near : (x : ℕ) → node_of t path ≡ Some x → is_whole (last_chosen path) ≡ true → Continues (front path) row → IsNear t row path
    front_near x at w h =
        let d = path_ends t path x at in
        near_ends x at w d (subst (λ (p : Path). Continues p row) (ap front d.is ∙ front_last d.above d.step) h)

    counted_near : (x : ℕ) → node_of t path ≡ Some x → is_whole (last_chosen path) ≡ true → is_counted path row ≡ true → IsNear t row path
    counted_near x at w e =
        let d = path_ends t path x at in
        let under : is_under (d.above ++ d.step ∷ []) row ≡ true = ap (λ (p : Path). is_under p row) (sym d.is) ∙ (both (length row == length path) (is_under path row) e).1 in
        near_ends x at w d (begins_below d.above d.step row under)

    min_by : (o : Option ℕ) → node_of t path ≡ o → min_reads t path o row ≡ true → Among (candidates t MinElements row) path
    min_by None at e = absurd (cc)
    min_by (Some x) at e =
        let beside = beside_reads t (front path) x (case_at t.nodes x) row in
        let h = both (is_some (elements_at t.nodes x).min && is_whole (last_chosen path)) (stands_reads t path row || beside || is_counted path row) e in
        let k = both (is_some (elements_at t.nodes x).min) (is_whole (last_chosen path)) h.0 in
        let near : IsNear t row path = elim (either (stands_reads t path row || beside) (is_counted path row) h.1) [
          | inl first ↦ elim (either (stands_reads t path row) beside first) [
            | inl stand ↦ stands_near t row path stand
            | inr others ↦ front_near x at k.1 (beside_begins (front path) x (case_at t.nodes x) others)
          ]
          | inr counted ↦ counted_near x at k.1 counted
        ] in
        node_candidate x (λ y. is_some (elements_at t.nodes y).min) at k.0 near

    max_by : (o : Option ℕ) → node_of t path ≡ o → max_reads t path o row ≡ true → Among (candidates t MaxElements row) path
    max_by None at e = absurd (cc)
    max_by (Some x) at e =
        let h = both (is_some (elements_at t.nodes x).max && is_whole (last_chosen path)) (stands_reads t path row || is_counted path row) e in
        let k = both (is_some (elements_at t.nodes x).max) (is_whole (last_chosen path)) h.0 in
        let near : IsNear t row path = elim (either (stands_reads t path row) (is_counted path row) h.1) [
          | inl stand ↦ stands_near t row path stand
          | inr counted ↦ counted_near x at k.1 counted
        ] in
        node_candidate x (λ y. is_some (elements_at t.nodes y).max) at k.0 near

    -- ---- missing choices

    area_among : (parent : Option ℕ) (above : Path) → is_area_of t parent above ≡ true → IsNear t row above → Among (areas_below_fronts t row parent) above
    area_among None above area near = inl (top_is t above area)
    area_among (Some p) above area near = near_below t sound.tree row above p near (node_is p (node_of t above) area)

    choice_near : (at : ℕ) (case_in : Option ℕ) → (holds_reads t (front path) row || allowed_reads t (front path) case_in row || choice_reads t (front path) at row) ≡ true → IsNear t row (front path)
    choice_near at case_in e =
        elim (either (holds_reads t (front path) row || allowed_reads t (front path) case_in row) (choice_reads t (front path) at row) e) [
          | inl first ↦ elim (either (holds_reads t (front path) row) (allowed_reads t (front path) case_in row) first) [
            | inl holds ↦ holds_near t row (front path) holds
            | inr allowed ↦ near_itself t row (front path) (allowed_begins t row (front path) case_in allowed)
          ]
          | inr node ↦ near_itself t row (front path) (choice_begins (front path) at node)
        ]

    choice_by : (at : ℕ) (o : Option ChoiceNode) → missing_reads t path at o row ≡ true → (is_mandatory_choice o ≡ true) × Among (choices_below_fronts t row o) path
    choice_by at None e = absurd (cc)
    choice_by at (Some k) e =
        let h = both (k.mandatory && is_choice_path t k path) (holds_reads t (front path) row || allowed_reads t (front path) k.case_in row || choice_reads t (front path) at row) e in
        let m = both k.mandatory (is_choice_path t k path) h.0 in
        let c = both (is_same_path path (front path ++ choice_step k ∷ [])) (is_area_of t k.parent (front path)) m.1 in
        let area = area_among k.parent (front path) c.1 (choice_near at k.case_in h.1) in (
          m.0,
          subst (λ (p : Path). Among (choices_below_fronts t row (Some k)) p) (sym (path_is path (front path ++ choice_step k ∷ []) c.0))
              (among_map (λ (above : Path). above ++ choice_step k ∷ []) (areas_below_fronts t row k.parent) (front path) area),
        )

    choice_candidate : reads t MandatoryChoice path row ≡ true → Among (candidates t MandatoryChoice row) path
    choice_candidate e =
        let h = any_passes (λ k. missing_reads t path k (slice_get t.choices k) row) (range_with_len 0 (length t.choices)) e in
        let c = choice_by h.x (slice_get t.choices h.x) h.passes in
        among_flat (λ k. choices_below_fronts t row (slice_get t.choices k)) (filter (λ k. is_mandatory_choice (slice_get t.choices k)) (range_with_len 0 (length t.choices))) h.x path
        (among_filter (λ k. is_mandatory_choice (slice_get t.choices k)) (range_with_len 0 (length t.choices)) h.x h.among c.0) c.1

-- a rule reads a row at its candidates alone
pub read_at_candidates : (t : SchemaTree) (rule : Rule) (path row : Path) → IsSound t.nodes → has_candidates rule ≡ true → reads t rule path row ≡ true → Contains (candidates t rule row) path
read_at_candidates t ValueType path row sound has e = among_contains (row ∷ []) path (inl (path_is path row e))
read_at_candidates t Key path row sound has e = among_contains (row ∷ []) path (inl (path_is path row e))
read_at_candidates t Mandatory path row sound has e = among_contains (candidates t Mandatory row) path (mandatory_by t row sound path (node_of t path) refl e)
read_at_candidates t Leafref path row sound has e = absurd (cc)
read_at_candidates t Unique path row sound has e = absurd (cc)
read_at_candidates t MinElements path row sound has e = among_contains (candidates t MinElements row) path (min_by t row sound path (node_of t path) refl e)
read_at_candidates t MaxElements path row sound has e = among_contains (candidates t MaxElements row) path (max_by t row sound path (node_of t path) refl e)
read_at_candidates t MandatoryChoice path row sound has e = among_contains (candidates t MandatoryChoice row) path (choice_candidate t row sound path e)
read_at_candidates t OneCase path row sound has e = absurd (cc)
