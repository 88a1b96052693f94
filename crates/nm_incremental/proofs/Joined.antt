-- The least path at which a rule is violated is found among those at which it reads a row that differs.
use Rattle.std.proofs.Common.{◌≡◌, List, [], ◌∷◌, Bool, true, false, None, if◌then◌else◌, refl, sym, ap, ◌∙◌}
use Rattle.std.specs.Prelude.{filter}
use Rattle.std.specs.List.{list_any, find}
use Rattle.std.specs.FinMap.{contains_key, keys}
use Rattle.nm_types.specs.Path.{PathStep}
use Rattle.nm_schema_tree.specs.Nodes.{SchemaTree}
use Rattle.nm_path.specs.Sound.{IsSound}
use Rattle.nm_config.specs.Rows.{Rows}
use Rattle.nm_validate_rules.specs.declared.rule.Rule.{Rule}
use Rattle.nm_validate_rules.specs.Standing.{StandsIn}
use Rattle.nm_validate_rules.specs.Violated.{violated}
use Rattle.nm_validate_rules.specs.Rule.{all_rules}
use Rattle.nm_validate_rules.specs.Violation.{IsValid, looked_at, least_of, least_at, told, first_told, violation}
use Rattle.nm_validate_rules.proofs.Among.{any_passes, among_filter, filter_passes, among_flat, contains_among}
use Rattle.nm_validate_rules.proofs.Areas.{key_among}
use Rattle.nm_validate_rules.proofs.Looked.{looked}
use Rattle.nm_validate_rules.proofs.Placed.{any_at}
use Rattle.nm_validate_places.proofs.Firsts.{least_key}
use Rattle.nm_validate_places.proofs.Gathered.{same_least}
use Rattle.nm_validate_places.proofs.Leasts.{filter_none}
use Rattle.nm_validate_rules.specs.Reads.{reads}
use Rattle.nm_validate_rules.specs.Candidates.{candidates, has_candidates}
use Rattle.nm_validate_rules.specs.Reaches.{DifferAmong}
use Rattle.nm_validate_rules.proofs.Lists.{contrary, not_true}
use Rattle.nm_validate_rules.proofs.Joined.{changed_is_read}
use Rattle.nm_validate_rules.proofs.PlacedReads.{read_at_candidates}
use Rattle.nm_incremental.specs.Read.{read_at, read_of, read_set, least_found, first_found}
use Rattle.nm_incremental.specs.Whole.{is_concerned, least_if}
use Rattle.nm_incremental.proofs.Sets.{set_there}
use Rattle.nm_incremental.proofs.Cased.{read_concerned}

module _ (t : SchemaTree) (base next : Rows) (differing : List (List PathStep)) (sound : IsSound t.nodes) (b : StandsIn t base) (n : StandsIn t next) (valid : IsValid t base)
    (among : DifferAmong differing base next) where
  is_in_set : (rule : Rule) (path : List PathStep) → has_candidates rule ≡ true → violated t next rule path ≡ true → contains_key (read_set t rule differing) path ≡ true
  is_in_set rule path alone v =
      let h = any_passes (reads t rule path) differing (changed_is_read t base next differing rule path sound b n valid among v) in
      let c = contains_among (candidates t rule h.x) path (read_at_candidates t rule path h.x sound alone h.passes) in
      set_there (read_of t rule differing) path
      (among_flat (read_at t rule) differing h.x path h.among (among_filter (λ q. reads t rule q h.x) (candidates t rule h.x) path c h.passes))

  -- of a rule on single places
  pub least_read_is : (rule : Rule) → has_candidates rule ≡ true → find (violated t next rule) (keys (read_set t rule differing)) ≡ least_at t next rule
  unfolding least_at
  least_read_is rule alone =
      let v = violated t next rule in
      let set = read_set t rule differing in
      sym (least_key v set)
      ∙ same_least (filter v (keys set)) (filter v (looked_at t next rule))
      (λ p a. let e = filter_passes v (keys set) p a in among_filter v (looked_at t next rule) p (looked t next sound.tree rule p e) e)
      (λ p a. let e = filter_passes v (looked_at t next rule) p a in among_filter v (keys set) p (key_among set p (is_in_set rule p alone e)) e)

  met_there : (rule : Rule) → has_candidates rule ≡ false → list_any (is_concerned t rule) differing ≡ false → (path : List PathStep) → violated t next rule path ≡ true → ⊥
  met_there rule alone none path v =
      let h = any_passes (reads t rule path) differing (changed_is_read t base next differing rule path sound b n valid among v) in
      contrary (list_any (is_concerned t rule) differing) (any_at (is_concerned t rule) differing h.x h.among (read_concerned t sound rule alone path h.x h.passes)) none

  none_least : (rule : Rule) → has_candidates rule ≡ false → list_any (is_concerned t rule) differing ≡ false → least_at t next rule ≡ None
  unfolding least_at
  none_least rule alone none = ap least_of (filter_none (violated t next rule) (looked_at t next rule) (λ p a. not_true (violated t next rule p) (met_there rule alone none p)))

  least_by : (rule : Rule) → has_candidates rule ≡ false → (c : Bool) → list_any (is_concerned t rule) differing ≡ c → (if c then least_at t next rule else None) ≡ least_at t next rule
  least_by rule alone true e = refl
  least_by rule alone false e = sym (none_least rule alone e)

  found_by : (rule : Rule) (c : Bool) → has_candidates rule ≡ c
      → (if c then find (violated t next rule) (keys (read_set t rule differing)) else least_if (list_any (is_concerned t rule) differing) t next rule) ≡ least_at t next rule
  found_by rule true e = least_read_is rule e
  found_by rule false e = least_by rule e (list_any (is_concerned t rule) differing) refl

  -- of each rule
  found_is : (rule : Rule) → least_found t next differing rule ≡ least_at t next rule
  found_is rule = found_by rule (has_candidates rule) refl

  first_is : (rules : List Rule) → first_found t next differing rules ≡ first_told t next rules
  first_is [] = refl
  first_is (rule ∷ rules) = ap (λ o. told rule o (first_found t next differing rules)) (found_is rule) ∙ ap (told rule (least_at t next rule)) (first_is rules)

  -- what is found first is the violation
  pub violation_found : first_found t next differing all_rules ≡ violation t next
  unfolding violation
  violation_found = first_is all_rules
