-- Where mandatory leafs aren't there.
use Rattle.std.proofs.Common.{◌≡◌, ℕ, ◌<◌, List, [], length, Bool, true, false, not, ◌&&◌, sym, ap, ◌∙◌}
use Rattle.std.specs.Prelude.{filter}
use Rattle.std.specs.FinMap.{contains_key}
use Rattle.nm_types.specs.Path.{PathStep}
use Rattle.nm_schema_tree.specs.Nodes.{SchemaTree, is_mandatory_at}
use Rattle.nm_path.specs.Spelling.{node_of}
use Rattle.nm_path.specs.Sound.{IsSound}
use Rattle.nm_config.specs.Rows.{Rows}
use Rattle.nm_validate_rules.specs.declared.rule.Rule.TheVariants.{Mandatory}
use Rattle.nm_validate_rules.specs.Guards.{stands}
use Rattle.nm_validate_rules.specs.Places.{places}
use Rattle.nm_validate_rules.specs.Violated.{is_mandatory_node, violated}
use Rattle.nm_validate_rules.proofs.Among.{Among, among_contains}
use Rattle.nm_validate_rules.proofs.Placed.{placed_law}
use Rattle.nm_validate_places.proofs.Leasts.{filter_same, filter_none}

module _ (t : SchemaTree) (rows : Rows) (sound : IsSound t.nodes) (x : ℕ) (lt : x < length t.nodes) where
  all_of : (a s c : Bool) (m : Bool) → m ≡ a → s ≡ true → (m && s && c) ≡ (a && c)
  all_of true s c m e f = ap (λ b. b && s && c) e ∙ ap (λ b. b && c) f
  all_of false s c m e f = ap (λ b. b && s && c) e

  at_place : (p : List PathStep) → Among (places t rows x) p → violated t rows Mandatory p ≡ (is_mandatory_at t.nodes x && not (contains_key rows p))
  at_place p a =
      let h = (placed_law t rows x p sound lt).0 (among_contains (places t rows x) p a) in
      all_of (is_mandatory_at t.nodes x) (stands t rows p) (not (contains_key rows p)) (is_mandatory_node t (node_of t p)) (ap (is_mandatory_node t) h.0) h.1

  -- of a node that has to be there, those of its places that have no row
  pub missing_places : is_mandatory_at t.nodes x ≡ true → filter (λ p. not (contains_key rows p)) (places t rows x) ≡ filter (violated t rows Mandatory) (places t rows x)
  missing_places e = filter_same (λ p. not (contains_key rows p)) (violated t rows Mandatory) (places t rows x) (λ p a. sym (at_place p a ∙ ap (λ b. b && not (contains_key rows p)) e))

  -- of others none
  pub no_places : is_mandatory_at t.nodes x ≡ false → filter (violated t rows Mandatory) (places t rows x) ≡ []
  no_places e = filter_none (violated t rows Mandatory) (places t rows x) (λ p a. at_place p a ∙ ap (λ b. b && not (contains_key rows p)) e)
