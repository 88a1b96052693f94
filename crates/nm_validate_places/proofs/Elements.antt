-- Where lists and leaf-lists have too few or too many entries.
use Rattle.std.proofs.Common.{◌≡◌, ℕ, zero, suc, ◌-◌, ◌<◌, List, [], length, Bool, true, false, not, ◌&&◌, ◌==◌, Option, Some, None, Vec, refl, sym, ap, ◌∙◌, arith}
use Rattle.std.proofs.lemmas.Grind.{common_steps}
use Rattle.std.proofs.lemmas.Bool.Decides.{nat_tests}
use Rattle.std.specs.Prelude.{filter, nat_lt}
use Rattle.std.specs.List.{list_any}
use Rattle.std.specs.declared.alloc.Global.{Global}
use Rattle.nm_types.specs.Path.{PathStep}
use Rattle.nm_schema_tree.specs.Nodes.{SchemaTree, case_at, elements_at}
use Rattle.nm_path.specs.Sound.{IsSound}
use Rattle.nm_config.specs.Rows.{Rows}
use Rattle.nm_validate_rules.specs.declared.rule.Rule.TheVariants.{MinElements, MaxElements}
use Rattle.nm_validate_rules.specs.Cases.{numbers, is_in_case, exists_at, has_other}
use Rattle.nm_validate_rules.specs.Guards.{front, stands}
use Rattle.nm_validate_rules.specs.Places.{places}
use Rattle.nm_validate_rules.specs.Values.{count_at}
use Rattle.nm_validate_rules.specs.Violated.{is_below, is_above, has_beside, has_too_few, has_too_many, violated}
use Rattle.nm_validate_rules.proofs.Among.{Among, among_contains}
use Rattle.nm_validate_rules.proofs.Placed.{placed_law}
use Rattle.nm_validate_places.specs.Members.{AreOthers, is_allowed_by}
use Rattle.nm_validate_places.specs.Wanted.{is_short}
use Rattle.nm_validate_places.proofs.Leasts.{filter_same, filter_none}
use Rattle.nm_validate_places.proofs.Below.{any_kept}

module _ (t : SchemaTree) (rows : Rows) (sound : IsSound t.nodes) (x : ℕ) (lt : x < length t.nodes) where
  pub at_place : (p : List PathStep) → Among (places t rows x) p → violated t rows MaxElements p ≡ is_above (count_at rows p) (elements_at t.nodes x).max
  at_place p a =
      let h = (placed_law t rows x p sound lt).0 (among_contains (places t rows x) p a) in
      ap (has_too_many t rows p) h.0 ∙ ap (λ b. b && is_above (count_at rows p) (elements_at t.nodes x).max) h.1

  -- of a node that may have so many entries, those of its places that have more
  pub above_max : (max : ℕ) → (elements_at t.nodes x).max ≡ Some max → filter (λ p. nat_lt max (count_at rows p)) (places t rows x) ≡ filter (violated t rows MaxElements) (places t rows x)
  above_max max e = filter_same (λ p. nat_lt max (count_at rows p)) (violated t rows MaxElements) (places t rows x) (λ p a. sym (at_place p a ∙ ap (is_above (count_at rows p)) e))

  -- of others none
  pub no_max : (elements_at t.nodes x).max ≡ None → filter (violated t rows MaxElements) (places t rows x) ≡ []
  no_max e = filter_none (violated t rows MaxElements) (places t rows x) (λ p a. at_place p a ∙ ap (is_above (count_at rows p)) e)

-- ---- too few

pub at_least_one : (count : ℕ) → true ≡ not (nat_lt count 0)
at_least_one count = grind (arith, common_steps, nat_tests)

pub at_least : (min count : ℕ) → (min ≡ 0 → ⊥) → nat_lt (min - 1) count ≡ not (nat_lt count min)
at_least zero count e = absurd (e refl)
at_least (suc min) count e = grind (arith, common_steps, nat_tests)

-- one of the other nodes of its case is there, or the node stands in none
pub beside_is : (t : SchemaTree) (rows : Rows) (above : List PathStep) (x : ℕ) (case : Option ℕ) (others : Option (Vec ℕ Global)) → AreOthers t x case others
    → is_allowed_by t rows above others ≡ has_beside t rows above x case
unfolding has_other
beside_is t rows above x None None h = refl
beside_is t rows above x (Some c) (Some others) h =
    let other = λ (y : ℕ). not (y == x) && is_in_case t c y in
    ap (list_any (exists_at t rows above)) h ∙ any_kept other (exists_at t rows above) (numbers t.nodes)
beside_is t rows above x None (Some others) h = absurd h
beside_is t rows above x (Some c) None h = absurd h

turned : (a b : Bool) → (not (not a) && b) ≡ (b && a)
turned true true = refl
turned true false = refl
turned false true = refl
turned false false = refl

wanted_and : (s b c : Bool) → s ≡ true → ((s && b) && c) ≡ (b && c)
wanted_and s b c e = ap (λ a. (a && b) && c) e

module _ (t : SchemaTree) (rows : Rows) (sound : IsSound t.nodes) (x : ℕ) (lt : x < length t.nodes) where
  few_at_place : (p : List PathStep) → Among (places t rows x) p → violated t rows MinElements p ≡ (has_beside t rows (front p) x (case_at t.nodes x) && is_below (count_at rows p) (elements_at t.nodes x).min)
  few_at_place p a =
      let h = (placed_law t rows x p sound lt).0 (among_contains (places t rows x) p a) in
      ap (has_too_few t rows p) h.0 ∙ wanted_and (stands t rows p) (has_beside t rows (front p) x (case_at t.nodes x)) (is_below (count_at rows p) (elements_at t.nodes x).min) h.1

  never : (b : Bool) → (b && false) ≡ false
  never true = refl
  never false = refl

  -- of a node that has to have so many entries, those of its places that have fewer
  pub below_min : (min : ℕ) (others : Option (Vec ℕ Global)) → (elements_at t.nodes x).min ≡ Some min → AreOthers t x (case_at t.nodes x) others
      → filter (is_short t rows min others) (places t rows x) ≡ filter (violated t rows MinElements) (places t rows x)
  below_min min others e h = filter_same (is_short t rows min others) (violated t rows MinElements) (places t rows x) (λ p a.
      turned (nat_lt (count_at rows p) min) (is_allowed_by t rows (front p) others)
      ∙ ap (λ b. b && nat_lt (count_at rows p) min) (beside_is t rows (front p) x (case_at t.nodes x) others h)
      ∙ sym (few_at_place p a ∙ ap (λ o. has_beside t rows (front p) x (case_at t.nodes x) && is_below (count_at rows p) o) e))

  -- of others none
  pub no_min : (elements_at t.nodes x).min ≡ None → filter (violated t rows MinElements) (places t rows x) ≡ []
  no_min e = filter_none (violated t rows MinElements) (places t rows x) (λ p a.
      few_at_place p a ∙ ap (λ o. has_beside t rows (front p) x (case_at t.nodes x) && is_below (count_at rows p) o) e ∙ never (has_beside t rows (front p) x (case_at t.nodes x)))
