-- A row that a rule reads concerns it.
use Rattle.std.proofs.Common.{◌≡◌, ◌<◌, ℕ, suc, List, take, length, Bool, true, false, ◌&&◌, Option, Some, None, is_some, if◌then◌else◌, refl, ap, arith}
use Rattle.std.proofs.lemmas.Bool.Decides.{nat_tests}
use Rattle.std.specs.Prelude.{nat_lt}
use Rattle.std.specs.List.{find, range_with_len}
use Rattle.nm_types.specs.Path.{PathStep}
use Rattle.nm_schema_tree.specs.Nodes.{SchemaTree, case_at, choice_at}
use Rattle.nm_path.specs.Spelling.{node_of}
use Rattle.nm_path.specs.Sound.{IsSound}
use Rattle.nm_config.specs.Under.{is_under}
use Rattle.nm_validate_rules.specs.declared.rule.Rule.{Rule}
use Rattle.nm_validate_rules.specs.declared.rule.Rule.TheVariants.{ValueType, Key, Mandatory, Leafref, Unique, MinElements, MaxElements, MandatoryChoice, OneCase}
use Rattle.nm_validate_rules.specs.Cases.{is_choice, outwards, cases_over, case_of_choice}
use Rattle.nm_validate_rules.specs.Guards.{front}
use Rattle.nm_validate_rules.specs.Violated.{child_by, case_of_node, child_over}
use Rattle.nm_validate_rules.proofs.Among.{any_passes, both, among_numbers}
use Rattle.nm_validate_rules.proofs.Placed.{any_at}
use Rattle.nm_validate_rules.specs.Reads.{child_reads, reads}
use Rattle.nm_validate_rules.specs.Candidates.{has_candidates}
use Rattle.nm_validate_rules.proofs.Concerned.{read_concerns}
use Rattle.nm_incremental.specs.Whole.{is_cased, passes_case, is_concerned}

never : (b : Bool) → b ≡ false → b ≡ true → ⊥
never true e h = absurd (cc)
never false e h = absurd (cc)

lower : (a b : ℕ) → nat_lt a b ≡ true → a < b
lower a b e = grind (arith, nat_tests)

module _ (t : SchemaTree) (k : ℕ) where
  none_over : (x : ℕ) (o : Option ℕ) → case_at t.nodes x ≡ o → is_some (case_of_choice t k x) ≡ true → is_some o ≡ true
  unfolding case_of_choice cases_over
  none_over x (Some c) at e = refl
  none_over x None at e =
      let none : is_some (case_of_choice t k x) ≡ false = ap (λ o. is_some (find (λ c. is_choice k (choice_at t.cases c)) (outwards t (length t.cases) o))) at in
      absurd (never (is_some (case_of_choice t k x)) none e)

  cased : (o : Option ℕ) → is_some (case_of_node t k o) ≡ true → is_cased t o ≡ true
  cased None e = absurd (cc)
  cased (Some x) e = none_over x (case_at t.nodes x) refl e

  child_case : (path : List PathStep) (o : Option ℕ) → is_some (child_by path o) ≡ true → is_some o ≡ true
  child_case path None e = absurd (cc)
  child_case path (Some c) e = refl

  record Below (above row : List PathStep) : Type 0 where
    long : length above < length row
    is : is_cased t (node_of t (take (suc (length above)) row)) ≡ true

  below_by : (above row : List PathStep) (b : Bool) → (is_under above row && nat_lt (length above) (length row)) ≡ b
      → is_some (if b then child_by (take (suc (length above)) row) (case_of_node t k (node_of t (take (suc (length above)) row))) else None) ≡ true → Below above row
  below_by above row false is e = absurd (cc)
  below_by above row true is e = record {
    long = lower (length above) (length row) (both (is_under above row) (nat_lt (length above) (length row)) is).1;
    is = cased (node_of t (take (suc (length above)) row)) (child_case (take (suc (length above)) row) (case_of_node t k (node_of t (take (suc (length above)) row))) e);
  }

  passes_by : (above row : List PathStep) → Below above row → passes_case t row ≡ true
  unfolding passes_case
  passes_by above row h =
      let long = h.long in
      let lt : suc (length above) < suc (length row) = omega (arith, long) in
      any_at (λ n. is_cased t (node_of t (take n row))) (range_with_len 0 (suc (length row))) (suc (length above)) (among_numbers (suc (length row)) (suc (length above)) lt) h.is

-- what the rule on cases reads is at or below a node in a case
case_passes : (t : SchemaTree) (path row : List PathStep) → reads t OneCase path row ≡ true → passes_case t row ≡ true
case_passes t path row e =
    let h = any_passes (λ k. child_reads t k path row) (range_with_len 0 (length t.choices)) e in
    let b = both (is_some (case_of_node t h.x (node_of t path))) (is_some (child_over t h.x (front path) row)) h.passes in
    passes_by t h.x (front path) row (below_by t h.x (front path) row (is_under (front path) row && nat_lt (length (front path)) (length row)) refl b.1)

-- a row that is read by a rule on whole configurations, or by that on cases, concerns it
pub read_concerned : (t : SchemaTree) → IsSound t.nodes → (rule : Rule) → has_candidates rule ≡ false → (path row : List PathStep) → reads t rule path row ≡ true → is_concerned t rule row ≡ true
read_concerned t sound ValueType alone path row e = absurd (cc)
read_concerned t sound Key alone path row e = absurd (cc)
read_concerned t sound Mandatory alone path row e = absurd (cc)
read_concerned t sound Leafref alone path row e = read_concerns t Leafref path row sound e
read_concerned t sound Unique alone path row e = read_concerns t Unique path row sound e
read_concerned t sound MinElements alone path row e = absurd (cc)
read_concerned t sound MaxElements alone path row e = absurd (cc)
read_concerned t sound MandatoryChoice alone path row e = absurd (cc)
read_concerned t sound OneCase alone path row e = case_passes t path row e
