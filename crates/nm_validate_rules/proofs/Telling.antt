-- What is told of a configuration is its least violation.
use Rattle.std.proofs.Common.{◌≡◌, ℕ, ◌<◌, List, [], ◌∷◌, Bool, true, false, ◌&&◌, Option, Some, None, refl, sym, subst, inl, inr, arith}
use Rattle.std.proofs.lemmas.Bool.Decides.{nat_tests}
use Rattle.std.specs.Prelude.{nat_lt}
use Rattle.std.specs.List.{list_all}
use Rattle.nm_types.specs.Path.{PathStep}
use Rattle.nm_schema_tree.specs.Nodes.{SchemaTree}
use Rattle.nm_schema_tree.specs.Levels.{IsTree}
use Rattle.nm_config.specs.Rows.{Rows}
use Rattle.nm_validate_rules.specs.declared.rule.Rule.{Rule}
use Rattle.nm_validate_rules.specs.declared.rule.Rule.TheVariants.{ValueType, Key, Mandatory, Leafref, Unique, MinElements, MaxElements, MandatoryChoice, OneCase}
use Rattle.nm_validate_rules.specs.Rule.{all_rules, rule_number}
use Rattle.nm_validate_rules.specs.Violated.{violated}
use Rattle.nm_validate_rules.specs.Violation.{Violation, IsUpto, IsTold, looked_at, least_at, told, first_told, violation}
use Rattle.nm_validate_rules.proofs.Among.{Among, both}
use Rattle.nm_validate_rules.proofs.Least.{least_passes, least_first, none_passes}
use Rattle.nm_validate_rules.proofs.Looked.{looked}

-- ---- the order of the rules

-- a rule stands before all of these
before_all : Rule → List Rule → Bool
before_all rule others = list_all (λ other. nat_lt (rule_number rule) (rule_number other)) others

ascend : List Rule → Bool
ascend [] = true
ascend (rule ∷ others) = before_all rule others && ascend others

less : (a b : ℕ) → nat_lt a b ≡ true → a < b
less a b e = grind (arith, nat_tests)

stands_before : (rule : Rule) (others : List Rule) (other : Rule) → before_all rule others ≡ true → Among others other → rule_number rule < rule_number other
unfolding before_all
stands_before rule [] other e a = absurd a
stands_before rule (r ∷ rs) other e (inl same) =
    let h = both (nat_lt (rule_number rule) (rule_number r)) (before_all rule rs) e in
    subst (λ x. rule_number rule < rule_number x) (sym same) (less (rule_number rule) (rule_number r) h.0)
stands_before rule (r ∷ rs) other e (inr a) = stands_before rule rs other (both (nat_lt (rule_number rule) (rule_number r)) (before_all rule rs) e).1 a

rules_ascend : ascend all_rules ≡ true
unfolding ascend before_all
rules_ascend = refl

each_rule : (rule : Rule) → Among all_rules rule
each_rule ValueType = inl refl
each_rule Key = inr (inl refl)
each_rule Mandatory = inr (inr (inl refl))
each_rule Leafref = inr (inr (inr (inl refl)))
each_rule Unique = inr (inr (inr (inr (inl refl))))
each_rule MinElements = inr (inr (inr (inr (inr (inl refl)))))
each_rule MaxElements = inr (inr (inr (inr (inr (inr (inl refl))))))
each_rule MandatoryChoice = inr (inr (inr (inr (inr (inr (inr (inl refl)))))))
each_rule OneCase = inr (inr (inr (inr (inr (inr (inr (inr (inl refl))))))))

module _ (t : SchemaTree) (rows : Rows) (tree : IsTree t.nodes) where
  -- ---- one rule

  there : (rule : Rule) (path : List PathStep) → least_at t rows rule ≡ Some path → violated t rows rule path ≡ true
  unfolding least_at
  there rule path e = least_passes (violated t rows rule) (looked_at t rows rule) path e

  unless : (b : Bool) → (b ≡ true → b ≡ false) → b ≡ false
  unless true h = h refl
  unless false h = refl

  nowhere : (rule : Rule) → least_at t rows rule ≡ None → (path : List PathStep) → violated t rows rule path ≡ false
  unfolding least_at
  nowhere rule e path =
      unless (violated t rows rule path) (λ v. none_passes (violated t rows rule) (looked_at t rows rule) path e (looked t rows tree rule path v))

  first_there : (rule : Rule) (path other : List PathStep) → least_at t rows rule ≡ Some path → violated t rows rule other ≡ true → IsUpto (record { rule = rule; path = path }) rule other
  unfolding least_at
  first_there rule path other e v =
      inr (refl, least_first (violated t rows rule) (looked_at t rows rule) path other e (looked t rows tree rule other v) v)

  contrary : (b : Bool) → b ≡ true → b ≡ false → ⊥
  contrary true e h = cc
  contrary false e h = cc

  -- ---- some rules

  -- what is told of some rules
  ToldOf : List Rule → Option Violation → Type 0
  ToldOf rs None = (rule : Rule) → Among rs rule → (path : List PathStep) → violated t rows rule path ≡ false
  ToldOf rs (Some v) =
      Among rs v.rule × (violated t rows v.rule v.path ≡ true) × ((rule : Rule) → Among rs rule → (path : List PathStep) → violated t rows rule path ≡ true → IsUpto v rule path)

  none_more : (rule : Rule) (others : List Rule) → least_at t rows rule ≡ None → (v : Option Violation) → ToldOf others v → ToldOf (rule ∷ others) v
  unfolding ToldOf
  none_more rule others e None h = λ r a path. elim a [
    | inl same ↦ subst (λ x. violated t rows x path ≡ false) (sym same) (nowhere rule e path)
    | inr more ↦ h r more path
  ]
  none_more rule others e (Some v) h = (
    inr h.0,
    h.1,
    λ r a path is. elim a [
      | inl same ↦ absurd (contrary (violated t rows r path) is (subst (λ x. violated t rows x path ≡ false) (sym same) (nowhere rule e path)))
      | inr more ↦ h.2 r more path is
    ],
  )

  told_here : (rule : Rule) (others : List Rule) (path : List PathStep) → least_at t rows rule ≡ Some path → before_all rule others ≡ true → ToldOf (rule ∷ others) (Some (record { rule = rule; path = path }))
  unfolding ToldOf
  told_here rule others path e before = (
    inl refl,
    there rule path e,
    λ r a other is. elim a [
      | inl same ↦
          let here = first_there rule path other e (subst (λ x. violated t rows x other ≡ true) same is) in
          subst (λ x. IsUpto (record { rule = rule; path = path }) x other) (sym same) here
      | inr more ↦ inl (stands_before rule others r before more)
    ],
  )

  told_by : (rule : Rule) (others : List Rule) (o : Option (List PathStep)) (v : Option Violation) → least_at t rows rule ≡ o → before_all rule others ≡ true → ToldOf others v → ToldOf (rule ∷ others) (told rule o v)
  told_by rule others None v e before h = none_more rule others e v h
  told_by rule others (Some path) v e before h = told_here rule others path e before

  told_of : (rs : List Rule) → ascend rs ≡ true → ToldOf rs (first_told t rows rs)
  unfolding ToldOf ascend
  told_of [] e = λ rule a path. absurd a
  told_of (rule ∷ others) e =
      let h = both (before_all rule others) (ascend others) e in
      told_by rule others (least_at t rows rule) (first_told t rows others) refl h.0 (told_of others h.1)

  all_told : (v : Option Violation) → ToldOf all_rules v → IsTold t rows v
  unfolding ToldOf
  all_told None h = λ rule path. h rule (each_rule rule) path
  all_told (Some v) h = record { violated_there = h.1; least = λ rule path is. h.2 rule (each_rule rule) path is }

-- the violation that is told is the least of all
pub violation_is_told : (t : SchemaTree) (rows : Rows) → IsTree t.nodes → IsTold t rows (violation t rows)
unfolding violation
violation_is_told t rows tree = all_told t rows tree (first_told t rows all_rules) (told_of t rows tree all_rules rules_ascend)
