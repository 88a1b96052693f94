-- The rules that a configuration is judged by, in their order.
use Rattle.std.specs.Prelude.{ℕ, List, [], ◌∷◌}
use Rattle.nm_base.specs.declared.tag.Tag.{Tag}
use Rattle.nm_base.specs.declared.tag.Tag.TheVariants.{InvalidValue, DataMissing, OperationFailed}
use Rattle.nm_validate_rules.specs.declared.rule.Rule.{Rule}
use Rattle.nm_validate_rules.specs.declared.rule.Rule.TheVariants.{ValueType, Key, Mandatory, Leafref, Unique, MinElements, MaxElements, MandatoryChoice, OneCase}

-- all rules, in the order in which their violations are told (this project's own)
abbrev pub all_rules : List Rule
all_rules = ValueType ∷ Key ∷ Mandatory ∷ Leafref ∷ Unique ∷ MinElements ∷ MaxElements ∷ MandatoryChoice ∷ OneCase ∷ []

-- the place of a rule in that order, from 1
abbrev pub rule_number : Rule → ℕ
rule_number ValueType = 1
rule_number Key = 2
rule_number Mandatory = 3
rule_number Leafref = 4
rule_number Unique = 5
rule_number MinElements = 6
rule_number MaxElements = 7
rule_number MandatoryChoice = 8
rule_number OneCase = 9

-- the tag that tells a violation (RFC 7950 section 15 gives the tags for unique, min-elements, max-elements, leafrefs and
-- mandatory choices; those for values, keys and mandatory leafs, and that for two cases are this project's own)
abbrev pub rule_tag : Rule → Tag
rule_tag ValueType = InvalidValue
rule_tag Key = InvalidValue
rule_tag Mandatory = DataMissing
rule_tag Leafref = DataMissing
rule_tag Unique = OperationFailed
rule_tag MinElements = OperationFailed
rule_tag MaxElements = OperationFailed
rule_tag MandatoryChoice = DataMissing
rule_tag OneCase = OperationFailed
