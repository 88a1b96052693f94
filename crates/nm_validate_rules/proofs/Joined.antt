-- All rules hang on the rows that they read, so what is violated after a change of what was valid reads a row that changed.
use Rattle.std.proofs.Common.{◌≡◌, List, Bool, true, false, refl, sym, ◌∙◌}
use Rattle.std.specs.List.{list_any}
use Rattle.nm_schema_tree.specs.Nodes.{SchemaTree}
use Rattle.nm_path.specs.Sound.{IsSound}
use Rattle.nm_config.specs.Rows.{Rows}
use Rattle.nm_validate_rules.specs.declared.rule.Rule.{Rule}
use Rattle.nm_validate_rules.specs.declared.rule.Rule.TheVariants.{ValueType, Key, Mandatory, Leafref, Unique, MinElements, MaxElements, MandatoryChoice, OneCase}
use Rattle.nm_validate_rules.specs.Standing.{StandsIn}
use Rattle.nm_validate_rules.specs.Violated.{violated}
use Rattle.nm_validate_rules.specs.Violation.{IsValid}
use Rattle.nm_validate_rules.proofs.Among.{contains_among}
use Rattle.nm_validate_rules.proofs.Placed.{any_at}
use Rattle.nm_validate_rules.specs.Reads.{reads}
use Rattle.nm_validate_rules.specs.Reaches.{AgreeOn, DifferAmong}
use Rattle.nm_validate_rules.proofs.Lists.{contrary}
use Rattle.nm_validate_rules.proofs.Agreeing.{Path}
use Rattle.nm_validate_rules.proofs.Local.{types_agree, key_agrees, mandatory_agrees, min_agrees, max_agrees, choice_agrees_at, cases_agree}
use Rattle.nm_validate_rules.proofs.References.{leafref_agrees}
use Rattle.nm_validate_rules.proofs.Repeats.{unique_agrees}

-- configurations that agree on the rows that a rule reads are judged alike
pub rules_agree : (t : SchemaTree) (one other : Rows) (rule : Rule) (path : Path) → IsSound t.nodes → StandsIn t one → StandsIn t other → AgreeOn (reads t rule path) one other
    → violated t one rule path ≡ violated t other rule path
rules_agree t one other ValueType path sound s r agree = types_agree t one other path agree
rules_agree t one other Key path sound s r agree = key_agrees t one other path agree
rules_agree t one other Mandatory path sound s r agree = mandatory_agrees t one other path agree
rules_agree t one other Leafref path sound s r agree = leafref_agrees t sound one other path agree
rules_agree t one other Unique path sound s r agree = unique_agrees t one other s r path agree
rules_agree t one other MinElements path sound s r agree = min_agrees t one other path agree
rules_agree t one other MaxElements path sound s r agree = max_agrees t one other path agree
rules_agree t one other MandatoryChoice path sound s r agree = choice_agrees_at t one other path agree
rules_agree t one other OneCase path sound s r agree = cases_agree t one other path agree

module _ (t : SchemaTree) (base next : Rows) (differing : List Path) (rule : Rule) (path : Path) (sound : IsSound t.nodes) (s : StandsIn t base) (r : StandsIn t next) (differ : DifferAmong differing base next) where
  unread : list_any (reads t rule path) differing ≡ false → AgreeOn (reads t rule path) base next
  unread none row read =
      differ row (λ c. contrary (list_any (reads t rule path) differing) (any_at (reads t rule path) differing row (contains_among differing row c) read) none)

  read_by : (b : Bool) → list_any (reads t rule path) differing ≡ b → violated t base rule path ≡ false → violated t next rule path ≡ true → b ≡ true
  read_by true is valid bad = refl
  read_by false is valid bad = sym valid ∙ rules_agree t base next rule path sound s r (unread is) ∙ bad

-- what is violated after a change of a valid configuration reads a row that changed
pub changed_is_read : (t : SchemaTree) (base next : Rows) (differing : List Path) (rule : Rule) (path : Path) → IsSound t.nodes → StandsIn t base → StandsIn t next → IsValid t base
    → DifferAmong differing base next → violated t next rule path ≡ true → list_any (reads t rule path) differing ≡ true
changed_is_read t base next differing rule path sound s r valid differ bad =
    read_by t base next differing rule path sound s r differ (list_any (reads t rule path) differing) refl (valid rule path) bad
