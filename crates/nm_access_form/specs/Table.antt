-- The member `access` of a scenario (this project's own, after RFC 8341 section 3.2): a table of one line for each of its parts.
use Rattle.std.specs.Prelude.{ℕ, ◌-◌, ◌^◌, nat_lt, List, Bool, ◌&&◌, ◌||◌, Option, Some, None, is_some, Result, codes}
use Rattle.serde_json.specs.Data.{Data}
use Rattle.serde_json.specs.Find.{get}
use Rattle.nm_types.specs.Path.{PathStep}
use Rattle.nm_access.specs.declared.rule.Action.{Action}
use Rattle.nm_access.specs.declared.rule.Action.TheVariants.{Permit, Deny}
use Rattle.nm_access.specs.declared.rule.Accesses.{Accesses}
use Rattle.nm_access.specs.declared.rule.Target.{Target}
use Rattle.nm_access.specs.declared.rule.Target.TheVariants.{Everything, Path}
use Rattle.nm_access.specs.declared.rule.Rule.{Rule}
use Rattle.nm_access.specs.declared.rule.RuleList.{RuleList}
use Rattle.nm_access.specs.declared.rule.Group.{Group}
use Rattle.nm_access.specs.declared.rule.AccessRules.{AccessRules}
use Rattle.nm_proto.specs.declared.kind.ScenarioKind.TheVariants.{BadValue, TooMany}
use Rattle.nm_scenario_form.specs.declared.fault.Cause.{Cause}
use Rattle.nm_scenario_form.specs.Form.{Form, Parts, leaf, made, by, list, done, required, optional, closed, chosen}
use Rattle.nm_scenario_form.specs.Leafs.{one}
use Rattle.nm_scenario_form.specs.Words.{item_count}
use Rattle.nm_access_form.specs.Entries.{entries, refused}
use Rattle.nm_access_form.specs.Words.{accesses}
use Rattle.nm_access_form.specs.Parts.{any_text, action, module_of, operation_of}

-- ---- groups

-- the greatest number of groups
abbrev pub group_limit : ℕ
group_limit = 64

-- texts, any number of them
unfoldable pub texts : Form (List (List ℕ))
texts = list 0 (2 ^ 64 - 1) one (λ n. any_text)

-- a group of this name
abbrev pub group_of : List ℕ → List (List ℕ) → Group
group_of name users = record { name = name; users = users }

-- the users of a group, by its name
abbrev pub group : List ℕ → Form Group
group name = made (group_of name) texts

-- groups by their names
abbrev pub groups : Form (List Group)
groups = entries group_limit group

-- ---- rules

-- how a rule's path is written
abbrev pub Written : Type 0
Written = Data → Result (List PathStep) Cause

-- what a rule is about by one of its members
abbrev pub about : Option Target → Option Target → Option Target → Target
about (Some target) operation path = target
about None (Some target) path = target
about None None (Some target) = target
about None None None = Everything

-- what makes a rule of its members
abbrev pub MakesRule : Type 0
MakesRule = List ℕ → Action → Accesses → Option Target → Option Target → Option Target → Rule

-- a rule of its members
abbrev pub rule_of : MakesRule
rule_of name action accesses owner operation path =
    record { name = name; action = action; accesses = accesses; target = about owner operation path }

-- a target by its name
abbrev pub target : (List ℕ → Target) → Form (Option Target)
target make = made (λ name. Some (make name)) any_text

-- a path
abbrev pub path_target : Written → Form (Option Target)
path_target path = made (λ steps. Some (Path steps)) (leaf path)

-- the members of a rule
abbrev pub rule_parts : Written → Parts MakesRule Rule
rule_parts path =
    required (codes "name") any_text
    (required (codes "action") action
    (required (codes "access") accesses
    (optional (codes "module") None (target module_of)
    (optional (codes "operation") None (target operation_of)
    (optional (codes "path") None (path_target path) done)))))

-- a part has a member
abbrev pub has : List ℕ → Data → Bool
has name part = is_some (get name part)

-- two of three
abbrev pub two_of : Bool → Bool → Bool → Bool
two_of a b c = (a && (b || c)) || (b && c)

-- a rule is about one thing at most
abbrev pub names_two : Data → Bool
names_two part = two_of (has (codes "module") part) (has (codes "operation") part) (has (codes "path") part)

-- a rule's own form comes before its members
abbrev pub rule_form : Written → Form Rule
rule_form path = by (λ part. chosen (names_two part) (refused BadValue) (closed (rule_parts path) rule_of))

-- rules, of which there may be as many as all lists may have
unfoldable pub rules_form : Written → Form (List Rule)
rules_form path = list 0 (2 ^ 64 - 1) one (λ n. rule_form path)

-- ---- lists

-- the greatest number of lists
abbrev pub list_limit : ℕ
list_limit = 64

-- the greatest number of rules of all lists together
abbrev pub rule_limit : ℕ
rule_limit = 1000

-- what makes a list of its members
abbrev pub MakesList : Type 0
MakesList = List ℕ → List (List ℕ) → List Rule → RuleList

-- a list of its members
abbrev pub list_of : MakesList
list_of name groups rules = record { name = name; groups = groups; rules = rules }

-- the members of a list
abbrev pub list_parts : Written → Parts MakesList RuleList
list_parts path = required (codes "name") any_text (required (codes "groups") texts (required (codes "rules") (rules_form path) done))

-- one list
abbrev pub list_form : Written → Form RuleList
list_form path = closed (list_parts path) list_of

-- how many items a member has, if it is there
abbrev pub items_of : Option Data → ℕ
items_of None = 0
items_of (Some part) = item_count part

-- how many rules a list has, whatever is wrong with it
unfoldable pub rules_in : Data → ℕ
rules_in part = items_of (get (codes "rules") part)

-- lists in order; lists and rules are counted before any of them is looked at
unfoldable pub lists_form : Written → Form (List RuleList)
lists_form path = by (λ whole. chosen (nat_lt list_limit (item_count whole)) (refused TooMany) (list 0 rule_limit rules_in (λ n. list_form path)))

-- ---- the whole

-- what makes rules of the members
abbrev pub Makes : Type 0
Makes = List Group → List RuleList → Action → Action → AccessRules

-- rules of the members
abbrev pub makes : Makes
makes groups lists write exec = record { groups = groups; lists = lists; write_default = write; exec_default = exec }

-- the members
abbrev pub access_parts : Written → Parts Makes AccessRules
access_parts path =
    required (codes "groups") groups
    (required (codes "lists") (lists_form path)
    (optional (codes "write-default") Deny action
    (optional (codes "exec-default") Permit action done)))

-- access control rules whose paths are written so
unfoldable pub access_form : Written → Form AccessRules
access_form path = closed (access_parts path) makes
