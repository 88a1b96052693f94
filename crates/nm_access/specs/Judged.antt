-- What is decided of an operation and of the rows of an edit (RFC 8341 sections 3.4.4 and 3.4.5).
use Rattle.std.specs.Prelude.{ℕ, List, [], ◌∷◌, ◌++◌, map, filter, Bool, ◌&&◌, ◌||◌, Option, Some, None, codes, if◌then◌else◌}
use Rattle.std.specs.List.{list_any, find, flat_map}
use Rattle.std.specs.Str.{bytes_eq}
use Rattle.nm_types.specs.Path.{PathStep}
use Rattle.nm_proto.specs.declared.message.RowAccess.{RowAccess}
use Rattle.nm_access.specs.declared.rule.Action.{Action}
use Rattle.nm_access.specs.declared.rule.Action.TheVariants as action
use Rattle.nm_access.specs.declared.rule.Rule.{Rule}
use Rattle.nm_access.specs.declared.rule.RuleList.{RuleList}
use Rattle.nm_access.specs.declared.rule.Group.{Group}
use Rattle.nm_access.specs.declared.rule.AccessRules.{AccessRules}
use Rattle.nm_access.specs.declared.access.Judgement.{Judgement}
use Rattle.nm_access.specs.declared.access.Judgement.TheVariants.{Permit, Deny}
use Rattle.nm_access.specs.Rule.{matches_operation, matches_row}

-- ---- a user's rules

-- a user is one of a group
abbrev pub has_user : List ℕ → Group → Bool
has_user user group = list_any (λ other. bytes_eq other user) group.users

-- a group has this name, and the user is one of it
abbrev pub is_group_of : List ℕ → List ℕ → Group → Bool
is_group_of user name group = bytes_eq group.name name && has_user user group

-- a user is in a group of this name; `*` is the name of all groups
abbrev pub is_in : List Group → List ℕ → List ℕ → Bool
is_in groups user name = bytes_eq name (codes "*") || list_any (is_group_of user name) groups

-- a list of rules is one of a user's: it names one of his groups. Who is in no group has none (this project's own)
abbrev pub is_list_of : List Group → List ℕ → RuleList → Bool
is_list_of groups user rules = list_any (has_user user) groups && list_any (is_in groups user) rules.groups

-- a rule with the name of its list
pub record Ruled : Type 0 where
  pub list : List ℕ
  pub rule : Rule

-- a rule of a list of this name
abbrev pub ruled_in : List ℕ → Rule → Ruled
ruled_in list rule = record { list = list; rule = rule }

-- the rules of a list
abbrev pub ruled : RuleList → List Ruled
ruled rules = map (ruled_in rules.name) rules.rules

-- the lists of a user, in order
abbrev pub lists_of : AccessRules → List ℕ → List RuleList
lists_of access user = filter (is_list_of access.groups user) access.lists

-- his rules, in order
abbrev pub rules_of : AccessRules → List ℕ → List Ruled
rules_of access user = flat_map ruled (lists_of access user)

-- ---- decisions: by what is denied, if anything denies

-- an action denies by this name
abbrev pub denied_by : Action → List ℕ → Option (List ℕ)
denied_by action.Permit name = None
denied_by action.Deny name = Some name

-- the name of a rule: `LIST/RULE` (this project's own)
abbrev pub name_of : Ruled → List ℕ
name_of r = r.list ++ 47 ∷ r.rule.name

-- by what a rule denies, where it does
abbrev pub denial_of : Ruled → Option (List ℕ)
denial_of r = denied_by r.rule.action (name_of r)

-- the first rule that matches decides, or where none does the default
abbrev pub decided : Option Ruled → Option (List ℕ) → Option (List ℕ)
decided None default = default
decided (Some r) default = denial_of r

-- a test of rules, of one with the name of its list
abbrev pub holds_of : (Rule → Bool) → Ruled → Bool
holds_of test r = test r.rule

-- the first rule of a list that passes a test, where the list is the user's
abbrev pub in_list : (Rule → Bool) → List Group → List ℕ → RuleList → Option Ruled
in_list test groups user list = if is_list_of groups user list then find (holds_of test) (ruled list) else None

-- the first rule that passes a test, of those of a user's lists
abbrev pub first_of : (Rule → Bool) → List Group → List ℕ → List RuleList → Option Ruled
first_of test groups user lists = find (holds_of test) (flat_map ruled (filter (is_list_of groups user) lists))

-- the first rule of a user that matches an operation
abbrev pub first_for_operation : AccessRules → List ℕ → List ℕ → Option Ruled
first_for_operation access user name = first_of (matches_operation name) access.groups user access.lists

-- the first rule of a user that matches a row
abbrev pub first_for_row : AccessRules → List ℕ → List PathStep × RowAccess → Option Ruled
first_for_row access user row = first_of (matches_row row) access.groups user access.lists

-- without a rule, `kill-session` is denied (RFC 8341 section 3.4.4), and other operations by their default
abbrev pub operation_default : Action → List ℕ → Option (List ℕ)
operation_default default name =
    if bytes_eq name (codes "kill-session") then Some (codes "kill-session") else denied_by default (codes "exec-default")

-- by what an operation is denied; `close-session` never is (RFC 8341 section 3.4.4)
abbrev pub operation_denial : AccessRules → List ℕ → List ℕ → Option (List ℕ)
operation_denial access user name =
    if bytes_eq name (codes "close-session") then None
    else decided (first_for_operation access user name) (operation_default access.exec_default name)

-- by what a row is denied
abbrev pub row_denial : AccessRules → List ℕ → List PathStep × RowAccess → Option (List ℕ)
row_denial access user row = decided (first_for_row access user row) (denied_by access.write_default (codes "write-default"))

-- ---- judgements

-- an operation that is denied by this, if by anything
abbrev pub operation_judged : Option (List ℕ) → Judgement
operation_judged None = Permit
operation_judged (Some by) = Deny by None

-- what is decided of an operation
unfoldable pub judged_operation : AccessRules → List ℕ → List ℕ → Judgement
judged_operation access user name = operation_judged (operation_denial access user name)

-- a row that is denied by this answers, and else the rows after it do
abbrev pub row_judged : Option (List ℕ) → List PathStep → Judgement → Judgement
row_judged None path after = after
row_judged (Some by) path after = Deny by (Some path)

-- what is decided of rows: the first that is denied answers
unfoldable pub judged_rows : AccessRules → List ℕ → List (List PathStep × RowAccess) → Judgement
judged_rows access user [] = Permit
judged_rows access user (row ∷ rows) = row_judged (row_denial access user row) row.0 (judged_rows access user rows)
