-- Laws of judgements, in words apart from how they are made.
use Rattle.std.specs.Prelude.{◌≡◌, ℕ, List, ◌∷◌, ◌++◌, Bool, true, false, Option, Some, None, codes}
use Rattle.std.specs.List.{AllByRecursion}
use Rattle.nm_types.specs.Path.{PathStep}
use Rattle.nm_proto.specs.declared.message.RowAccess.{RowAccess}
use Rattle.nm_access.specs.declared.rule.Action.TheVariants as action
use Rattle.nm_access.specs.declared.rule.RuleList.{RuleList}
use Rattle.nm_access.specs.declared.rule.AccessRules.{AccessRules}
use Rattle.nm_access.specs.Rule.{matches_row}
use Rattle.nm_access.specs.Judged.{Ruled, holds_of, name_of, rules_of, row_denial}

-- of a list this is the first that passes a test
pub record IsFirstPassing {X : Type 0} (test : X → Bool) (all : List X) (x : X) : Type 0 where
  pub earlier : List X
  pub later : List X
  pub whole : all ≡ earlier ++ x ∷ later
  pub failing : AllByRecursion (λ y. test y ≡ false) earlier
  pub passing : test x ≡ true

-- the first rule of a user that matches a row permits it
pub record IsPermitted (access : AccessRules) (user : List ℕ) (row : List PathStep × RowAccess) : Type 0 where
  pub permitting : Ruled
  pub first : IsFirstPassing (holds_of (matches_row row)) (rules_of access user) permitting
  pub permits : permitting.rule.action ≡ action.Permit

-- each row is permitted by a rule
abbrev pub ArePermitted : AccessRules → List ℕ → List (List PathStep × RowAccess) → Type 0
ArePermitted access user rows = AllByRecursion (IsPermitted access user) rows

-- the first rule of a user that matches a row denies it, and this is its name
pub record IsRuledOut (access : AccessRules) (user : List ℕ) (row : List PathStep × RowAccess) (by : List ℕ) : Type 0 where
  pub denying : Ruled
  pub first : IsFirstPassing (holds_of (matches_row row)) (rules_of access user) denying
  pub denies : denying.rule.action ≡ action.Deny
  pub named : by ≡ name_of denying

-- no rule of a user matches a row, and the default denies it
pub record IsLeftOut (access : AccessRules) (user : List ℕ) (row : List PathStep × RowAccess) (by : List ℕ) : Type 0 where
  pub failing : AllByRecursion (λ r. matches_row row r.rule ≡ false) (rules_of access user)
  pub denies : access.write_default ≡ action.Deny
  pub named : by ≡ codes "write-default"

-- one of these rows is denied by this, and none before it by anything
pub record IsDenied (access : AccessRules) (user : List ℕ) (rows : List (List PathStep × RowAccess)) (by : List ℕ) (path : Option (List PathStep)) : Type 0
  where
    pub before : List (List PathStep × RowAccess)
    pub row : List PathStep × RowAccess
    pub after : List (List PathStep × RowAccess)
    pub whole : rows ≡ before ++ row ∷ after
    pub permitted : AllByRecursion (λ earlier. row_denial access user earlier ≡ None) before
    pub denied : row_denial access user row ≡ Some by
    pub told : path ≡ Some row.0

-- the same rules with more lists behind the others
abbrev pub with_lists : AccessRules → List RuleList → AccessRules
with_lists access more =
    record { groups = access.groups; lists = access.lists ++ more; write_default = access.write_default; exec_default = access.exec_default }
