-- What is decided, and why: what the laws of judgements say.
use Rattle.std.proofs.Common.{◌≡◌, ◌↔◌, ◌⊎◌, inl, inr, ℕ, List, [], ◌∷◌, ◌++◌, filter, Bool, true, false, cond, Option, Some, None, refl, sym, ap, subst, ◌∙◌, append_assoc}
use Rattle.std.specs.Prelude.{◌&&◌, is_some, codes}
use Rattle.std.specs.Str.{bytes_eq}
use Rattle.std.specs.List.{find, flat_map, AllByRecursion}
use Rattle.nm_types.specs.Path.{PathStep}
use Rattle.nm_config.specs.Under.{stands_for}
use Rattle.nm_proto.specs.declared.message.RowAccess.{RowAccess}
use Rattle.nm_access.specs.declared.rule.Action.{Action}
use Rattle.nm_access.specs.declared.rule.Action.TheVariants as action
use Rattle.nm_access.specs.declared.rule.Rule.{Rule}
use Rattle.nm_access.specs.declared.rule.RuleList.{RuleList}
use Rattle.nm_access.specs.declared.rule.Group.{Group}
use Rattle.nm_access.specs.declared.rule.AccessRules.{AccessRules}
use Rattle.nm_access.specs.declared.access.Judgement.{Judgement}
use Rattle.nm_access.specs.declared.access.Judgement.TheVariants.{Permit, Deny}
use Rattle.nm_access.specs.Covers.{covers, StandFor, IsOver}
use Rattle.nm_access.specs.Rule.{matches_operation, matches_row}
use Rattle.nm_access.specs.Judged.{Ruled, ruled, is_list_of, rules_of, denied_by, name_of, decided, holds_of, first_of, first_for_operation, first_for_row, operation_default, operation_denial, row_denial, operation_judged, judged_operation, row_judged, judged_rows}
use Rattle.nm_access.specs.Laws.{IsFirstPassing, IsPermitted, IsRuledOut, IsLeftOut, IsDenied, with_lists}
use Rattle.nm_access.proofs.Firsts.{find_some}

-- ---- paths over rows

and_parts : (a b : Bool) → (a && b) ≡ true → (a ≡ true) × (b ≡ true)
and_parts true b e = (refl, e)
and_parts false b e = cc

and_both : (a b : Bool) → a ≡ true → b ≡ true → (a && b) ≡ true
and_both true b e f = f
and_both false b e f = cc

over_from : (path row : List PathStep) → covers path row ≡ true → IsOver path row
over_from [] row e = record { front = []; rest = row; begins = refl; each = tt }
over_from (s ∷ ss) [] e = cc
over_from (s ∷ ss) (o ∷ os) e =
    let parts = and_parts (stands_for s o) (covers ss os) e in
    let below = over_from ss os parts.1 in
    record { front = o ∷ below.front; rest = below.rest; begins = ap (λ l. o ∷ l) below.begins; each = (parts.0, below.each) }

over_front : (path front rest : List PathStep) → StandFor path front → covers path (front ++ rest) ≡ true
over_front [] front rest each = refl
over_front (s ∷ ss) [] rest each = absurd each
over_front (s ∷ ss) (o ∷ os) rest each = and_both (stands_for s o) (covers ss (os ++ rest)) each.0 (over_front ss os rest each.1)

-- a path is over what begins so
pub over_means : (path row : List PathStep) → (covers path row ≡ true) ↔ IsOver path row
over_means path row = (over_from path row, λ over. ap (covers path) over.begins ∙ over_front path over.front over.rest over.each)

-- ---- the first that passes

first_step : {X : Type 0} (test : X → Bool) (y x : X) (xs : List X) (b : Bool) → test y ≡ b
    → (find test xs ≡ Some x → IsFirstPassing test xs x) → cond b (Some y) (find test xs) ≡ Some x → IsFirstPassing test (y ∷ xs) x
first_step test y x xs true t go_on e =
    let same : y ≡ x = cc in
    record {
      earlier = [];
      later = xs;
      whole = ap (λ z. z ∷ xs) same;
      failing = tt;
      passing = subst (λ z. test z ≡ true) same t;
    }
first_step test y x xs false t go_on e =
    let h = go_on e in
    record {
      earlier = y ∷ h.earlier;
      later = h.later;
      whole = ap (λ l. y ∷ l) h.whole;
      failing = (t, h.failing);
      passing = h.passing;
    }

first_passing : {X : Type 0} (test : X → Bool) (xs : List X) (x : X) → find test xs ≡ Some x → IsFirstPassing test xs x
first_passing test [] x e = cc
first_passing test (y ∷ xs) x e = first_step test y x xs (test y) refl (first_passing test xs x) e

failing_step : {X : Type 0} (b : Bool) (y : X) (rest : Option X) → cond b (Some y) rest ≡ None → (b ≡ false) × (rest ≡ None)
failing_step true y rest e = cc
failing_step false y rest e = (refl, e)

all_failing : {X : Type 0} (test : X → Bool) (xs : List X) → find test xs ≡ None → AllByRecursion (λ x. test x ≡ false) xs
all_failing test [] e = tt
all_failing test (y ∷ xs) e = let h = failing_step (test y) y (find test xs) e in (h.0, all_failing test xs h.1)

-- ---- what is decided

not_denied : (a : Action) (name : List ℕ) → denied_by a name ≡ None → a ≡ action.Permit
not_denied action.Permit name e = refl
not_denied action.Deny name e = cc

denied_so : (a : Action) (name by : List ℕ) → denied_by a name ≡ Some by → (a ≡ action.Deny) × (by ≡ name)
denied_so action.Permit name by e = cc
denied_so action.Deny name by e = (refl, cc)

module _ (access : AccessRules) (user : List ℕ) where
  permitted_by : (row : List PathStep × RowAccess) (first : Option Ruled) → first_for_row access user row ≡ first
      → access.write_default ≡ action.Deny → decided first (denied_by access.write_default (codes "write-default")) ≡ None
      → IsPermitted access user row
  permitted_by row None is default e =
      let never : denied_by action.Deny (codes "write-default") ≡ None = subst (λ a. denied_by a (codes "write-default") ≡ None) default e in cc
  permitted_by row (Some r) is default e = record {
    permitting = r;
    first = first_passing (holds_of (matches_row row)) (rules_of access user) r is;
    permits = not_denied r.rule.action (name_of r) e;
  }

  judged_permit : (denial : Option (List ℕ)) (path : List PathStep) (after : Judgement) → row_judged denial path after ≡ Permit
      → (denial ≡ None) × (after ≡ Permit)
  judged_permit None path after e = (refl, e)
  judged_permit (Some by) path after e = cc

  -- where the default denies, each row that is permitted is so by a rule
  pub all_permitted : (rows : List (List PathStep × RowAccess)) → access.write_default ≡ action.Deny → judged_rows access user rows ≡ Permit
      → AllByRecursion (IsPermitted access user) rows
  unfolding judged_rows
  all_permitted [] default e = tt
  all_permitted (row ∷ rows) default e =
      let h = judged_permit (row_denial access user row) row.0 (judged_rows access user rows) e in
      (permitted_by row (first_for_row access user row) refl default h.0, all_permitted rows default h.1)

  -- ---- which row is told

  told_step : (row : List PathStep × RowAccess) (rows : List (List PathStep × RowAccess)) (by : List ℕ) (path : Option (List PathStep))
      (denial : Option (List ℕ)) → row_denial access user row ≡ denial
      → (judged_rows access user rows ≡ Deny by path → IsDenied access user rows by path)
      → row_judged denial row.0 (judged_rows access user rows) ≡ Deny by path → IsDenied access user (row ∷ rows) by path
  told_step row rows by path None is go_on e =
      let h = go_on e in
      record {
        before = row ∷ h.before;
        row = h.row;
        after = h.after;
        whole = ap (λ l. row ∷ l) h.whole;
        permitted = (is, h.permitted);
        denied = h.denied;
        told = h.told;
      }
  told_step row rows by path (Some other) is go_on e =
      let same : other ≡ by = cc in
      let there : Some row.0 ≡ path = cc in
      record {
        before = [];
        row = row;
        after = rows;
        whole = refl;
        permitted = tt;
        denied = is ∙ ap Some same;
        told = sym there;
      }

  told_row : (rows : List (List PathStep × RowAccess)) (by : List ℕ) (path : Option (List PathStep))
      → judged_rows access user rows ≡ Deny by path → IsDenied access user rows by path
  unfolding judged_rows
  told_row [] by path e = cc
  told_row (row ∷ rows) by path e = told_step row rows by path (row_denial access user row) refl (told_row rows by path) e

  judged_so : (before : List (List PathStep × RowAccess)) (row : List PathStep × RowAccess) (after : List (List PathStep × RowAccess)) (by : List ℕ)
      → AllByRecursion (λ earlier. row_denial access user earlier ≡ None) before → row_denial access user row ≡ Some by
      → judged_rows access user (before ++ row ∷ after) ≡ Deny by (Some row.0)
  unfolding judged_rows
  judged_so [] row after by permitted denied = ap (λ o. row_judged o row.0 (judged_rows access user after)) denied
  judged_so (other ∷ before) row after by permitted denied =
      ap (λ o. row_judged o other.0 (judged_rows access user (before ++ row ∷ after))) permitted.0
      ∙ judged_so before row after by permitted.1 denied

  judged_denied : (rows : List (List PathStep × RowAccess)) (by : List ℕ) (path : Option (List PathStep)) → IsDenied access user rows by path
      → judged_rows access user rows ≡ Deny by path
  judged_denied rows by path d =
      ap (judged_rows access user) d.whole ∙ (judged_so d.before d.row d.after by d.permitted d.denied ∙ ap (Deny by) (sym d.told))

  pub tells_first : (rows : List (List PathStep × RowAccess)) (by : List ℕ) (path : Option (List PathStep))
      → (judged_rows access user rows ≡ Deny by path) ↔ IsDenied access user rows by path
  tells_first rows by path = (told_row rows by path, judged_denied rows by path)

  -- ---- by what

  named_so : (row : List PathStep × RowAccess) (by : List ℕ) (first : Option Ruled) → first_for_row access user row ≡ first
      → decided first (denied_by access.write_default (codes "write-default")) ≡ Some by
      → IsRuledOut access user row by ⊎ IsLeftOut access user row by
  named_so row by None is e =
      let h = denied_so access.write_default (codes "write-default") by e in
      inr (record {
        failing = all_failing (holds_of (matches_row row)) (rules_of access user) is;
        denies = h.0;
        named = h.1;
      })
  named_so row by (Some r) is e =
      let h = denied_so r.rule.action (name_of r) by e in
      inl (record {
        denying = r;
        first = first_passing (holds_of (matches_row row)) (rules_of access user) r is;
        denies = h.0;
        named = h.1;
      })

  pub names_rule : (row : List PathStep × RowAccess) (by : List ℕ) → row_denial access user row ≡ Some by
      → IsRuledOut access user row by ⊎ IsLeftOut access user row by
  names_rule row by e = named_so row by (first_for_row access user row) refl e

-- ---- later rules

more_step : (b : Bool) (x : RuleList) (l m n : List RuleList) → flat_map ruled l ≡ flat_map ruled m ++ flat_map ruled n
    → flat_map ruled (cond b (x ∷ l) l) ≡ flat_map ruled (cond b (x ∷ m) m) ++ flat_map ruled n
more_step true x l m n e = ap (λ r. ruled x ++ r) e ∙ sym (append_assoc (ruled x) (flat_map ruled m) (flat_map ruled n))
more_step false x l m n e = e

rules_more : (p : RuleList → Bool) (lists more : List RuleList)
    → flat_map ruled (filter p (lists ++ more)) ≡ flat_map ruled (filter p lists) ++ flat_map ruled (filter p more)
rules_more p [] more = refl
rules_more p (x ∷ lists) more = more_step (p x) x (filter p (lists ++ more)) (filter p lists) (filter p more) (rules_more p lists more)

module _ (test : Rule → Bool) (groups : List Group) (user : List ℕ) (lists more : List RuleList) where
  first_kept : (first : Option Ruled) → first_of test groups user lists ≡ first → is_some first ≡ true
      → first_of test groups user (lists ++ more) ≡ first_of test groups user lists
  first_kept None is some = cc
  first_kept (Some r) is some =
      ap (find (holds_of test)) (rules_more (is_list_of groups user) lists more)
      ∙ (find_some (holds_of test) (flat_map ruled (filter (is_list_of groups user) lists))
      (flat_map ruled (filter (is_list_of groups user) more)) r is ∙ sym is)

pub row_kept : (access : AccessRules) (more : List RuleList) (user : List ℕ) (row : List PathStep × RowAccess)
    → is_some (first_for_row access user row) ≡ true → row_denial (with_lists access more) user row ≡ row_denial access user row
row_kept access more user row some =
    ap (λ first. decided first (denied_by access.write_default (codes "write-default")))
    (first_kept (matches_row row) access.groups user access.lists more (first_for_row access user row) refl some)

pub operation_kept : (access : AccessRules) (more : List RuleList) (user name : List ℕ)
    → is_some (first_for_operation access user name) ≡ true
    → operation_denial (with_lists access more) user name ≡ operation_denial access user name
operation_kept access more user name some =
    ap (λ first. cond (bytes_eq name (codes "close-session")) None (decided first (operation_default access.exec_default name)))
    (first_kept (matches_operation name) access.groups user access.lists more (first_for_operation access user name) refl some)

-- ---- sessions

pub may_close : (access : AccessRules) (user : List ℕ) → judged_operation access user (codes "close-session") ≡ Permit
unfolding judged_operation
may_close access user = refl

pub kills_none : (access : AccessRules) (user : List ℕ) → rules_of access user ≡ []
    → judged_operation access user (codes "kill-session") ≡ Deny (codes "kill-session") None
unfolding judged_operation
kills_none access user none =
    ap (λ rules. operation_judged (decided (find (holds_of (matches_operation (codes "kill-session"))) rules)
    (operation_default access.exec_default (codes "kill-session")))) none
