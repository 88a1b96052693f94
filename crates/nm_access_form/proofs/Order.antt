-- The table of access control rules is in order, so that each fault has a place.
use Rattle.std.proofs.Common.{ℕ, List, Bool, true, false, cond, codes, Option, Some, None, Ok, Err}
use Rattle.std.specs.Str.{bytes_eq}
use Rattle.serde_json.specs.Data.{Data, Members, no_members, member}
use Rattle.serde_json.specs.Find.{as_str, as_object}
use Rattle.nm_access.specs.declared.rule.Action.TheVariants.{Permit, Deny}
use Rattle.nm_access.specs.declared.rule.Accesses.{Accesses}
use Rattle.nm_access.specs.declared.rule.Target.{Target}
use Rattle.nm_proto.specs.declared.kind.ScenarioKind.TheVariants.{BadValue, TooMany}
use Rattle.nm_scenario_form.specs.declared.fault.Cause.{Cause}
use Rattle.nm_scenario_form.specs.declared.fault.Step.{Step}
use Rattle.nm_scenario_form.specs.Reading.{plain}
use Rattle.nm_scenario_form.specs.Form.{Form, chosen}
use Rattle.nm_scenario_form.specs.Exact.{IsWrong}
use Rattle.nm_scenario_form.specs.Places.{IsThere, InOrder, AreNamed, IsPlace}
use Rattle.nm_scenario_form.proofs.Placed.{placed}
use Rattle.nm_scenario_form.proofs.InOrder.{leaf_in_order, made_in_order, by_in_order, list_in_order, object_in_order, no_more_named, member_in_order}
use Rattle.nm_access_form.specs.Entries.{refused, entry_parts, entries_of, entries}
use Rattle.nm_access_form.specs.Words.{all_accesses, are_accesses, named, parted, accesses_in, accesses_said, accesses}
use Rattle.nm_access_form.specs.Parts.{text_in, any_text_said, any_text, action_in, action_said, action}
use Rattle.nm_access_form.specs.Table.{Written, texts, group, target, path_target, names_two, rule_form, rules_form, list_form, lists_form, access_form}

-- ---- leafs

text_there : (o : Option (List ℕ)) → IsThere (text_in o)
text_there None = λ e. cc
text_there (Some text) = tt

any_text_in_order : InOrder any_text
unfolding any_text_said
any_text_in_order = leaf_in_order _ (λ whole. text_there (as_str whole))

tested_action : (a b : Bool) → IsThere (cond a (Ok Permit) (cond b (Ok Deny) (Err (plain BadValue))))
tested_action true b = tt
tested_action false true = tt
tested_action false false = λ e. cc

action_there : (o : Option (List ℕ)) → IsThere (action_in o)
action_there None = λ e. cc
action_there (Some word) = tested_action (bytes_eq word (codes "permit")) (bytes_eq word (codes "deny"))

action_in_order : InOrder action
unfolding action_said
action_in_order = leaf_in_order _ (λ whole. action_there (as_str whole))

tested_accesses : (a b : Bool) (x y : Accesses) → IsThere (cond a (Ok x) (cond b (Ok y) (Err (plain BadValue))))
tested_accesses true b x y = tt
tested_accesses false true x y = tt
tested_accesses false false x y = λ e. cc

accesses_there : (o : Option (List ℕ)) → IsThere (accesses_in o)
accesses_there None = λ e. cc
accesses_there (Some text) =
    tested_accesses (bytes_eq text (codes "*")) (are_accesses (parted text)) all_accesses (named (parted text))

accesses_in_order : InOrder accesses
unfolding accesses_said
accesses_in_order = leaf_in_order _ (λ whole. accesses_there (as_str whole))

bad_in_order : (A : Type 0) → InOrder (refused {A = A} BadValue)
bad_in_order A = leaf_in_order _ (λ whole. λ e. cc)

many_in_order : (A : Type 0) → InOrder (refused {A = A} TooMany)
many_in_order A = leaf_in_order _ (λ whole. λ e. cc)

-- ---- what stands around them

chosen_in_order : {A : Type 0} (b : Bool) (form other : Form A) → InOrder form → InOrder other → InOrder (chosen b form other)
chosen_in_order true form other order more = order
chosen_in_order false form other order more = more

module _ {A : Type 0} (form : List ℕ → Form A) (order : (name : List ℕ) → InOrder (form name)) where
  members_in_order : (all : Members) → AreNamed (entry_parts form all)
  members_in_order no_members = no_more_named _
  members_in_order (member name part rest) = member_in_order name None (form name) (entry_parts form rest) (order name) (members_in_order rest)

  object_or_bad : (most : ℕ) (o : Option Members) → InOrder (entries_of most form o)
  object_or_bad most None = bad_in_order _
  object_or_bad most (Some all) = chosen_in_order _ _ _ (many_in_order _) (object_in_order _ _ _ (members_in_order all))

  entries_in_order : (most : ℕ) → InOrder (entries most form)
  unfolding entries
  entries_in_order most = by_in_order _ (λ whole. object_or_bad most (as_object whole))

texts_in_order : InOrder texts
unfolding texts
texts_in_order = list_in_order _ _ _ _ (λ n. any_text_in_order)

target_in_order : (make : List ℕ → Target) → InOrder (target make)
target_in_order make = made_in_order _ _ any_text_in_order

-- ---- the table

module _ (path : Written) (there : (whole : Data) → IsThere (path whole)) where
  path_in_order : InOrder (path_target path)
  path_in_order = made_in_order _ _ (leaf_in_order _ there)

  rule_in_order : InOrder (rule_form path)
  rule_in_order =
      by_in_order _ (λ part. chosen_in_order (names_two part) _ _ (bad_in_order _)
      (object_in_order _ _ _
      (member_in_order _ _ _ _ any_text_in_order
      (member_in_order _ _ _ _ action_in_order
      (member_in_order _ _ _ _ accesses_in_order
      (member_in_order _ _ _ _ (target_in_order _)
      (member_in_order _ _ _ _ (target_in_order _)
      (member_in_order _ _ _ _ path_in_order (no_more_named _)))))))))

  rules_in_order : InOrder (rules_form path)
  unfolding rules_form
  rules_in_order = list_in_order _ _ _ _ (λ n. rule_in_order)

  list_form_in_order : InOrder (list_form path)
  list_form_in_order =
      object_in_order _ _ _
      (member_in_order _ _ _ _ any_text_in_order
      (member_in_order _ _ _ _ texts_in_order (member_in_order _ _ _ _ rules_in_order (no_more_named _))))

  lists_in_order : InOrder (lists_form path)
  unfolding lists_form
  lists_in_order = by_in_order _ (λ whole. chosen_in_order _ _ _ (many_in_order _) (list_in_order _ _ _ _ (λ n. list_form_in_order)))

  access_in_order : InOrder (access_form path)
  unfolding access_form
  access_in_order =
      object_in_order _ _ _
      (member_in_order _ _ _ _ (entries_in_order group (λ name. made_in_order _ _ texts_in_order) _)
      (member_in_order _ _ _ _ lists_in_order
      (member_in_order _ _ _ _ action_in_order (member_in_order _ _ _ _ action_in_order (no_more_named _)))))

  -- each fault has a place
  pub access_placed : (whole : Data) (cause : Cause) (place : List Step) → IsWrong (access_form path) whole cause place
      → IsPlace cause.kind place whole
  access_placed whole cause place wrong = placed (access_form path) whole access_in_order cause place wrong.0 wrong.1
