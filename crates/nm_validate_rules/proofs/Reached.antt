-- What is violated after a change of a valid configuration is reached by the paths that cover the change.
use Rattle.std.proofs.Common.{◌≡◌, List, ◌++◌, Bool, true, false, not, ◌||◌, Option, Some, None, is_some, refl, ap}
use Rattle.std.specs.Prelude.{filter}
use Rattle.std.specs.FinMap.{get, contains_key, keys}
use Rattle.nm_types.specs.declared.value.Value.{Value}
use Rattle.nm_types.specs.Value.{is_same_value}
use Rattle.nm_types.specs.ValueLaws.{same_value_decides}
use Rattle.nm_schema_tree.specs.Nodes.{SchemaTree}
use Rattle.nm_path.specs.Sound.{IsSound}
use Rattle.nm_config.specs.Rows.{Rows}
use Rattle.nm_config.specs.Under.{is_under}
use Rattle.nm_validate_rules.specs.declared.rule.Rule.{Rule}
use Rattle.nm_validate_rules.specs.Standing.{StandsIn}
use Rattle.nm_validate_rules.specs.Violated.{violated}
use Rattle.nm_validate_rules.specs.Violation.{IsValid}
use Rattle.nm_validate_rules.proofs.Among.{Among, any_passes, among_filter, filter_passes, among_left, among_right, among_contains}
use Rattle.nm_validate_rules.proofs.Areas.{key_among}
use Rattle.nm_validate_rules.specs.Reads.{reads}
use Rattle.nm_validate_rules.specs.Reaches.{DifferAmong, Covers, Reaches}
use Rattle.nm_validate_rules.proofs.Lists.{or_left, contrary}
use Rattle.nm_validate_rules.proofs.Agreeing.{Path}
use Rattle.nm_validate_rules.proofs.Joined.{changed_is_read}

-- ---- values that differ

is_same : Option Value → Option Value → Bool
is_same None None = true
is_same None (Some w) = false
is_same (Some v) None = false
is_same (Some v) (Some w) = is_same_value v w

same_is : (a b : Option Value) → is_same a b ≡ true → a ≡ b
unfolding is_same
same_is None None e = refl
same_is None (Some w) e = absurd (cc)
same_is (Some v) None e = absurd (cc)
same_is (Some v) (Some w) e = ap Some ((same_value_decides v w (is_same_value v w) refl).0 e)

is_same_by : (a b : Option Value) → a ≡ b → is_same a b ≡ true
unfolding is_same
is_same_by None None e = refl
is_same_by None (Some w) e = absurd (cc)
is_same_by (Some v) None e = absurd (cc)
is_same_by (Some v) (Some w) e = (same_value_decides v w (is_same_value v w) refl).1 (cc)

either_there : (a b : Option Value) → (a ≡ b → ⊥) → (is_some a || is_some b) ≡ true
either_there None None differ = absurd (differ refl)
either_there None (Some w) differ = refl
either_there (Some v) b differ = refl

turned : (b : Bool) → not b ≡ true → b ≡ false
turned true e = absurd (cc)
turned false e = refl

unless_false : (b : Bool) → (b ≡ false → ⊥) → b ≡ true
unless_false true h = refl
unless_false false h = absurd (h refl)

module _ (base next : Rows) where
  differs : Path → Bool
  differs row = not (is_same (get base row) (get next row))

  -- the rows at which configurations differ
  differing : List Path
  differing = filter differs (keys base ++ keys next)

  there_by : (row : Path) (a b : Bool) → contains_key base row ≡ a → contains_key next row ≡ b → (a || b) ≡ true → Among (keys base ++ keys next) row
  there_by row true b there more e = among_left (keys base) (keys next) row (key_among base row there)
  there_by row false true more there e = among_right (keys base) (keys next) row (key_among next row there)
  there_by row false false p q e = absurd (cc)

  differ_among : DifferAmong differing base next
  unfolding differing differs
  differ_among row out =
      same_is (get base row) (get next row) (unless_false (is_same (get base row) (get next row)) (λ no.
      let apart : get base row ≡ get next row → ⊥ = λ (same : get base row ≡ get next row). contrary (is_same (get base row) (get next row)) (is_same_by (get base row) (get next row) same) no in
      let there = there_by row (contains_key base row) (contains_key next row) refl refl (either_there (get base row) (get next row) apart) in
      out (among_contains (filter differs (keys base ++ keys next)) row (among_filter differs (keys base ++ keys next) row there (ap not no)))))

  apart_in : (row : Path) → Among differing row → get base row ≡ get next row → ⊥
  unfolding differing differs
  apart_in row a same =
      contrary (is_same (get base row) (get next row)) (is_same_by (get base row) (get next row) same) (turned (is_same (get base row) (get next row)) (filter_passes differs (keys base ++ keys next) row a))

-- a constraint that reads a row at which configurations differ is reached by what covers the difference
pub reaches_by : (t : SchemaTree) (base next : Rows) (touched : List Path) (rule : Rule) (path row : Path) → Covers touched base next → (get base row ≡ get next row → ⊥) → reads t rule path row ≡ true
    → Reaches t base next touched rule path
reaches_by t base next touched rule path row covers differ read =
    let h = covers row differ in
    record {
      row = row;
      by = h.by;
      there = either_there (get base row) (get next row) differ;
      read = read;
      touched_by = h.among;
      meets = or_left (is_under h.by row) (is_under row h.by) h.under;
    }

-- what is violated after a change of a valid configuration is reached by what covers the change
pub violated_reached : (t : SchemaTree) (base next : Rows) (touched : List Path) (rule : Rule) (path : Path) → IsSound t.nodes → StandsIn t base → StandsIn t next → IsValid t base → Covers touched base next
    → violated t next rule path ≡ true → Reaches t base next touched rule path
violated_reached t base next touched rule path sound s r valid covers bad =
    let h = any_passes (reads t rule path) (differing base next) (changed_is_read t base next (differing base next) rule path sound s r valid (differ_among base next) bad) in
    reaches_by t base next touched rule path h.x covers (apart_in base next h.x h.among) h.passes
