-- Where names lead among the members of rows (RFC 7950 section 7.13).
use Rattle.std.specs.Prelude.{ℕ, List, Bool, not, ◌==◌, ◌&&◌, Option, Some, None, if◌then◌else◌, slice_get}
use Rattle.std.specs.List.{find}
use Rattle.std.specs.Str.{bytes_eq}
use Rattle.nm_schema_statements.specs.declared.word.Word.{Word}
use Rattle.nm_schema_statements.specs.declared.row.Row.{Row}
use Rattle.nm_schema_statements.specs.Rows.{has_word}
use Rattle.nm_schema_uses.specs.Arguments.{argument_at}
use Rattle.nm_schema_uses.specs.Members.{members}
use Rattle.nm_schema_uses.specs.Passing.{kept_members}
use Rattle.nm_schema_keys.specs.declared.found.Found.{Found}
use Rattle.nm_schema_keys.specs.declared.found.Found.TheVariants as found
use Rattle.nm_schema_keys.specs.ConfigUse.{is_lost}
use Rattle.nm_schema_keys.specs.Words.{own_name}

-- row i has the name
unfoldable pub is_called : List Row → List ℕ → ℕ → Bool
is_called rows name i = bytes_eq (argument_at rows i) name

-- a name leads to a row, or to none
abbrev pub row_or_missing : Option ℕ → Found
row_or_missing None = found.Missing
row_or_missing (Some i) = found.Row i

-- the first of some nodes that has the name; unknown where the nodes are
abbrev pub found_among : List Row → Option (List ℕ) → List ℕ → Found
found_among rows None name = found.Unknown
found_among rows (Some nodes) name = row_or_missing (find (is_called rows name) nodes)

-- where two names lead, if to one row
abbrev pub agreed : Found → Found → Found
agreed (found.Row i) (found.Row j) = if i == j then found.Row i else found.Missing
agreed (found.Row i) found.Missing = found.Missing
agreed (found.Row i) found.Unknown = found.Unknown
agreed found.Missing other = found.Missing
agreed found.Unknown other = found.Unknown

-- the first of some nodes that has the name, if it is kept where state is lost
abbrev pub seen_among : List Row → Bool → Option (List ℕ) → Option (List ℕ) → List ℕ → Found
seen_among rows loses nodes kept name = if loses then agreed (found_among rows nodes name) (found_among rows kept name) else found_among rows nodes name

-- the first member of row i that has the name; where state is lost, it must be neither state nor in a choice that is (RFC 7950 sections 7.9.2, 7.13 and
-- 7.21.1)
abbrev pub member_named : List Row → List (Option ℕ) → Bool → ℕ → List ℕ → Found
member_named rows groupings loses i name = seen_among rows loses (members rows groupings i) (kept_members rows groupings i) name

-- row i has the word, and isn't lost
unfoldable pub is_fit : List Row → Bool → Word → ℕ → Bool
is_fit rows loses wanted i = has_word wanted (slice_get rows i) && not (is_lost rows loses i)

-- a row that doesn't fit is as if it weren't there
abbrev pub fitting : List Row → Bool → Word → Found → Found
fitting rows loses wanted (found.Row i) = if is_fit rows loses wanted i then found.Row i else found.Missing
fitting rows loses wanted found.Missing = found.Missing
fitting rows loses wanted found.Unknown = found.Unknown

-- where a name leads among some nodes; without a name nowhere
abbrev pub named_among : List Row → Option (List ℕ) → Option (List ℕ) → Found
named_among rows nodes None = found.Missing
named_among rows nodes (Some name) = found_among rows nodes name

-- where a name leads among the members of row i; without a name nowhere
abbrev pub member_called : List Row → List (Option ℕ) → Bool → ℕ → Option (List ℕ) → Found
member_called rows groupings loses i None = found.Missing
member_called rows groupings loses i (Some name) = member_named rows groupings loses i name

-- which member of row i a word in module m names, where it has a word and isn't lost
unfoldable pub fit_member : List Row → List (Option ℕ) → Bool → ℕ → ℕ → Word → List ℕ → Found
fit_member rows groupings loses i m wanted word = fitting rows loses wanted (member_called rows groupings loses i (own_name rows m word))

-- which of some nodes a word in module m names, where the node has a word and isn't lost
unfoldable pub fit_among : List Row → Option (List ℕ) → Bool → ℕ → Word → List ℕ → Found
fit_among rows nodes loses m wanted word = fitting rows loses wanted (named_among rows nodes (own_name rows m word))
