-- JSON texts that differ in the order of the members of objects (RFC 8259 section 4).
use Rattle.std.specs.Prelude.{◌≡◌, ◌≤◌, ℕ, List, length, true, Option, Some, option_and_then}
use Rattle.std.specs.Ordering.{nat_cmp}
use Rattle.std.specs.Cmp.Lexicographic.{slice_cmp}
use Rattle.std.specs.declared.cmp.Ordering.TheVariants.{Less}
use Rattle.serde_json.specs.Data.{Members, no_members, member}
use Rattle.std.specs.Str.{is_utf8}
use Rattle.json.specs.Lex.{tokens}
use Rattle.json.specs.Json as json
use Rattle.serde_json.specs.Read.{max_depth}
use Rattle.nm_scenario.specs.Scenario.{byte_limit}

-- the JSON value that a text spells, with the members of its objects as they stand there
abbrev pub spelled : List ℕ → Option json.Json
spelled text = option_and_then (λ p. json.if_last p.0 p.1) (json.value max_depth (tokens text))

mutual
  -- the same value, where the members of each object may stand in another order
  pub data Reordered : json.Json → json.Json → Type 0 where
    same : {value : json.Json} → Reordered value value
    in_array : {values others : json.Items} → ReorderedItems values others → Reordered (json.array values) (json.array others)
    in_object : {members others : json.Members} → ReorderedMembers members others → Reordered (json.object members) (json.object others)

  -- the same items in the same order, each perhaps reordered within
  pub data ReorderedItems : json.Items → json.Items → Type 0 where
    no_more : ReorderedItems json.no_items json.no_items
    another : {value other : json.Json} {values others : json.Items} → Reordered value other → ReorderedItems values others
        → ReorderedItems (json.item value values) (json.item other others)

  -- the same members in another order, each perhaps reordered within: two neighbours of different names change places, or that and more
  pub data ReorderedMembers : json.Members → json.Members → Type 0 where
    as_before : {members : json.Members} → ReorderedMembers members members
    neighbours : {name other : List ℕ} {value another : json.Json} {rest : json.Members} → (name ≡ other → ⊥)
        → ReorderedMembers (json.member name value (json.member other another rest)) (json.member other another (json.member name value rest))
    within : {name : List ℕ} {value other : json.Json} {rest others : json.Members} → Reordered value other
        → ReorderedMembers rest others → ReorderedMembers (json.member name value rest) (json.member name other others)
    further : {members others : json.Members} (between : json.Members) → ReorderedMembers members between
        → ReorderedMembers between others → ReorderedMembers members others

-- bytes are a text of at most the greatest length that spells a value
pub record Spells (bytes : List ℕ) (value : json.Json) : Type 0 where
  pub utf8 : is_utf8 bytes ≡ true
  pub within : length bytes ≤ byte_limit
  pub is : spelled bytes ≡ Some value

-- ---- members as they are read

-- names of members ascend in the order of their bytes
abbrev pub AllAbove : List ℕ → Members → Type 0
AllAbove name no_members = Unit {0}
AllAbove name (member other part rest) = (slice_cmp nat_cmp name other ≡ Less) × AllAbove name rest

-- the names of an object's members ascend in the order of their bytes
abbrev pub Ascending : Members → Type 0
Ascending no_members = Unit {0}
Ascending (member name part rest) = AllAbove name rest × Ascending rest
