-- Claims of leafrefs that aren't reached, and the first row that has one (RFC 7950 section 9.9).
use Rattle.std.specs.Prelude.{ℕ, List, [], ◌∷◌, ◌++◌, Bool, not, Option}
use Rattle.std.specs.List.{list_any}
use Rattle.nm_types.specs.declared.value.Value.{Value}
use Rattle.nm_types.specs.Path.{PathStep}
use Rattle.nm_schema_tree.specs.Nodes.{SchemaTree, reference_at}
use Rattle.nm_config.specs.Rows.{Rows}
use Rattle.nm_validate_rules.specs.Cases.{bare}
use Rattle.nm_validate_rules.specs.Values.{Claim, claim_of, claims_at, is_reached}
use Rattle.nm_validate_places.specs.declared.areas.NodeRow.{NodeRow}
use Rattle.nm_validate_places.specs.Listed.{first_where}

-- what key leaf k of an entry claims with this value
abbrev pub key_claim : SchemaTree → List PathStep → ℕ → Value → List Claim
key_claim t entry k value = claim_of (entry ++ bare t.nodes k ∷ []) value (reference_at t.nodes k)

-- one of these claims isn't reached
abbrev pub any_lost : SchemaTree → Rows → List Claim → Bool
any_lost t rows claims = list_any (λ claim. not (is_reached t rows claim)) claims

-- a row of a node with this path and this value has a claim that isn't reached
abbrev pub is_lost_at : SchemaTree → Rows → Option ℕ → List PathStep → Value → Bool
is_lost_at t rows node path value = any_lost t rows (claims_at t path value node)

-- the path of the first row that has a claim that isn't reached
abbrev pub first_lost : SchemaTree → Rows → List NodeRow → Option (List PathStep)
first_lost t rows all = first_where (is_lost_at t rows) all
