-- Parts of what rules read.
use Rattle.std.specs.Prelude.{ℕ, List, Bool, ◌&&◌, ◌||◌, length, slice_get}
use Rattle.std.specs.List.{list_any, range_with_len}
use Rattle.nm_types.specs.Path.{PathStep}
use Rattle.nm_schema_tree.specs.declared.choice.ChoiceNode.{ChoiceNode}
use Rattle.nm_schema_tree.specs.Nodes.{SchemaTree}
use Rattle.nm_path.specs.Spelling.{node_of}
use Rattle.nm_config.specs.Under.{is_whole}
use Rattle.nm_validate_rules.specs.Values.{is_same_path}
use Rattle.nm_validate_rules.specs.Violated.{last_chosen, is_mandatory_node}
use Rattle.nm_validate_rules.specs.Reads.{stands_reads, holds_reads, allowed_reads, choice_reads, missing_reads}

-- what the rule of mandatory leafs reads
abbrev pub mandatory_reads : SchemaTree → List PathStep → List PathStep → Bool
mandatory_reads t path row = is_mandatory_node t (node_of t path) && is_whole (last_chosen path) && (is_same_path path row || stands_reads t path row)

-- what is read to tell whether a choice is missing at its place
abbrev pub wanted_reads : SchemaTree → List PathStep → ℕ → ChoiceNode → List PathStep → Bool
wanted_reads t above at k row = holds_reads t above row || allowed_reads t above k.case_in row || choice_reads t above at row

-- what the rule of mandatory choices reads
abbrev pub choices_read : SchemaTree → List PathStep → List PathStep → Bool
choices_read t path row = list_any (λ k. missing_reads t path k (slice_get t.choices k) row) (range_with_len 0 (length t.choices))
