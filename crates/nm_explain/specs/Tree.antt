-- The schema tree of the modules in a scenario, and what it wants at a path (this project's own).
use Rattle.std.specs.Prelude.{ℕ, List, [], Bool, Option, Some, None, Result, Ok, Err}
use Rattle.std.specs.Result.{result_ok}
use Rattle.serde_json.specs.Data.{Data}
use Rattle.nm_schema_tree.specs.Nodes.{SchemaTree}
use Rattle.nm_schema.specs.Built.{built_of}
use Rattle.nm_scenario_form.specs.declared.fault.Fault.{Fault}
use Rattle.nm_scenario_form.specs.Read.{read}
use Rattle.nm_scenario.specs.declared.head.Head.{Head}
use Rattle.nm_scenario.specs.declared.head.Head.TheVariants.{Flat, Yang}
use Rattle.nm_scenario.specs.Head.{head_form, statements_of}
use Rattle.nm_explain.specs.Values.{wanted_text}

-- the tree that the modules of a head give, where it has modules and they give one
abbrev pub tree_of : Head → Option SchemaTree
tree_of Flat = None
tree_of (Yang modules) = result_ok (built_of (statements_of modules))

-- the tree of a scenario whose head could be read
abbrev pub tree_after : Result Head Fault → Option SchemaTree
tree_after (Ok head) = tree_of head
tree_after (Err fault) = None

-- the tree of the modules in a scenario's JSON value, where its head can be read and they give one
abbrev pub tree_in : Data → Option SchemaTree
tree_in whole = tree_after (read head_form whole)

-- a line with what a tree wants at a path, where there is a tree
abbrev pub wanted_by : Bool → List ℕ → Option SchemaTree → List ℕ
wanted_by form path None = []
wanted_by form path (Some tree) = wanted_text form tree path
