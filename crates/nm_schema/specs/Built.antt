-- The schema tree of modules.
use Rattle.std.specs.Prelude.{◌≡◌, List, ◌++◌, length, Option, Some, None, Result, Ok, Err}
use Rattle.nm_yang.specs.Tree.{Tree}
use Rattle.nm_schema_statements.specs.declared.row.Row.{Row}
use Rattle.nm_schema_statements.specs.Rows.{rows_of}
use Rattle.nm_schema_tree.specs.Nodes.{SchemaTree}
use Rattle.nm_schema_faults.specs.declared.fault.Fault.{Fault}
use Rattle.nm_schema_faults.specs.declared.fault.Fault.TheVariants as fault
use Rattle.nm_schema_faults.specs.Facts.{Facts, AreFacts}
use Rattle.nm_schema_faults.specs.Fault.{first_fault}
use Rattle.nm_schema.specs.declared.fault.SchemaFault.{SchemaFault}
use Rattle.nm_schema.specs.declared.fault.SchemaFault.TheVariants as schema
use Rattle.nm_schema.specs.FactsOf.{facts_in}
use Rattle.nm_schema.specs.Choices.{module_names, tree_choices, tree_cases}
use Rattle.nm_schema.specs.Node.{known_nodes}
use Rattle.nm_schema.specs.Marker.{marker_nodes}

-- ---- the tree

-- the nodes of the given modules with their choices and cases, and the nodes of the marker module after them
abbrev pub tree_of : List Row → Facts → SchemaTree
tree_of rows facts =
    record {
      modules = module_names rows;
      nodes = known_nodes rows facts ++ marker_nodes (length (known_nodes rows facts));
      choices = tree_choices rows facts;
      cases = tree_cases rows facts;
    }

-- the schema tree of modules without a fault, or the fault
abbrev pub outcome : List Row → Facts → Option Fault → Result SchemaTree Fault
outcome rows facts (Some f) = Err f
outcome rows facts None = Ok (tree_of rows facts)

-- the schema tree of modules, or their first fault
unfoldable pub built : List Row → Facts → Result SchemaTree Fault
built rows facts = outcome rows facts (first_fault rows facts)

-- the rows of modules give this tree or this fault, by what is so in them
pub record AreBuilt (rows : List Row) (given : Result SchemaTree Fault) : Type 0 where
  pub facts : Facts
  pub facts_are : AreFacts rows facts
  pub given_is : given ≡ built rows facts

-- modules give this tree or this fault
abbrev pub Builds : List Tree → Result SchemaTree Fault → Type 0
Builds modules given = AreBuilt (rows_of modules) given

-- what modules give, as a function of them
unfoldable pub built_of : List Tree → Result SchemaTree Fault
built_of modules = built (rows_of modules) (facts_in (rows_of modules))

-- modules give a tree
abbrev pub HaveTree : List Tree → Type 0
HaveTree modules = (t : SchemaTree) × Builds modules (Ok t)

-- ---- answers

-- a fault as an answer
abbrev pub failed : Fault → SchemaFault
failed (fault.Flawed f m place) = schema.Flawed f m place
failed (fault.TooLarge m place) = schema.TooLarge m place

-- an answer that says what is given; want of memory says nothing
abbrev pub Gives : Result SchemaTree SchemaFault → Result SchemaTree Fault → Type 0
Gives (Ok t) given = given ≡ Ok t
Gives (Err (schema.Flawed f m place)) given = given ≡ Err (fault.Flawed f m place)
Gives (Err (schema.TooLarge m place)) given = given ≡ Err (fault.TooLarge m place)
Gives (Err schema.NoMemory) given = Unit {0}

-- what rows of modules give is answered
abbrev pub Answered : List Row → Result SchemaTree SchemaFault → Type 0
Answered rows (Ok t) = AreBuilt rows (Ok t)
Answered rows (Err (schema.Flawed f m place)) = AreBuilt rows (Err (fault.Flawed f m place))
Answered rows (Err (schema.TooLarge m place)) = AreBuilt rows (Err (fault.TooLarge m place))
Answered rows (Err schema.NoMemory) = Unit {0}

-- what modules give is answered
abbrev pub Answers : List Tree → Result SchemaTree SchemaFault → Type 0
Answers modules answer = Answered (rows_of modules) answer

-- an answer refuses modules
abbrev pub IsRefusal : Result SchemaTree SchemaFault → Type 0
IsRefusal (Ok t) = ⊥
IsRefusal (Err (schema.Flawed f m place)) = Unit {0}
IsRefusal (Err (schema.TooLarge m place)) = Unit {0}
IsRefusal (Err schema.NoMemory) = ⊥
