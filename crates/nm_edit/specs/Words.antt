-- What the operations of an edit do (RFC 6241 section 7.2).
use Rattle.std.specs.Prelude.{Bool, true, false}
use Rattle.nm_proto.specs.declared.message.DefaultOperation.{DefaultOperation}
use Rattle.nm_proto.specs.declared.message.DefaultOperation.TheVariants as unsaid
use Rattle.nm_edit.specs.declared.operation.Operation.{Operation}
use Rattle.nm_edit.specs.declared.operation.Operation.TheVariants as own
use Rattle.nm_edit.specs.declared.operation.Effective.{Effective}
use Rattle.nm_edit.specs.declared.operation.Effective.TheVariants.{Merge, Replace, Create, Delete, Remove, Nothing}

-- what is done to a node of which an edit says an operation
abbrev pub effective : Operation → Effective
effective own.Merge = Merge
effective own.Replace = Replace
effective own.Create = Create
effective own.Delete = Delete
effective own.Remove = Remove

-- what is done where nothing is said: the default operation
abbrev pub of_default : DefaultOperation → Effective
of_default unsaid.Merge = Merge
of_default unsaid.Replace = Replace
of_default unsaid.Nothing = Nothing

-- a node goes with all below it
abbrev pub takes_away : Effective → Bool
takes_away Merge = false
takes_away Replace = false
takes_away Create = false
takes_away Delete = true
takes_away Remove = true
takes_away Nothing = false

-- all rows at and below a node of which the edit says this go
abbrev pub clears : Effective → Bool
clears Merge = false
clears Replace = true
clears Create = false
clears Delete = true
clears Remove = true
clears Nothing = false

-- the row of a node comes
abbrev pub brings : Effective → Bool
brings Merge = true
brings Replace = true
brings Create = true
brings Delete = false
brings Remove = false
brings Nothing = false
