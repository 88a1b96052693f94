-- What a rule matches (RFC 8341 sections 3.4.4 and 3.4.5).
use Rattle.std.specs.Prelude.{ℕ, ◌-◌, List, length, slice_get, Bool, false, true, ◌&&◌, Option, Some, None}
use Rattle.std.specs.Str.{bytes_eq}
use Rattle.nm_types.specs.Path.{PathStep}
use Rattle.nm_proto.specs.declared.message.RowAccess.{RowAccess}
use Rattle.nm_proto.specs.declared.message.RowAccess.TheVariants.{Create, Update, Delete}
use Rattle.nm_access.specs.declared.rule.Accesses.{Accesses}
use Rattle.nm_access.specs.declared.rule.Target.{Target}
use Rattle.nm_access.specs.declared.rule.Target.TheVariants as target
use Rattle.nm_access.specs.declared.rule.Rule.{Rule}
use Rattle.nm_access.specs.Covers.{covers}

-- a rule is about an access to a row
abbrev pub has_access : Accesses → RowAccess → Bool
has_access accesses Create = accesses.create
has_access accesses Update = accesses.update
has_access accesses Delete = accesses.delete

-- a step, if there is one, is of this module
abbrev pub is_step_of : List ℕ → Option PathStep → Bool
is_step_of owner None = false
is_step_of owner (Some step) = bytes_eq owner step.module

-- a row is one of this module's: that of its own node, the last step's (RFC 8341 section 3.4.5)
abbrev pub is_of_module : List ℕ → List PathStep → Bool
is_of_module owner row = is_step_of owner (slice_get row (length row - 1))

-- what is about the operation of a name: a module is about none (this project's own)
abbrev pub is_about : Target → List ℕ → Bool
is_about target.Everything name = true
is_about (target.Module owner) name = false
is_about target.AnyOperation name = true
is_about (target.Operation other) name = bytes_eq other name
is_about (target.Path path) name = false

-- what is over a row
abbrev pub is_over : Target → List PathStep → Bool
is_over target.Everything row = true
is_over (target.Module owner) row = is_of_module owner row
is_over target.AnyOperation row = false
is_over (target.Operation other) row = false
is_over (target.Path path) row = covers path row

-- a rule matches an operation
abbrev pub matches_operation : List ℕ → Rule → Bool
matches_operation name rule = rule.accesses.exec && is_about rule.target name

-- a rule matches a row to which this is done
abbrev pub matches_row : List PathStep × RowAccess → Rule → Bool
matches_row row rule = has_access rule.accesses row.1 && is_over rule.target row.0
