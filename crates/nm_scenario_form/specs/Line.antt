-- The line that tells a fault of a scenario (this project's own).
use Rattle.std.specs.Prelude.{ℕ, List, ◌++◌, codes}
use Rattle.nm_proto.specs.Kind.{kind_word}
use Rattle.nm_scenario_form.specs.declared.fault.Fault.{Fault}
use Rattle.nm_scenario_form.specs.Pointer.{pointer_of}

-- its kind, and its place as a JSON pointer (RFC 6901)
abbrev pub line_of : Fault → List ℕ
line_of fault = codes "scenario " ++ kind_word fault.cause.kind ++ codes " " ++ pointer_of fault.place ++ codes "\n"
