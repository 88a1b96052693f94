-- Places of faults and their order (this project's own).
use Rattle.std.specs.Prelude.{ℕ, List, [], ◌∷◌, ◌++◌, Option, Some, None, if◌then◌else◌}
use Rattle.std.specs.Ordering.{on, then_cmp, nat_cmp, is_lt}
use Rattle.std.specs.Cmp.Lexicographic.{slice_cmp}
use Rattle.std.specs.declared.cmp.Ordering.{Ordering}
use Rattle.nm_types.specs.Path.{PathStep, whole, step_cmp}
use Rattle.nm_schema_tree.specs.Nodes.{SchemaTree}
use Rattle.nm_path.specs.Written.{path_text}
use Rattle.nm_json.specs.declared.fault.JsonKind.{JsonKind}
use Rattle.nm_json.specs.declared.fault.JsonKind.TheVariants.{Unknown, BadForm, BadValue, MissingKey, Repeated}
use Rattle.nm_json.specs.declared.fault.Place.{Place}
use Rattle.nm_json.specs.declared.fault.Fault.{Fault}

-- a step with its name as it is printed at the top, with the module's name (RFC 7951 section 4)
abbrev pub printed_at_top : PathStep → PathStep
printed_at_top s = record { «module» = s.module; name = s.module ++ 58 ∷ s.name; chosen = s.chosen }

-- the steps of a path, with names as they are printed
abbrev pub printed : List PathStep → List PathStep
printed [] = []
printed (s ∷ ss) = printed_at_top s ∷ ss

-- a name as a step without a module and a choice
abbrev pub name_steps : Option (List ℕ) → List PathStep
name_steps None = []
name_steps (Some name) = record { «module» = []; name = name; chosen = whole } ∷ []

-- the steps of a place as they are printed: those of its path, and the name below it
abbrev pub place_steps : Place → List PathStep
place_steps p = printed p.path ++ name_steps p.below

-- kinds of faults in their order at one place
abbrev pub kind_rank : JsonKind → ℕ
kind_rank Unknown = 0
kind_rank BadForm = 1
kind_rank BadValue = 2
kind_rank MissingKey = 3
kind_rank Repeated = 4

-- faults are ordered by their places, as paths are, and at one place by their kinds
unfoldable pub fault_cmp : Fault → Fault → Ordering
fault_cmp = then_cmp (on (λ f. place_steps f.place) (slice_cmp step_cmp)) (on (λ f. kind_rank f.kind) nat_cmp)

-- the lesser of two faults, if there was one before
abbrev pub lesser : Option Fault → Fault → Option Fault
lesser None f = Some f
lesser (Some least) f = if is_lt (fault_cmp f least) then Some f else Some least

-- a slash and the name
abbrev pub below_text : Option (List ℕ) → List ℕ
below_text None = []
below_text (Some name) = 47 ∷ name

-- the text of a place: that of its path, and the name below it
abbrev pub place_text : SchemaTree → Place → List ℕ
place_text t p = path_text t p.path ++ below_text p.below
