-- What noting findings one after another gives.
use Rattle.std.proofs.Common.{◌≡◌, List, [], ◌∷◌, fold, Bool, true, false, if◌then◌else◌, Option, is_some, refl, ap, ◌∙◌}
use Rattle.std.specs.FinMap.{insert, get}
use Rattle.serde_json.specs.Data.{Data}
use Rattle.nm_types.specs.Path.{PathStep}
use Rattle.nm_schema_tree.specs.Nodes.{SchemaTree}
use Rattle.nm_edit_json.specs.declared.fault.FaultKind.TheVariants.{Invalid}
use Rattle.nm_edit_json.specs.declared.fault.Fault.{Fault}
use Rattle.nm_edit_json.specs.declared.gathered.Gathered.{Gathered}
use Rattle.nm_edit_json.specs.Findings.{Finding, named, wrong, fault_at, whole_found}
use Rattle.nm_edit_json.specs.Whole.{NodeMap, lesser, told_of, nodes_of, if_repeated, faults_found, answered, edit_read}
use Rattle.nm_edit_json.specs.Noted.{noted, nothing, gathered}

put_by : (b : Bool) (least : Option Fault) (path : List PathStep) (fs : List Fault)
    → fold lesser (if b then lesser least (fault_at path Invalid) else least) fs ≡ fold lesser least (if_repeated b path fs)
put_by true least path fs = refl
put_by false least path fs = refl

abbrev Both : NodeMap → Option Fault → Gathered
Both m least = record { nodes = m; least = least }

-- findings that are noted one after another: their nodes, and the least of their faults
gathered_is : (g : Gathered) (fs : List Finding) → gathered g fs ≡ Both (nodes_of g.nodes fs) (fold lesser g.least (faults_found g.nodes fs))
unfolding gathered
gathered_is g [] = refl
gathered_is g (named n ∷ fs) =
    let m = insert g.nodes n.path (told_of n) in
    gathered_is (noted g (named n)) fs ∙ ap (Both (nodes_of m fs)) (put_by (is_some (get g.nodes n.path)) g.least n.path (faults_found m fs))
gathered_is g (wrong fault ∷ fs) = gathered_is (noted g (wrong fault)) fs

-- the answer of what was noted is that of the value
pub whole_is : (t : SchemaTree) (d : Data) (g : Gathered) → g ≡ gathered nothing (whole_found t d) → answered t g.least g.nodes ≡ edit_read t d
whole_is t d g e = ap (λ (x : Gathered). answered t x.least x.nodes) (e ∙ gathered_is nothing (whole_found t d))
