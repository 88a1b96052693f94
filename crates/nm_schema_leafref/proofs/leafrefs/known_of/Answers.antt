use Rattle.std.proofs.Common.{◌∙◌, sym, ap, subst, length, List, Option, Bool}
use Rattle.nm_graph.specs.Graph.{Graph}
use Rattle.nm_graph.specs.Value.{strict, Holds}
use Rattle.nm_schema_uses.specs.Config.{Marks}
use Rattle.nm_schema_leafref.specs.declared.led.Led.{Led}
use Rattle.nm_schema_leafref.specs.Known.{LeadsBack}
use Rattle.nm_schema_leafref.specs.Target.{IsCircular, type_step}
use Rattle.nm_schema_leafref.proofs.Targets.{AreLeds, are_within, draws-targets, circular-marks}
use Rattle.nm_schema_leafref.proofs.Typings.{types-are}
use Rattle.nm_schema_leafref.proofs.leafrefs.known_of.Goals as goal

pub graph_of-requires : goal.graph_of-requires
graph_of-requires c =
    let are : AreLeds c.args.scene.now.typedefs c.args.scene.now.tree c.deref.result.now = subst (λ (l : List (Option Led)). AreLeds c.args.scene.now.typedefs c.args.scene.now.tree l) (sym c.deref.ensures.value) c.in_ok-leds.ensures.exact in
    are_within c.args.scene.now.typedefs c.args.scene.now.tree c.deref.result.now are (ap (λ (l : List (Option Led)). length l) c.deref.ensures.value ∙ c.in_ok-leds.ensures.size)

pub faults-requires-clause-circular : goal.faults-requires-clause-circular
faults-requires-clause-circular c =
    let are : AreLeds c.args.scene.now.typedefs c.args.scene.now.tree c.deref.result.now = subst (λ (l : List (Option Led)). AreLeds c.args.scene.now.typedefs c.args.scene.now.tree l) (sym c.deref.ensures.value) c.in_ok-leds.ensures.exact in
    let draws = draws-targets c.args.scene.now.typedefs c.args.scene.now.tree c.deref.result.now c.in_ok-graph.graph.items are (ap (λ (l : List (Option Led)). length l) c.deref.ensures.value ∙ c.in_ok-leds.ensures.size) c.in_ok-graph.ensures.draws in
    let marks : Marks (LeadsBack c.in_ok-graph.graph.items) c.in_ok-circular.circular.items = subst (λ (g : Graph). Marks (LeadsBack g) c.in_ok-circular.circular.items) c.deref-3.ensures.value c.in_ok-circular.ensures.marks in
    subst (λ (m : List Bool). Marks (IsCircular c.args.scene.now.typedefs c.args.scene.now.tree) m) (sym c.deref-8.ensures.value) (circular-marks c.args.scene.now.typedefs c.args.scene.now.tree c.in_ok-graph.graph.items c.in_ok-circular.circular.items draws marks)

pub returns-clause-leafrefs : goal.returns-clause-leafrefs
returns-clause-leafrefs c =
    let are : AreLeds c.args.scene.now.typedefs c.args.scene.now.tree c.deref.result.now = subst (λ (l : List (Option Led)). AreLeds c.args.scene.now.typedefs c.args.scene.now.tree l) (sym c.deref.ensures.value) c.in_ok-leds.ensures.exact in
    let draws = draws-targets c.args.scene.now.typedefs c.args.scene.now.tree c.deref.result.now c.in_ok-graph.graph.items are (ap (λ (l : List (Option Led)). length l) c.deref.ensures.value ∙ c.in_ok-leds.ensures.size) c.in_ok-graph.ensures.draws in
    let marks : Marks (LeadsBack c.in_ok-graph.graph.items) c.in_ok-circular.circular.items = subst (λ (g : Graph). Marks (LeadsBack g) c.in_ok-circular.circular.items) c.deref-3.ensures.value c.in_ok-circular.ensures.marks in
    let holds : Holds (strict (type_step c.args.scene.now.typedefs c.args.scene.now.tree)) c.in_ok-graph.graph.items c.in_ok-types.types.items =
    subst (λ (g : Graph). Holds (strict (type_step c.args.scene.now.typedefs c.args.scene.now.tree)) g c.in_ok-types.types.items) c.deref-5.ensures.value c.in_ok-types.ensures in
    record {
      led = c.in_ok-leds.ensures.exact;
      up = c.in_ok-ups.ensures;
      circular = circular-marks c.args.scene.now.typedefs c.args.scene.now.tree c.in_ok-graph.graph.items c.in_ok-circular.circular.items draws marks;
      leaf_type = types-are c.args.scene.now.typedefs c.args.scene.now.tree c.in_ok-graph.graph.items c.in_ok-types.types.items draws holds;
      fault = c.in_ok-faults.ensures.faults;
    }
