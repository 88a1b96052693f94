use Rattle.std.proofs.Common.{◌++◌, ◌∷◌, [], List, map, sym, ap, subst, ◌∙◌, append_assoc}
use Rattle.std.specs.List.{All}
use Rattle.std.proofs.lemmas.List.Elements.{All-tail}
use Rattle.nm_config.specs.Rows.{Rows}
use Rattle.nm_overlay.specs.Differences.{Overlaid}
use Rattle.nm_content.specs.Meaning.{lifted}
use Rattle.nm_scenario_laws.specs.Kept.{DataKeeps}
use Rattle.nm_console.proofs.replay.lift_all.Goals as goal

pub loop-device-preserved : goal.loop-device-preserved
loop-device-preserved c =
    let tree = c.args.content.now in
    let begun = c.loop-device.begun in
    let device = c.in-Some.device in
    let rest = c.take_first.new.self in
    let taken = c.in-Some.ensures.taken in
    record {
      whole = ap (λ (all : List Overlaid). all ++ map lifted rest) (c.in_ok-push.ensures.ok ∙ ap (λ (o : Overlaid). begun ++ o ∷ []) c.in_ok-lift.ensures.value)
          ∙ append_assoc begun (lifted device ∷ []) (map lifted rest)
          ∙ ap (λ (left : List Rows). begun ++ map lifted left) (sym taken)
          ∙ c.loop-device.invariant.whole;
      left = All-tail (DataKeeps tree) device rest (subst (All (DataKeeps tree)) taken c.loop-device.invariant.left);
    }
