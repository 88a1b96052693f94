-- What is told of confirmed commits in whatever world events lead to.
use Rattle.std.proofs.Common.{Bool, true, false, List, sym, subst}
use Rattle.std.specs.List.{All}
use Rattle.nm_proto.specs.Content.{Laws, Meaning}
use Rattle.nm_proto.specs.declared.plan.Event.{Event}
use Rattle.nm_world.specs.Drain.{drain_limit}
use Rattle.nm_world.specs.World.{IsFirst, Setting, WorldState, start}
use Rattle.nm_notice_laws.specs.Replays.{TellAsReplayed}
use Rattle.nm_notice_laws.proofs.Histories.{reached_tells}
use Rattle.nm_console.specs.Console.{IsLedTo}
use Rattle.nm_console.proofs.Given.{got}

module _ {Config TheEdit Node : Type 0} (m : Meaning Config TheEdit Node) (laws : Laws m) (setting : Setting TheEdit) (running : List Config) (first : All (IsFirst m) running) (events : List Event) where
  pub led_tells : (drain : Bool) (last : WorldState Config Node) → IsLedTo m setting events drain (start setting running) last → TellAsReplayed m setting running last
  led_tells false last led =
      subst (TellAsReplayed m setting running) (sym led.rests)
      (reached_tells m laws setting running (λ place. got (IsFirst m) running place first) events 0 led.ran led.reaches)
  led_tells true last led =
      subst (TellAsReplayed m setting running) (sym led.rests)
      (reached_tells m laws setting running (λ place. got (IsFirst m) running place first) events drain_limit led.ran led.reaches)
