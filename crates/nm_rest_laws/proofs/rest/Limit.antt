-- The drain of the program never meets its limit.
use Rattle.std.proofs.Common.{◌≡◌, ◌∙◌, ℕ, ◌+◌, ◌-◌, ◌≤◌, ◌<◌, List, length, None, sym, subst, arith}
use Rattle.nm_proto.specs.declared.plan.Event.{Event}
use Rattle.nm_proto.specs.Content.{Meaning, Laws}
use Rattle.nm_world.specs.World.{Setting, WorldState}
use Rattle.nm_world.specs.Drain.{drain_event, drained, drain_limit}
use Rattle.nm_safety.specs.Safe.{IsProper}
use Rattle.nm_rest_laws.specs.Rest.{HasDevices, RestsWithin, EndsBefore, events_count}
use Rattle.nm_rest_laws.proofs.rest.Coming.{drained_more}
use Rattle.nm_rest_laws.proofs.rest.Rested.{stays, ran, run_rests}
use Rattle.nm_rest_laws.proofs.rest.Within.{trail_few, left_few}

limit_large : 696544 < drain_limit
unfolding drain_limit
limit_large = omega arith

module _ {Config TheEdit Node : Type 0} (m : Meaning Config TheEdit Node) (setting : Setting TheEdit) where
  -- who rests within fewer steps than a limit never meets it
  ends_before : (w : WorldState Config Node) (most limit : ℕ) → RestsWithin m setting w most → most < limit → EndsBefore m setting w limit
  ends_before w most limit r less =
      let steps = r.steps in
      let few = r.few in
      let split : limit ≡ steps + (limit - steps) = omega (arith, few, less) in
      record {
        steps = steps;
        before = omega (arith, few, less);
        at_rest = r.at_rest;
        left_at_rest = subst (λ v. drain_event setting v ≡ None) (sym (drained_more m setting steps (limit - steps) limit w split ∙ stays m setting (drained m setting steps w) r.at_rest (limit - steps))) r.at_rest;
      }

module _ {Config TheEdit Node : Type 0} (m : Meaning Config TheEdit Node) (laws : Laws m) (setting : Setting TheEdit) (running : List Config) (events : List Event) (proper : IsProper {Node = Node} m setting running events)
    (devices : HasDevices setting (length running)) (few_events : events_count events ≤ 100000) where
  pub run_ends : EndsBefore m setting (ran m laws setting running events proper devices) drain_limit
  run_ends =
      let w : WorldState Config Node = ran m laws setting running events proper devices in
      let long = trail_few {Node = Node} m setting running events in
      let left = left_few {Node = Node} m setting running events proper.given in
      let plans = proper.few in
      let limit = limit_large in
      ends_before m setting w _ drain_limit (run_rests m laws setting running events proper devices (omega (arith, long, left, plans, few_events))) (omega (arith, long, left, plans, few_events, limit))
