use Rattle.std.proofs.Common.{◌≡◌, ◌∙◌, ◌^◌, false, subst, arith, rules}
use Rattle.nm_world.specs.Runs.{Journals, seconds_in}
use Rattle.nm_world.specs.World.{WorldState, world_step, event_step}
use Rattle.nm_world.proofs.Clocks.{time_more}
use Rattle.nm_world.proofs.Passing.{did_as, is_round, ok_then, on_ok, other_step}
use Rattle.nm_world.proofs.Rereading.{rounds_lead}
use Rattle.nm_world.proofs.world.World.step.Goals as goal

pub returns-in-Round-clause-time : goal.returns-in-Round-clause-time
returns-in-Round-clause-time g c =
    on_ok c.rounds.result (time_more 0 (2 ^ 32) c.args.self.now.state.devices c.rounds.new.self.state.devices (omega arith) c.rounds.ensures.time)

pub returns-in_ok-apply-in_default : goal.returns-in_ok-apply-in_default
returns-in_ok-apply-in_default g c =
    let now = c.args.self.now in
    let m = g.C.Content.meaning now.content in
    let event = c.args.event.now in
    let e = c.in_ok-apply-in_default.ensures in
    let alone : is_round event ≡ false = search rules in
    let same = other_step m now.setting now.state event alone in
    record {
      stepped = did_as (λ w. world_step m now.setting w event) (λ w. event_step m now.setting w event) now c.apply.new.self (g.D.Disk.state c.args.disk.now) (g.D.Disk.state c.apply.new.disk) same e.applied;
      leads = record { does = λ calm. e.came.does calm ∙ same; rereads = e.came.rereads };
      read = λ calm offset is. absurd (search (rules, is));
      sound = λ there none offset is. absurd (search (rules, is));
      disk_fault = λ is. absurd (search (rules, is));
      journals = subst (λ (w : WorldState _ _). Journals now.state w (g.D.Disk.state c.args.disk.now) (g.D.Disk.state c.apply.new.disk)) same e.journals;
      time = time_more (seconds_in event) (2 ^ 32) now.state.devices c.apply.new.self.state.devices (omega (arith, e.short)) e.time;
    }

pub returns-in-Round-clause-leads : goal.returns-in-Round-clause-leads
returns-in-Round-clause-leads g c =
    let now = c.args.self.now in
    ok_then c.rounds.result c.rounds.ensures.exact (λ exact.
    rounds_lead (g.C.Content.meaning now.content) now.setting c.args.event.now now.state c.rounds.new.self.state c.in-Round.change c.in-Round.turns exact c.in-Round.is)
