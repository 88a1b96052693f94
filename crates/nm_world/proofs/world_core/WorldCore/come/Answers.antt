use Rattle.std.proofs.Common.{◌≡◌, ◌∙◌, sym, ap, subst, true, false, rules}
use Rattle.nm_disk.specs.Keeps.{keeps_itself}
use Rattle.nm_journal.specs.Fits.{Fits, JournalState}
use Rattle.nm_world.specs.World.{core_journal, entry_of, touches_journal}
use Rattle.nm_world.proofs.Aside.{others_stay, diverges_not, operators_stay, journal_stays}
use Rattle.nm_world.proofs.Failing.{nothing_moves}
use Rattle.nm_world.proofs.Rereading.{crash_is, reread_ok}
use Rattle.nm_world.proofs.world_core.WorldCore.come.Goals as goal

pub returns-in-Ok : goal.returns-in-Ok
returns-in-Ok g c =
    let m = g.C.Content.meaning c.args.self.now.content in
    let old = c.args.self.now in
    let new = c.come_alone.new.self in
    let event = c.args.event.now in
    let what = c.in-Ok.happened in
    let came = c.in-Ok.ensures.came in
    let alone : touches_journal event ≡ false = search rules in
    record {
      happened = came.0;
      came = λ undiverged. came.1;
      exact = λ calm. came.1;
      reread = λ crashes. absurd (let f : true ≡ false = sym (ap touches_journal (crash_is event crashes)) ∙ alone in cc);
      others = others_stay m old new event what came;
      once = λ undiverged. sym (diverges_not m old new event what came) ∙ undiverged;
      straight = λ there. diverges_not m old new event what came;
      calm = λ still. diverges_not m old new event what came;
      operators = operators_stay m old new event what came;
      still = tt;
      no_memory = λ is. absurd (search rules);
      disk_fault = λ is. absurd (search rules);
      damaged = λ offset is. absurd (search rules);
      read = λ calm offset is. absurd (search rules);
      fits = subst (λ (journal : JournalState). Fits journal (g.D.Disk.state c.args.disk.now)) (sym (journal_stays m old new event what came alone)) c.requires.fits;
      keeps = keeps_itself (g.D.Disk.state c.args.disk.now);
      any_moment = nothing_moves (core_journal old) (g.D.Disk.state c.args.disk.now)
          (entry_of old.setting old.state event) c.requires.whole c.requires.fits (g.met.D.Disk.only_now c.args.disk.now);
      time = c.in-Ok.ensures.time;
      short = c.in-Ok.ensures.short;
    }

pub returns-in-Crash-clause-reread : goal.returns-in-Crash-clause-reread
returns-in-Crash-clause-reread g c = λ crashes.
    let e = c.crash.ensures in
    reread_ok c.args.self.now c.crash.new.self c.crash.result e.came e.read e.once e.same
