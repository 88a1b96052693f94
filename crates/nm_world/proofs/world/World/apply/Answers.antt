use Rattle.std.proofs.Common.{◌≡◌, ◌⊎◌, [], ◌∷◌, ◌++◌, IfSome, refl, ap, sym, subst, ◌∙◌, arith, rules}
use Rattle.nm_journal.specs.Fits.{Fits, IsDamagedAt}
use Rattle.nm_manager.specs.Manager.{IsStrangeAt}
use Rattle.nm_world.specs.Runs.{ComesBy, Does, Journals, KeepsTime, seconds_in}
use Rattle.nm_world.specs.World.{AreInTime, WorldValue, journal_of, sending_of, world_step}
use Rattle.nm_world.proofs.Clocks.{time_more, time_stays}
use Rattle.nm_world.proofs.Growing.{step_grows}
use Rattle.nm_world.proofs.Passing.{come_did, come_left, none_left, whole_of}
use Rattle.nm_world.proofs.Rereading.{applied_comes, undamaged}
use Rattle.nm_world.proofs.world.World.apply.Goals as goal

pub come-requires-clause-in_time : goal.come-requires-clause-in_time
come-requires-clause-in_time g c = subst (λ (w : WorldValue _ _ _ _). AreInTime w.state.devices) (sym c.self.view_is) c.requires.ready.in_time

pub come-requires-clause-going : goal.come-requires-clause-going
come-requires-clause-going g c = ap (λ (w : WorldValue _ _ _ _). w.has_failed) c.self.view_is ∙ c.requires.ready.going

pub come-requires-clause-whole : goal.come-requires-clause-whole
come-requires-clause-whole g c = ap (λ (w : WorldValue _ _ _ _). w.failed) c.self.view_is ∙ c.requires.ready.whole

pub come-requires-clause-fits : goal.come-requires-clause-fits
come-requires-clause-fits g c = subst (λ (w : WorldValue _ _ _ _). Fits (journal_of w) (g.D.Disk.state c.args.disk.now)) (sym c.self.view_is) c.requires.ready.fits

pub returns-in_default-clause-journals : goal.returns-in_default-clause-journals
returns-in_default-clause-journals g c =
    let now = c.args.self.now in
    let after = world_step (g.C.Content.meaning now.content) now.setting now.state c.args.event.now in
    none_left now after (g.D.Disk.state c.args.disk.now) c.requires.ready (g.met.D.Disk.only_now c.args.disk.now)
    (step_grows (g.C.Content.meaning now.content) now.setting now.state c.args.event.now)

pub returns-in_default-clause-time : goal.returns-in_default-clause-time
returns-in_default-clause-time g c =
    let now = c.args.self.now in
    subst (λ (w : WorldValue _ _ _ _). KeepsTime (seconds_in c.args.event.now) now.state.devices w.state.devices) (sym c.self.view_is)
    (time_more 0 (seconds_in c.args.event.now) now.state.devices now.state.devices (omega arith) (time_stays now.state.devices))

pub returns-in_default-copy-clause-journals : goal.returns-in_default-copy-clause-journals
returns-in_default-copy-clause-journals g c =
    let now = c.args.self.now in
    let after = world_step (g.C.Content.meaning now.content) now.setting now.state c.args.event.now in
    none_left now after (g.D.Disk.state c.args.disk.now) c.requires.ready (g.met.D.Disk.only_now c.args.disk.now)
    (step_grows (g.C.Content.meaning now.content) now.setting now.state c.args.event.now)

pub returns-in_default-copy-clause-time : goal.returns-in_default-copy-clause-time
returns-in_default-copy-clause-time g c =
    let now = c.args.self.now in
    subst (λ (w : WorldValue _ _ _ _). KeepsTime (seconds_in c.args.event.now) now.state.devices w.state.devices) (sym c.self.view_is)
    (time_more 0 (seconds_in c.args.event.now) now.state.devices now.state.devices (omega arith) (time_stays now.state.devices))

pub returns-in_err-happened-clause-journals : goal.returns-in_err-happened-clause-journals
returns-in_err-happened-clause-journals g c =
    let core = c.self.inside.core in
    subst (λ (w : WorldValue _ _ _ _). Journals w.state (world_step (g.C.Content.meaning w.content) w.setting w.state c.args.event.now) (g.D.Disk.state c.args.disk.now) (g.D.Disk.state c.come.new.disk)) c.self.view_is
    (come_left (g.C.Content.meaning core.content) core c.self.inside.trail.items c.args.event.now (g.D.Disk.state c.args.disk.now) (g.D.Disk.state c.come.new.disk)
    c.in_err-happened.ensures.keeps c.in_err-happened.ensures.any_moment)

pub returns-clause-journals : goal.returns-clause-journals
returns-clause-journals g c =
    let core = c.self.inside.core in
    subst (λ (w : WorldValue _ _ _ _). Journals w.state (world_step (g.C.Content.meaning w.content) w.setting w.state c.args.event.now) (g.D.Disk.state c.args.disk.now) (g.D.Disk.state c.come.new.disk)) c.self.view_is
    (come_left (g.C.Content.meaning core.content) core c.self.inside.trail.items c.args.event.now (g.D.Disk.state c.args.disk.now) (g.D.Disk.state c.come.new.disk)
    c.in_ok-happened.ensures.keeps c.in_ok-happened.ensures.any_moment)

pub returns-clause-sent : goal.returns-clause-sent
returns-clause-sent g c = rw (← c.self.view_is) (c.sending-sending.ensures ∙ ap sending_of c.in_ok-happened.ensures.happened)

pub returns-clause-applied : goal.returns-clause-applied
returns-clause-applied g c =
    let core = c.self.inside.core in
    let e = c.in_ok-happened.ensures in
    let trail = c.self.inside.trail.items in
    let later = c.push_reserved.new.self.items in
    let event = c.args.event.now in
    let tells : later ≡ trail ++ record { event = c.in-Ok-copy.noted; happened = c.in_ok-happened.happened } ∷ [] = search rules in
    subst (λ (w : WorldValue _ _ _ _). Does (λ s. world_step (g.C.Content.meaning w.content) w.setting s event) w (whole_of c.come.new.self later) (g.D.Disk.state c.args.disk.now) (g.D.Disk.state c.come.new.disk)) c.self.view_is
    (come_did (g.C.Content.meaning core.content) core c.come.new.self trail later event c.in-Ok-copy.noted c.in_ok-happened.happened (g.D.Disk.state c.args.disk.now) (g.D.Disk.state c.come.new.disk)
    e.happened c.in-Ok-copy.ensures tells e.came e.others e.once e.straight e.operators e.fits e.keeps e.any_moment)

pub returns-clause-came : goal.returns-clause-came
returns-clause-came g c =
    let core = c.self.inside.core in
    let e = c.in_ok-happened.ensures in
    let trail = c.self.inside.trail.items in
    let later = c.push_reserved.new.self.items in
    let event = c.args.event.now in
    let tells : later ≡ trail ++ record { event = c.in-Ok-copy.noted; happened = c.in_ok-happened.happened } ∷ [] = search rules in
    subst (λ (w : WorldValue _ _ _ _). ComesBy (λ s. world_step (g.C.Content.meaning w.content) w.setting s event) w.setting.plans event w.state (whole_of c.come.new.self later).state) c.self.view_is
    (applied_comes (g.C.Content.meaning core.content) core c.come.new.self trail later event c.in-Ok-copy.noted c.in_ok-happened.happened e.happened c.in-Ok-copy.ensures tells e.exact e.reread)

pub returns-in_err-happened-clause-sound : goal.returns-in_err-happened-clause-sound
returns-in_err-happened-clause-sound g c = λ there none offset is.
    let disk = g.D.Disk.state c.args.disk.now in
    let damaged = c.in_err-happened.ensures.damaged offset (search (rules, is)) in
    undamaged (journal_of c.args.self.now) disk c.args.self.now.setting.plans disk.contents offset refl c.requires.ready.whole c.requires.ready.fits (g.met.D.Disk.as_read c.args.disk.now) none there
    (subst (λ (w : WorldValue _ _ _ _). IfSome disk.contents (IsDamagedAt offset) ⊎ IsStrangeAt w.setting.plans disk.contents offset) c.self.view_is damaged)
