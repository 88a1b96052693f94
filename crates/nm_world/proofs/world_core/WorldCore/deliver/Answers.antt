use Rattle.std.proofs.Common.{◌≡◌, ◌-◌, ◌≤◌, ◌<◌, ◌∙◌, None, length, slice_get, ap, sym, subst, arith}
use Rattle.std.proofs.lemmas.Option.{slice_get_past}
use Rattle.std.proofs.lemmas.List.{length-set}
use Rattle.nm_world.specs.World.{CoreValue, SetupState, AreInTime, delivering_at}
use Rattle.nm_world.proofs.Clocks.{time_kept, time_stays}
use Rattle.nm_world.proofs.Staging.{comes_met, edits_there, in_time_there, none_met, sound_after, sound_there}
use Rattle.nm_world.proofs.world_core.WorldCore.deliver.Goals as goal

pub deliver_to-requires-clause-given : goal.deliver_to-requires-clause-given
deliver_to-requires-clause-given g c = subst (λ (w : CoreValue _ _ _ _). c.args.change ≤ length w.setting.plans) (sym c.self.view_is) c.requires.given

pub deliver_to-requires-clause-sound : goal.deliver_to-requires-clause-sound
deliver_to-requires-clause-sound g c =
    let s = c.self.inside in
    let within : c.place_of-place.result < length s.devices.items = omega (arith, c.if-place-len.false, c.len.ensures) in
    let same = c.content.ensures ∙ ap (λ (u : SetupState _ _ _). u.content) c.deref-setup.ensures in
    sound_there g.C.Content.meaning c.content.result.now s.setup.value.content same s.devices.items c.place_of-place.result c.index_mut.result.now within c.index_mut.ensures.value c.self.invariant.0

pub deliver_to-requires-clause-in_time : goal.deliver_to-requires-clause-in_time
deliver_to-requires-clause-in_time g c =
    let s = c.self.inside in
    let within : c.place_of-place.result < length s.devices.items = omega (arith, c.if-place-len.false, c.len.ensures) in
    in_time_there s.devices.items c.place_of-place.result c.index_mut.result.now within c.index_mut.ensures.value
    (subst (λ (w : CoreValue _ _ _ _). AreInTime w.state.devices) (sym c.self.view_is) c.requires.in_time)

pub deliver_to-requires-clause-edits_belong : goal.deliver_to-requires-clause-edits_belong
deliver_to-requires-clause-edits_belong g c =
    edits_there g.C.Content.meaning c.content.result.now c.deref-setup.result.now.content c.content.ensures c.tables.result.now c.deref-setup.result.now.setting.tables c.tables.ensures.value c.tables.ensures.belong

pub invariant_of-self : goal.invariant_of-self
invariant_of-self g c =
    let s = c.self.inside in
    let same = c.content.ensures ∙ ap (λ (u : SetupState _ _ _). u.content) c.deref-setup.ensures in (
      sound_after g.C.Content.meaning c.content.result.now s.setup.value.content same s.devices.items c.place_of-place.result c.deliver_to.new.device c.self.invariant.0 c.deliver_to.ensures.sound,
      subst (λ n. n ≤ 32) (sym (length-set s.devices.items c.place_of-place.result c.deliver_to.new.device)) c.self.invariant.1,
    )

pub returns-clause-came : goal.returns-clause-came
returns-clause-came g c =
    let s = c.self.inside in
    let within : c.place_of-place.result < length s.devices.items = omega (arith, c.if-place-len.false, c.len.ensures) in
    let same = c.content.ensures ∙ ap (λ (u : SetupState _ _ _). u.content) c.deref-setup.ensures in
    let tables = c.tables.ensures.value ∙ ap (λ (u : SetupState _ _ _). u.setting.tables) c.deref-setup.ensures in
    let state = s.manager.state in
    let alike = ap (λ x. delivering_at (g.C.Content.meaning x) c.tables.result.now state c.args.change c.args.device c.args.link) same
    ∙ ap (λ t. delivering_at (g.C.Content.meaning s.setup.value.content) t state c.args.change c.args.device c.args.link) tables in
    rw (← c.self.view_is) (comes_met s.setup.value s.has_diverged c.deliver_to.result s.devices.items c.place_of-place.result c.args.device c.index_mut.result.now c.deliver_to.new.device s.manager c.deliver_to.new.manager s.operators.items
    (delivering_at (g.C.Content.meaning c.content.result.now) c.tables.result.now state c.args.change c.args.device c.args.link)
    (delivering_at (g.C.Content.meaning s.setup.value.content) s.setup.value.setting.tables state c.args.change c.args.device c.args.link)
    alike c.place_of-place.ensures within c.index_mut.ensures.value c.deliver_to.ensures.met c.deliver_to.ensures.unchanged c.deliver_to.ensures.manager_unchanged)

pub returns-clause-time : goal.returns-clause-time
returns-clause-time g c =
    let s = c.self.inside in
    let within : c.place_of-place.result < length s.devices.items = omega (arith, c.if-place-len.false, c.len.ensures) in
    rw (← c.self.view_is) (time_kept s.devices.items c.place_of-place.result c.index_mut.result.now c.deliver_to.new.device within c.index_mut.ensures.value c.deliver_to.ensures.clock)

pub returns-then-place-len-clause-came : goal.returns-then-place-len-clause-came
returns-then-place-len-clause-came g c =
    let s = c.self.inside in
    let past : slice_get s.devices.items (c.args.device - 1) ≡ None =
    slice_get_past s.devices.items (c.args.device - 1) (omega (arith, c.if-place-len.true, c.len.ensures, c.place_of-place.ensures)) in
    rw (← c.self.view_is) (none_met s.setup.value s.has_diverged s.manager s.devices.items s.operators.items c.args.device _ (ap (delivering_at (g.C.Content.meaning s.setup.value.content) s.setup.value.setting.tables s.manager.state c.args.change c.args.device c.args.link) past))

pub returns-then-place-len-clause-time : goal.returns-then-place-len-clause-time
returns-then-place-len-clause-time g c = rw (← c.self.view_is) (time_stays c.self.inside.devices.items)
