use Rattle.std.proofs.Common.{◌≡◌, ◌-◌, ◌≤◌, ◌<◌, ◌∙◌, None, length, slice_get, ap, sym, subst, arith}
use Rattle.std.proofs.lemmas.Option.{slice_get_past}
use Rattle.std.proofs.lemmas.List.{length-set}
use Rattle.nm_world.specs.World.{CoreValue, SetupState, AreInTime, later_at}
use Rattle.nm_world.proofs.Clocks.{time_at, time_more, time_stays}
use Rattle.nm_world.proofs.Staging.{comes_moved, in_time_there, none_moved, sound_after, sound_there}
use Rattle.nm_world.proofs.world_core.WorldCore.advance.Goals as goal

pub advance_by-requires-clause-sound : goal.advance_by-requires-clause-sound
advance_by-requires-clause-sound g c =
    let s = c.self.inside in
    let within : c.place_of-place.result < length s.devices.items = omega (arith, c.if-place-len.false, c.len.ensures) in
    let same = c.content.ensures ∙ ap (λ (u : SetupState _ _ _). u.content) c.deref-setup.ensures in
    sound_there g.C.Content.meaning c.content.result.now s.setup.value.content same s.devices.items c.place_of-place.result c.index_mut.result.now within c.index_mut.ensures.value c.self.invariant.0

pub advance_by-requires-clause-in_time : goal.advance_by-requires-clause-in_time
advance_by-requires-clause-in_time g c =
    let s = c.self.inside in
    let within : c.place_of-place.result < length s.devices.items = omega (arith, c.if-place-len.false, c.len.ensures) in
    in_time_there s.devices.items c.place_of-place.result c.index_mut.result.now within c.index_mut.ensures.value
    (subst (λ (w : CoreValue _ _ _ _). AreInTime w.state.devices) (sym c.self.view_is) c.requires.in_time)

pub invariant_of-self : goal.invariant_of-self
invariant_of-self g c =
    let s = c.self.inside in
    let same = c.content.ensures ∙ ap (λ (u : SetupState _ _ _). u.content) c.deref-setup.ensures in (
      sound_after g.C.Content.meaning c.content.result.now s.setup.value.content same s.devices.items c.place_of-place.result c.advance_by.new.device c.self.invariant.0 c.advance_by.ensures.sound,
      subst (λ n. n ≤ 32) (sym (length-set s.devices.items c.place_of-place.result c.advance_by.new.device)) c.self.invariant.1,
    )

pub returns-clause-came : goal.returns-clause-came
returns-clause-came g c =
    let s = c.self.inside in
    let within : c.place_of-place.result < length s.devices.items = omega (arith, c.if-place-len.false, c.len.ensures) in
    let same = c.content.ensures ∙ ap (λ (u : SetupState _ _ _). u.content) c.deref-setup.ensures in
    rw (← c.self.view_is) (comes_moved s.setup.value s.has_diverged c.advance_by.result s.devices.items c.place_of-place.result c.args.device c.index_mut.result.now c.advance_by.new.device s.manager s.operators.items
    (later_at (g.C.Content.meaning c.content.result.now) c.args.seconds) (later_at (g.C.Content.meaning s.setup.value.content) c.args.seconds) (ap (λ x. later_at (g.C.Content.meaning x) c.args.seconds) same)
    c.place_of-place.ensures within c.index_mut.ensures.value c.advance_by.ensures.advanced c.advance_by.ensures.unchanged)

pub returns-clause-time : goal.returns-clause-time
returns-clause-time g c =
    let s = c.self.inside in
    let within : c.place_of-place.result < length s.devices.items = omega (arith, c.if-place-len.false, c.len.ensures) in
    rw (← c.self.view_is) (time_at c.args.seconds s.devices.items c.place_of-place.result c.index_mut.result.now c.advance_by.new.device within c.index_mut.ensures.value c.advance_by.ensures.clock)

pub returns-then-place-len-clause-came : goal.returns-then-place-len-clause-came
returns-then-place-len-clause-came g c =
    let s = c.self.inside in
    let past : slice_get s.devices.items (c.args.device - 1) ≡ None =
    slice_get_past s.devices.items (c.args.device - 1) (omega (arith, c.if-place-len.true, c.len.ensures, c.place_of-place.ensures)) in
    rw (← c.self.view_is) (none_moved s.setup.value s.has_diverged s.manager s.devices.items s.operators.items c.args.device _ (ap (later_at (g.C.Content.meaning s.setup.value.content) c.args.seconds) past))

pub returns-then-place-len-clause-time : goal.returns-then-place-len-clause-time
returns-then-place-len-clause-time g c = rw (← c.self.view_is) (time_more 0 c.args.seconds c.self.inside.devices.items c.self.inside.devices.items (omega arith) (time_stays c.self.inside.devices.items))
