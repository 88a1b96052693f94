use Rattle.std.proofs.Common.{◌≡◌, ◌-◌, ◌≤◌, ◌<◌, ◌∙◌, None, length, slice_get, ap, sym, subst, arith}
use Rattle.std.proofs.lemmas.Option.{slice_get_past}
use Rattle.std.proofs.lemmas.List.{length-set}
use Rattle.nm_world.specs.World.{SetupState, anew_at}
use Rattle.nm_world.proofs.Clocks.{time_kept, time_stays}
use Rattle.nm_world.proofs.Staging.{comes_met, none_met, sound_after, sound_there}
use Rattle.nm_world.proofs.world_core.WorldCore.restart.Goals as goal

pub restart_of-requires : goal.restart_of-requires
restart_of-requires g c =
    let s = c.self.inside in
    let within : c.place_of-place.result < length s.devices.items = omega (arith, c.if-place-len.false, c.len.ensures) in
    let same = c.content.ensures ∙ ap (λ (u : SetupState _ _ _). u.content) c.deref-setup.ensures in
    record { sound = sound_there g.C.Content.meaning c.content.result.now s.setup.value.content same s.devices.items c.place_of-place.result c.index_mut.result.now within c.index_mut.ensures.value c.self.invariant.0 }

pub invariant_of-self : goal.invariant_of-self
invariant_of-self g c =
    let s = c.self.inside in
    let same = c.content.ensures ∙ ap (λ (u : SetupState _ _ _). u.content) c.deref-setup.ensures in (
      sound_after g.C.Content.meaning c.content.result.now s.setup.value.content same s.devices.items c.place_of-place.result c.restart_of.new.device c.self.invariant.0 c.restart_of.ensures.sound,
      subst (λ n. n ≤ 32) (sym (length-set s.devices.items c.place_of-place.result c.restart_of.new.device)) c.self.invariant.1,
    )

pub returns-clause-came : goal.returns-clause-came
returns-clause-came g c =
    let s = c.self.inside in
    let within : c.place_of-place.result < length s.devices.items = omega (arith, c.if-place-len.false, c.len.ensures) in
    let same = c.content.ensures ∙ ap (λ (u : SetupState _ _ _). u.content) c.deref-setup.ensures in
    let state = s.manager.state in
    rw (← c.self.view_is) (comes_met s.setup.value s.has_diverged c.restart_of.result s.devices.items c.place_of-place.result c.args.device c.index_mut.result.now c.restart_of.new.device s.manager c.restart_of.new.manager s.operators.items
    (anew_at (g.C.Content.meaning c.content.result.now) state c.args.device) (anew_at (g.C.Content.meaning s.setup.value.content) state c.args.device) (ap (λ x. anew_at (g.C.Content.meaning x) state c.args.device) same)
    c.place_of-place.ensures within c.index_mut.ensures.value c.restart_of.ensures.met c.restart_of.ensures.unchanged c.restart_of.ensures.manager_unchanged)

pub returns-clause-time : goal.returns-clause-time
returns-clause-time g c =
    let s = c.self.inside in
    let within : c.place_of-place.result < length s.devices.items = omega (arith, c.if-place-len.false, c.len.ensures) in
    rw (← c.self.view_is) (time_kept s.devices.items c.place_of-place.result c.index_mut.result.now c.restart_of.new.device within c.index_mut.ensures.value c.restart_of.ensures.clock)

pub returns-then-place-len-clause-came : goal.returns-then-place-len-clause-came
returns-then-place-len-clause-came g c =
    let s = c.self.inside in
    let past : slice_get s.devices.items (c.args.device - 1) ≡ None =
    slice_get_past s.devices.items (c.args.device - 1) (omega (arith, c.if-place-len.true, c.len.ensures, c.place_of-place.ensures)) in
    rw (← c.self.view_is) (none_met s.setup.value s.has_diverged s.manager s.devices.items s.operators.items c.args.device _ (ap (anew_at (g.C.Content.meaning s.setup.value.content) s.manager.state c.args.device) past))

pub returns-then-place-len-clause-time : goal.returns-then-place-len-clause-time
returns-then-place-len-clause-time g c = rw (← c.self.view_is) (time_stays c.self.inside.devices.items)
