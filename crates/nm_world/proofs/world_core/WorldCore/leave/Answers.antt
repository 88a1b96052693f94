use Rattle.std.proofs.Common.{◌≡◌, ◌-◌, ◌≤◌, ◌<◌, ◌∙◌, IfOk, Some, None, option_copied, length, slice_get, ap, sym, subst, arith}
use Rattle.std.proofs.lemmas.List.{length-set}
use Rattle.std.proofs.lemmas.Option.{slice_get_past}
use Rattle.nm_world.specs.World.{SetupState, has_on, left_with, leaving_at, operator_at, IsMoved}
use Rattle.nm_world.proofs.Absent.{none_left_there}
use Rattle.nm_world.proofs.Clocks.{time_kept}
use Rattle.nm_world.proofs.Staging.{comes_moved, none_moved, sound_after, sound_there}
use Rattle.nm_world.proofs.world_core.WorldCore.leave.Goals as goal

pub leave_from-requires : goal.leave_from-requires
leave_from-requires g c =
    let s = c.self.inside in
    let within : c.place_of-place.result < length s.devices.items = omega (arith, c.if-place-len.false, c.len.ensures) in
    let same = c.content.ensures ∙ ap (λ (u : SetupState _ _ _). u.content) c.deref-setup.ensures in
    record { sound = sound_there g.C.Content.meaning c.content.result.now s.setup.value.content same s.devices.items c.place_of-place.result c.index_mut.result.now within c.index_mut.ensures.value c.self.invariant.0 }

pub invariant_of-self : goal.invariant_of-self
invariant_of-self g c =
    let s = c.self.inside in
    let same = c.content.ensures ∙ ap (λ (u : SetupState _ _ _). u.content) c.deref-setup.ensures in (
      sound_after g.C.Content.meaning c.content.result.now s.setup.value.content same s.devices.items c.place_of-place.result c.leave_from.new.device c.self.invariant.0 c.leave_from.ensures.sound,
      subst (λ n. n ≤ 32) (sym (length-set s.devices.items c.place_of-place.result c.leave_from.new.device)) c.self.invariant.1,
    )

pub returns-clause-came : goal.returns-clause-came
returns-clause-came g c =
    let s = c.self.inside in
    let within : c.place_of-place.result < length s.devices.items = omega (arith, c.if-place-len.false, c.len.ensures) in
    let same = c.content.ensures ∙ ap (λ (u : SetupState _ _ _). u.content) c.deref-setup.ensures in
    let operator = c.in-Some.operator.now in
    let found : operator_at s.operators.items c.args.number ≡ Some operator =
    sym (c.operator_at.ensures ∙ ap (λ all. operator_at all c.args.number) c.deref.ensures.value) ∙ ap option_copied c.in-Some.is in
    let left = subst (λ k. IfOk c.leave_from.result (λ what. IsMoved what c.index_mut.result.now c.leave_from.new.device (left_with (g.C.Content.meaning c.content.result.now) c.index_mut.result.now (has_on operator c.index_mut.result.now k)))) c.place_of-place.ensures
    c.leave_from.ensures.left in
    rw (← c.self.view_is) (comes_moved s.setup.value s.has_diverged c.leave_from.result s.devices.items c.place_of-place.result c.args.device c.index_mut.result.now c.leave_from.new.device s.manager s.operators.items
    (leaving_at (g.C.Content.meaning c.content.result.now) c.args.device (Some operator)) (leaving_at (g.C.Content.meaning s.setup.value.content) c.args.device (operator_at s.operators.items c.args.number))
    (ap (λ x. leaving_at (g.C.Content.meaning x) c.args.device (Some operator)) same ∙ ap (leaving_at (g.C.Content.meaning s.setup.value.content) c.args.device) (sym found))
    c.place_of-place.ensures within c.index_mut.ensures.value left c.leave_from.ensures.unchanged)

pub returns-clause-time : goal.returns-clause-time
returns-clause-time g c =
    let s = c.self.inside in
    let within : c.place_of-place.result < length s.devices.items = omega (arith, c.if-place-len.false, c.len.ensures) in
    rw (← c.self.view_is) (time_kept s.devices.items c.place_of-place.result c.index_mut.result.now c.leave_from.new.device within c.index_mut.ensures.value c.leave_from.ensures.clock)

pub returns-then-place-len-clause-came : goal.returns-then-place-len-clause-came
returns-then-place-len-clause-came g c =
    let s = c.self.inside in
    let m = g.C.Content.meaning s.setup.value.content in
    let operator = operator_at s.operators.items c.args.number in
    let past : slice_get s.devices.items (c.args.device - 1) ≡ None =
    slice_get_past s.devices.items (c.args.device - 1) (omega (arith, c.if-place-len.true, c.len.ensures, c.place_of-place.ensures)) in
    rw (← c.self.view_is) (none_moved s.setup.value s.has_diverged s.manager s.devices.items s.operators.items c.args.device _
    (ap (leaving_at m c.args.device operator) past ∙ none_left_there m c.args.device operator))
