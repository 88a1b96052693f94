use Rattle.std.proofs.Common.{◌≡◌, ◌-◌, ◌≤◌, ◌<◌, ◌∙◌, IfOk, None, length, slice_get, ap, sym, subst, arith, rules}
use Rattle.std.proofs.lemmas.List.{length-set}
use Rattle.std.proofs.lemmas.Option.{slice_get_past}
use Rattle.nm_world.specs.World.{CoreValue, SetupState, AreInTime, IsAsked, asking_at, asks, operator_at}
use Rattle.nm_world.proofs.Absent.{none_asked_there, past_operators}
use Rattle.nm_world.proofs.Clocks.{time_kept}
use Rattle.nm_world.proofs.Staging.{comes_asked, edits_there, in_time_there, none_asked, sound_after, sound_there}
use Rattle.nm_world.proofs.world_core.WorldCore.ask.Goals as goal

pub ask_of-requires-clause-sound : goal.ask_of-requires-clause-sound
ask_of-requires-clause-sound g c =
    let s = c.self.inside in
    let within : c.place_of-place.result < length s.devices.items = omega (arith, c.if-place-len.false, c.len-2.ensures) in
    let same = c.content.ensures ∙ ap (λ (u : SetupState _ _ _). u.content) c.deref-setup.ensures in
    sound_there g.C.Content.meaning c.content.result.now s.setup.value.content same s.devices.items c.place_of-place.result c.index_mut.result.now within c.index_mut.ensures.value c.self.invariant.0

pub ask_of-requires-clause-in_time : goal.ask_of-requires-clause-in_time
ask_of-requires-clause-in_time g c =
    let s = c.self.inside in
    let within : c.place_of-place.result < length s.devices.items = omega (arith, c.if-place-len.false, c.len-2.ensures) in
    in_time_there s.devices.items c.place_of-place.result c.index_mut.result.now within c.index_mut.ensures.value
    (subst (λ (w : CoreValue _ _ _ _). AreInTime w.state.devices) (sym c.self.view_is) c.requires.in_time)

pub ask_of-requires-clause-edits_belong : goal.ask_of-requires-clause-edits_belong
ask_of-requires-clause-edits_belong g c =
    edits_there g.C.Content.meaning c.content.result.now c.deref-setup.result.now.content c.content.ensures c.tables.result.now c.deref-setup.result.now.setting.tables c.tables.ensures.value c.tables.ensures.belong

pub invariant_of-self : goal.invariant_of-self
invariant_of-self g c =
    let s = c.self.inside in
    let same = c.content.ensures ∙ ap (λ (u : SetupState _ _ _). u.content) c.deref-setup.ensures in (
      sound_after g.C.Content.meaning c.content.result.now s.setup.value.content same s.devices.items c.place_of-place.result c.ask_of.new.device c.self.invariant.0 c.ask_of.ensures.sound,
      subst (λ n. n ≤ 32) (sym (length-set s.devices.items c.place_of-place.result c.ask_of.new.device)) c.self.invariant.1,
    )

pub returns-clause-came : goal.returns-clause-came
returns-clause-came g c =
    let s = c.self.inside in
    let within : c.place_of-place.result < length s.devices.items = omega (arith, c.if-place-len.false, c.len-2.ensures) in
    let same = c.content.ensures ∙ ap (λ (u : SetupState _ _ _). u.content) c.deref-setup.ensures in
    let tables = c.tables.ensures.value ∙ ap (λ (u : SetupState _ _ _). u.setting.tables) c.deref-setup.ensures in
    let inside : c.args.number - 1 < length s.operators.items = search rules in
    let positive : 0 < c.args.number = search rules in
    let before = c.index_mut-operator.result.now in
    let alike = ap (λ x. asking_at (g.C.Content.meaning x) c.tables.result.now c.args.device c.args.request.now) same
    ∙ ap (λ t. asking_at (g.C.Content.meaning s.setup.value.content) t c.args.device c.args.request.now) tables in
    let asked = subst (λ k. IfOk c.ask_of.result (λ what. IsAsked what c.index_mut.result.now c.ask_of.new.device before c.ask_of.new.operator
    (asks (g.C.Content.meaning c.content.result.now) c.tables.result.now c.index_mut.result.now before k c.args.request.now))) c.place_of-place.ensures c.ask_of.ensures.asked in
    rw (← c.self.view_is) (comes_asked s.setup.value s.has_diverged c.ask_of.result s.devices.items s.operators.items c.place_of-place.result c.args.device c.args.number c.index_mut.result.now c.ask_of.new.device before c.ask_of.new.operator s.manager
    (asking_at (g.C.Content.meaning c.content.result.now) c.tables.result.now c.args.device c.args.request.now) (asking_at (g.C.Content.meaning s.setup.value.content) s.setup.value.setting.tables c.args.device c.args.request.now)
    alike c.place_of-place.ensures within positive inside c.index_mut.ensures.value c.index_mut-operator.ensures.value
    asked c.ask_of.ensures.unchanged c.ask_of.ensures.operator_unchanged)

pub returns-clause-time : goal.returns-clause-time
returns-clause-time g c =
    let s = c.self.inside in
    let within : c.place_of-place.result < length s.devices.items = omega (arith, c.if-place-len.false, c.len-2.ensures) in
    rw (← c.self.view_is) (time_kept s.devices.items c.place_of-place.result c.index_mut.result.now c.ask_of.new.device within c.index_mut.ensures.value c.ask_of.ensures.clock)

pub returns-then-number-len-clause-came : goal.returns-then-number-len-clause-came
returns-then-number-len-clause-came g c =
    let s = c.self.inside in
    let m = g.C.Content.meaning s.setup.value.content in
    let none : operator_at s.operators.items c.args.number ≡ None = past_operators s.operators.items c.args.number (omega (arith, c.if-number-len.true, c.len.ensures)) in
    rw (← c.self.view_is) (none_asked s.setup.value s.has_diverged s.manager s.devices.items s.operators.items c.args.number c.args.device _
    (ap (λ operator. asking_at m s.setup.value.setting.tables c.args.device c.args.request.now operator (slice_get s.devices.items (c.args.device - 1))) none))

pub returns-then-place-len-clause-came : goal.returns-then-place-len-clause-came
returns-then-place-len-clause-came g c =
    let s = c.self.inside in
    let m = g.C.Content.meaning s.setup.value.content in
    let operator = operator_at s.operators.items c.args.number in
    let past : slice_get s.devices.items (c.args.device - 1) ≡ None =
    slice_get_past s.devices.items (c.args.device - 1) (omega (arith, c.if-place-len.true, c.len-2.ensures, c.place_of-place.ensures)) in
    rw (← c.self.view_is) (none_asked s.setup.value s.has_diverged s.manager s.devices.items s.operators.items c.args.number c.args.device _
    (ap (asking_at m s.setup.value.setting.tables c.args.device c.args.request.now operator) past
    ∙ none_asked_there m s.setup.value.setting.tables c.args.device c.args.request.now operator))
