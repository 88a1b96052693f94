use Rattle.std.proofs.Common.{◌≡◌, ◌≤◌, ◌<◌, ◌++◌, ◌∷◌, [], ◌∙◌, List, length, map, take, get_or, sym, ap, subst, arith}
use Rattle.std.proofs.lemmas.List.{length-map, map_more, take_all}
use Rattle.nm_history.specs.History.{RecordedState, recorded}
use Rattle.nm_world.specs.World.{AreSound}
use Rattle.nm_world.proofs.Beginnings.{fresh_sound}
use Rattle.nm_world.proofs.beginning.fresh_devices.Goals as goal

pub copy-requires : goal.copy-requires
copy-requires g c =
    let m = g.C.Content.meaning in
    let setup = c.args.setup.now in
    let i = c.loop-config.config-index in
    let item = c.config-item.result in
    let all = c.first_configs-first_configs.result.now in
    let within : i < length setup.first_configs = subst (λ xs. i < length xs) c.first_configs-first_configs.ensures.value c.loop-config-test.true in
    let is = c.config-item.is ∙ ap (λ xs. get_or xs i item) c.first_configs-first_configs.ensures.value in
    subst (λ x. (m x).belongs item) (sym c.content-content.ensures)
    (subst (m setup.content).belongs (sym is) (c.first_configs-first_configs.ensures.first i item within).belongs)

pub loop-config-preserved : goal.loop-config-preserved
loop-config-preserved g c =
    let all = c.first_configs-first_configs.result.now in
    let i = c.loop-config.config-index in
    let item = c.config-item.result in
    let before = map recorded (take i all) in
    c.in_ok-push_fresh.ensures
    ∙ ap (λ ds. ds ++ recorded c.in_ok-own.own ∷ []) c.loop-config.invariant
    ∙ ap (λ config. before ++ recorded config ∷ []) (c.in_ok-own.ensures.value ∙ c.config-item.is)
    ∙ sym (map_more recorded all i item c.loop-config-test.true)

pub returns-clause-begun : goal.returns-clause-begun
returns-clause-begun g c =
    let all = c.first_configs-first_configs.result.now in
    c.loop-config.invariant ∙ ap (map recorded) (take_all c.loop-config.config-index all (omega (arith, c.loop-config-test.false)) ∙ c.first_configs-first_configs.ensures.value)

pub returns-clause-sound : goal.returns-clause-sound
returns-clause-sound g c =
    let all = c.first_configs-first_configs.result.now in
    let begun : c.loop-config.devices.items ≡ map recorded c.args.setup.now.first_configs =
    c.loop-config.invariant ∙ ap (map recorded) (take_all c.loop-config.config-index all (omega (arith, c.loop-config-test.false)) ∙ c.first_configs-first_configs.ensures.value) in
    subst (AreSound (g.C.Content.meaning c.args.setup.now.content)) (sym begun)
    (fresh_sound (g.C.Content.meaning c.args.setup.now.content) c.args.setup.now.first_configs c.first_configs-first_configs.ensures.first)

pub returns-clause-few : goal.returns-clause-few
returns-clause-few g c =
    let all = c.first_configs-first_configs.result.now in
    let begun : c.loop-config.devices.items ≡ map recorded c.args.setup.now.first_configs =
    c.loop-config.invariant ∙ ap (map recorded) (take_all c.loop-config.config-index all (omega (arith, c.loop-config-test.false)) ∙ c.first_configs-first_configs.ensures.value) in
    subst (λ n. n ≤ 32) (sym (ap length begun ∙ length-map c.args.setup.now.first_configs recorded)) c.first_configs-first_configs.ensures.few
