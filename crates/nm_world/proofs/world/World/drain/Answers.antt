use Rattle.std.proofs.Common.{◌≡◌, ◌≤◌, ◌<◌, ◌+◌, ◌∙◌, Option, Some, None, is_some, true, false, refl, ap, sym, subst, arith, rules}
use Rattle.nm_world.specs.World.{WorldState, WorldValue, journal_of, with_state}
use Rattle.nm_world.specs.Drain.{drain_event, drain_limit, drained}
use Rattle.nm_world.proofs.Clocks.{time_still, time_stays}
use Rattle.nm_world.proofs.Passing.{drained_at_rest, none_did, still_ready, tells_entries}
use Rattle.nm_world.proofs.Chains.{drained_did, drained_left, drained_end, drained_early}
use Rattle.nm_world.proofs.Rereading.{drained_exact, drained_diverges}
use Rattle.nm_world.proofs.world.World.drain.Goals as goal

-- nothing is there
none_if : {A : Type 0} (x : Option A) → is_some x ≡ false → x ≡ None
none_if None none = refl
none_if (Some y) none = absurd (let no : true ≡ false = none in cc)

pub loop-init : goal.loop-init
loop-init g c = (none_did c.args.self (g.D.Disk.state c.args.disk.now) c.requires.ready (g.met.D.Disk.only_now c.args.disk.now), time_stays c.args.self.state.devices, omega arith, refl)

pub drain_step-requires-clause-ready : goal.drain_step-requires-clause-ready
drain_step-requires-clause-ready g c = still_ready _ c.args.self c.loop.world (g.D.Disk.state c.args.disk.now) (g.D.Disk.state c.loop.disk) c.requires.ready c.loop.invariant.0 c.loop.invariant.1

pub loop-preserved : goal.loop-preserved
loop-preserved g c = (
  drained_did g.C.Content.meaning c.args.self c.loop.counter c.loop.world c.drain_step.new.self (g.D.Disk.state c.args.disk.now) (g.D.Disk.state c.loop.disk) (g.D.Disk.state c.drain_step.new.disk) c.loop.invariant.0 c.in_ok-drain_step.ensures.stepped,
  time_still c.args.self.state.devices c.loop.world.state.devices c.drain_step.new.self.state.devices c.loop.invariant.1 c.drain_step.ensures.time,
  omega (arith, c.loop-test.true),
  drained_exact g.C.Content.meaning c.args.self c.loop.world c.drain_step.new.self c.loop.counter c.loop.invariant.0.others c.loop.invariant.3 c.in_ok-drain_step.ensures.exact,
)

pub returns-in_err-drain_step-clause-any_moment : goal.returns-in_err-drain_step-clause-any_moment
returns-in_err-drain_step-clause-any_moment g c =
    let less : c.loop.counter < drain_limit = subst (λ n. c.loop.counter < n) c.drain_limit-limit.ensures c.loop-test.true in
    (drained_left g.C.Content.meaning c.args.self c.loop.counter drain_limit c.loop.world (g.D.Disk.state c.args.disk.now) (g.D.Disk.state c.loop.disk) (g.D.Disk.state c.drain_step.new.disk) less c.loop.invariant.0 c.drain_step.ensures.journals).any_moment

pub returns-then-not-branch-clause-done : goal.returns-then-not-branch-clause-done
returns-then-not-branch-clause-done g c = λ undiverged.
    let did = drained_did g.C.Content.meaning c.args.self c.loop.counter c.loop.world c.drain_step.new.self (g.D.Disk.state c.args.disk.now) (g.D.Disk.state c.loop.disk) (g.D.Disk.state c.drain_step.new.disk) c.loop.invariant.0 c.in_ok-drain_step.ensures.stepped in
    let less : c.loop.counter < drain_limit = subst (λ n. c.loop.counter < n) c.drain_limit-limit.ensures c.loop-test.true in
    let enough : c.loop.counter + 1 ≤ drain_limit = omega (arith, less) in
    let none : drain_event c.loop.world.setting c.loop.world.state ≡ None = none_if (drain_event c.loop.world.setting c.loop.world.state) (sym c.in_ok-drain_step.ensures.went ∙ c.if-not-branch.true) in
    let rests = ap (λ (w : WorldValue _ _ _ _). drain_event w.setting w.state) (c.drain_step.ensures.at_rest none).0 ∙ none in
    drained_early g.C.Content.meaning c.args.self (c.loop.counter + 1) drain_limit c.drain_step.new.self (g.D.Disk.state c.args.disk.now) (g.D.Disk.state c.drain_step.new.disk) enough did rests undiverged

pub returns-then-not-branch-clause-stored : goal.returns-then-not-branch-clause-stored
returns-then-not-branch-clause-stored g c =
    let did = drained_did g.C.Content.meaning c.args.self c.loop.counter c.loop.world c.drain_step.new.self (g.D.Disk.state c.args.disk.now) (g.D.Disk.state c.loop.disk) (g.D.Disk.state c.drain_step.new.disk) c.loop.invariant.0 c.in_ok-drain_step.ensures.stepped in
    tells_entries (journal_of c.drain_step.new.self) (g.D.Disk.state c.drain_step.new.disk) (ap (λ (w : WorldValue _ _ _ _). w.failed) did.others ∙ c.requires.ready.whole)
    did.fits (g.met.D.Disk.as_read c.drain_step.new.disk)

pub returns-then-not-branch-clause-any_moment : goal.returns-then-not-branch-clause-any_moment
returns-then-not-branch-clause-any_moment g c =
    let less : c.loop.counter < drain_limit = subst (λ n. c.loop.counter < n) c.drain_limit-limit.ensures c.loop-test.true in
    (drained_left g.C.Content.meaning c.args.self c.loop.counter drain_limit c.loop.world (g.D.Disk.state c.args.disk.now) (g.D.Disk.state c.loop.disk) (g.D.Disk.state c.drain_step.new.disk) less c.loop.invariant.0 c.drain_step.ensures.journals).any_moment

pub returns-clause-done : goal.returns-clause-done
returns-clause-done g c = λ undiverged.
    let all : c.loop.counter ≡ c.drain_limit-limit.result = omega (arith, c.loop-test.false, c.loop.invariant.2) in
    let did = drained_end g.C.Content.meaning c.args.self c.loop.counter drain_limit c.loop.world (g.D.Disk.state c.args.disk.now) (g.D.Disk.state c.loop.disk) (all ∙ c.drain_limit-limit.ensures) c.loop.invariant.0 in
    did.others ∙ ap (with_state c.args.self) (did.done undiverged)

pub returns-clause-stored : goal.returns-clause-stored
returns-clause-stored g c =
    tells_entries (journal_of c.loop.world) (g.D.Disk.state c.loop.disk) (ap (λ (w : WorldValue _ _ _ _). w.failed) c.loop.invariant.0.others ∙ c.requires.ready.whole)
    c.loop.invariant.0.fits (g.met.D.Disk.as_read c.loop.disk)

pub returns-clause-any_moment : goal.returns-clause-any_moment
returns-clause-any_moment g c =
    let all : c.loop.counter ≡ c.drain_limit-limit.result = omega (arith, c.loop-test.false, c.loop.invariant.2) in
    let did = drained_end g.C.Content.meaning c.args.self c.loop.counter drain_limit c.loop.world (g.D.Disk.state c.args.disk.now) (g.D.Disk.state c.loop.disk) (all ∙ c.drain_limit-limit.ensures) c.loop.invariant.0 in
    did.journals.any_moment

pub returns-in_err-drain_step-clause-read : goal.returns-in_err-drain_step-clause-read
returns-in_err-drain_step-clause-read g c = λ offset is. c.in_err-drain_step.ensures.read offset (search (rules, is))

pub returns-then-not-branch-clause-reached : goal.returns-then-not-branch-clause-reached
returns-then-not-branch-clause-reached g c =
    let first = c.args.self in
    let m = g.C.Content.meaning first.content in
    let less : c.loop.counter < drain_limit = subst (λ n. c.loop.counter < n) c.drain_limit-limit.ensures c.loop-test.true in
    let none : drain_event c.loop.world.setting c.loop.world.state ≡ None = none_if (drain_event c.loop.world.setting c.loop.world.state) (sym c.in_ok-drain_step.ensures.went ∙ c.if-not-branch.true) in
    let rests : drain_event first.setting c.loop.world.state ≡ None = sym (ap (λ (w : WorldValue _ _ _ _). drain_event w.setting c.loop.world.state) c.loop.invariant.0.others) ∙ none in
    let stays : c.drain_step.new.self.state ≡ c.loop.world.state = ap (λ (w : WorldValue _ _ _ _). w.state) (c.drain_step.ensures.at_rest none).0 in
    stays ∙ c.loop.invariant.3
    ∙ drained_at_rest m first.setting c.loop.counter drain_limit first.state (omega (arith, less)) (ap (drain_event first.setting) (sym c.loop.invariant.3) ∙ rests)

pub returns-clause-reached : goal.returns-clause-reached
returns-clause-reached g c =
    let all : c.loop.counter ≡ c.drain_limit-limit.result = omega (arith, c.loop-test.false, c.loop.invariant.2) in
    let first = c.args.self in
    c.loop.invariant.3 ∙ ap (λ n. drained (g.C.Content.meaning first.content) first.setting n first.state) (all ∙ c.drain_limit-limit.ensures)

pub returns-then-not-branch-clause-straight : goal.returns-then-not-branch-clause-straight
returns-then-not-branch-clause-straight g c =
    let first = c.args.self in
    let m = g.C.Content.meaning first.content in
    let none : drain_event c.loop.world.setting c.loop.world.state ≡ None = none_if (drain_event c.loop.world.setting c.loop.world.state) (sym c.in_ok-drain_step.ensures.went ∙ c.if-not-branch.true) in
    ap (λ (w : WorldValue _ _ _ _). w.state.has_diverged) (c.drain_step.ensures.at_rest none).0 ∙ ap (λ (w : WorldState _ _). w.has_diverged) c.loop.invariant.3
    ∙ drained_diverges m first.setting c.loop.counter first.state

pub returns-clause-straight : goal.returns-clause-straight
returns-clause-straight g c =
    let first = c.args.self in
    ap (λ (w : WorldState _ _). w.has_diverged) c.loop.invariant.3 ∙ drained_diverges (g.C.Content.meaning first.content) first.setting c.loop.counter first.state
