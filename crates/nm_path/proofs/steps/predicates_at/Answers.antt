use Rattle.std.proofs.Common.{◌∙◌, ◌-◌, length, rules, sym, arith}
use Rattle.nm_path.specs.Reading.{predicate_at, predicates_at}
use Rattle.nm_path.proofs.Loops.{fails_by, predicates_some, predicates_fail, predicates_end, with_front-empty}
use Rattle.nm_path.proofs.steps.predicates_at.Goals as goal

pub predicates-init : goal.predicates-init
predicates-init c = (length c.args.text.now, omega arith, rw c.new-all.ensures.items (with_front-empty (predicates_at (length c.args.text.now) c.args.text.now)), omega arith, c.utf8.text)

pub begins-requires-text-text : goal.begins-requires-text-text
begins-requires-text-text c κs = c.predicates.invariant.4

pub predicate_at-requires : goal.predicate_at-requires
predicate_at-requires c = tt

pub predicates-preserved : goal.predicates-preserved
predicates-preserved c =
    let l = c.predicates.invariant in
    let s = c.in-Ok.ensures in
    let now = predicates_some l.0 c.predicates.all.items c.in-Ok.predicate c.predicates.rest.now c.in-Ok.after.now (sym c.begins.ensures ∙ c.predicates-test.true) l.1 s.read in
    (l.0 - 1, omega (arith, s.shorter, l.1), rw c.in_ok-push-in-Ok.ensures.items (sym now ∙ l.2), omega (arith, s.shorter, l.3), search rules)

pub returns-in-Err-clause-read : goal.returns-in-Err-clause-read
returns-in-Err-clause-read c =
    let l = c.predicates.invariant in
    fails_by c.in-Err.error (predicate_at c.predicates.rest.now) (predicates_at (length c.args.text.now) c.args.text.now)
    (λ none. sym l.2 ∙ predicates_fail l.0 c.predicates.all.items c.predicates.rest.now (sym c.begins.ensures ∙ c.predicates-test.true) l.1 none) c.in-Err.ensures.read

pub fact_in-rest : goal.fact_in-rest
fact_in-rest c = c.predicates.invariant.4

pub returns-clause-read : goal.returns-clause-read
returns-clause-read c =
    let l = c.predicates.invariant in
    sym l.2 ∙ predicates_end l.0 c.predicates.all.items c.predicates.rest.now (sym c.begins.ensures ∙ c.predicates-test.false)
