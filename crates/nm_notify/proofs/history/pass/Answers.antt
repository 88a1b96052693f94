use Rattle.std.proofs.Common.{◌≡◌, ◌+◌, ◌++◌, ◌∙◌, OnOk, Some, option_to_list, sym, subst}
use Rattle.nm_notify.specs.Notices.{is_standing, noticed}
use Rattle.nm_notify.proofs.Passing.{goes_on, on_ok, takes_it}
use Rattle.nm_notify.proofs.history.pass.Goals as goal

pub returns-in-Some-clause-passed : goal.returns-in-Some-clause-passed
returns-in-Some-clause-passed c =
    let told = noticed (c.args.stream.now.entries + 1) c.args.entry.now (is_standing c.args.before.now) (is_standing c.args.after.now) in
    on_ok c.push.result
    (goes_on c.args.stream.now c.observe.new.self c.args.subscriber told c.requires.alone c.in_ok-observe.ensures.observed c.take-taken.new.self c.take-taken.ensures.after)

pub returns-in-Some-clause-told : goal.returns-in-Some-clause-told
returns-in-Some-clause-told c =
    let told = noticed (c.args.stream.now.entries + 1) c.args.entry.now (is_standing c.args.before.now) (is_standing c.args.after.now) in
    let taken : Some c.in-Some.notice ≡ told =
    sym c.in-Some.is ∙ takes_it c.args.stream.now c.observe.new.self c.args.subscriber told c.requires.alone c.in_ok-observe.ensures.observed c.take-taken.result c.take-taken.ensures.notice in
    subst (λ notice. OnOk c.push.result (c.push.new.self ≡ c.args.notices.now ++ option_to_list notice)) taken c.push.ensures.ok
