use Rattle.std.proofs.Common.{rules, lit<}
use Rattle.nm_explain.proofs.Leading.{led_lost, led_on, led_last}
use Rattle.nm_explain.proofs.led.led.Goals as goal

pub returns-in_default-node_named : goal.returns-in_default-node_named
returns-in_default-node_named c =
    let cut = c.in-Some.ensures.byte (lit< tt) (λ w o h. h) in
    led_lost c.args.schema.now c.steps.within _ c.node_named.result c.steps.rest.now c.in-Some.step.now c.in-Some.behind.now c.name_in.result.now cut.2 cut.0 cut.1 c.name_in.ensures c.node_named.ensures c.steps.invariant.1 c.in_default-node_named.is

pub steps-preserved : goal.steps-preserved
steps-preserved c =
    let cut = c.in-Some.ensures.byte (lit< tt) (λ w o h. h) in
    (search rules, led_on c.args.schema.now c.steps.within _ c.node_named.result c.steps.rest.now c.in-Some.step.now c.in-Some.behind.now c.name_in.result.now cut.2 cut.0 cut.1 c.name_in.ensures c.node_named.ensures c.steps.invariant.1 c.in-Some-node_named.at c.in-Some-node_named.is)

pub returns : goal.returns
returns c =
    led_last c.args.schema.now c.steps.within _ c.node_named-2.result c.steps.rest.now c.name_in-2.result.now (c.in_default.ensures.byte (lit< tt) (λ w o h. h)) c.name_in-2.ensures c.node_named-2.ensures c.steps.invariant.1
