use Rattle.std.proofs.Common.{rules, lit<, string_bytes}
use Rattle.nm_explain.proofs.Parting.{outside_open, outside_next, outside_over}
use Rattle.nm_explain.proofs.led.outside.Goals as goal

pub returns-in_default-split_once : goal.returns-in_default-split_once
returns-in_default-split_once c =
    let cut = c.in-Some.ensures.byte (lit< tt) (λ w o h. h) in
    outside_open (string_bytes c.parts.out) c.parts.rest.now c.in-Some.front.now c.in-Some.behind.now _ cut.2 cut.0 cut.1 c.parts.invariant.1 (string_bytes c.push_str.new.self) (c.in_default-split_once.ensures.byte (lit< tt) (λ w o h. h)) c.in_ok-push_str.ensures.bytes

pub parts-preserved : goal.parts-preserved
parts-preserved c =
    let cut = c.in-Some.ensures.byte (lit< tt) (λ w o h. h) in
    let closed = c.in-Some-split_once.ensures.byte (lit< tt) (λ w o h. h) in
    (search rules, outside_next (string_bytes c.parts.out) c.parts.rest.now c.in-Some.front.now c.in-Some.behind.now _ cut.2 cut.0 cut.1 c.parts.invariant.1 (string_bytes c.push_str.new.self) c.in-Some-split_once.more.now closed.2 closed.1 c.in_ok-push_str.ensures.bytes)

pub returns : goal.returns
returns c =
    outside_over (string_bytes c.parts.out) c.parts.rest.now (string_bytes c.push_str-2.new.self) _ (c.in_default.ensures.byte (lit< tt) (λ w o h. h)) c.in_ok-push_str-2.ensures.bytes c.parts.invariant.1
