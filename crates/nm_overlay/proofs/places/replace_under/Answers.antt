use Rattle.std.proofs.Common.{◌≡◌, ℕ, OnOk, ap, subst, ◌∙◌, arith}
use Rattle.std.specs.Prelude.{◌||◌}
use Rattle.std.specs.List as list
use Rattle.nm_config.specs.Under.{is_under}
use Rattle.nm_overlay.specs.Places.{front, is_before, is_before_or_under}
use Rattle.nm_overlay.proofs.Fronts.{front_more, front_within}
use Rattle.nm_overlay.proofs.places.replace_under.Goals as goal

pub splice-requires-clause-order : goal.splice-requires-clause-order
splice-requires-clause-order c =
    let node = c.args.node.now in
    let from = c.place_of-from.ensures ∙ ap (front (is_before node)) c.deref.ensures.value in
    let to = c.place_past-to.ensures ∙ ap (front (is_before_or_under node)) c.deref-2.ensures.value in
    let more = front_more (is_before node) (is_before_or_under node) (λ x h. ap (λ b. b || is_under node x) h) c.args.pairs.now.items in
    omega (arith, from, to, more)

pub splice-requires-clause-within : goal.splice-requires-clause-within
splice-requires-clause-within c = omega (arith, c.deref-2.ensures.len, front_within (is_before_or_under c.args.node.now) c.deref-2.result.now, c.place_past-to.ensures)

pub returns-clause-ok : goal.returns-clause-ok
returns-clause-ok c =
    let node = c.args.node.now in
    let items = c.args.pairs.now.items in
    let from = c.place_of-from.ensures ∙ ap (front (is_before node)) c.deref.ensures.value in
    let to = c.place_past-to.ensures ∙ ap (front (is_before_or_under node)) c.deref-2.ensures.value in
    subst (λ (n : ℕ). OnOk c.splice.result (c.splice.new.pairs.items ≡ list.splice items (front (is_before node) items) n c.args.others.items)) to
    (subst (λ (n : ℕ). OnOk c.splice.result (c.splice.new.pairs.items ≡ list.splice items n c.place_past-to.result c.args.others.items)) from c.splice.ensures.ok)
