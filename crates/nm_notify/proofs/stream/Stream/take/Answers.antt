use Rattle.std.proofs.Common.{◌≡◌, ◌+◌, ◌-◌, ◌<◌, ◌∙◌, ℕ, List, length, Some, ap, sym, subst, arith}
use Rattle.std.specs.List.{All}
use Rattle.nm_notify.specs.declared.notice.Notice.{Notice}
use Rattle.nm_notify.specs.Stream.{StreamState, taken_from}
use Rattle.nm_notify.specs.Subscribers.{IsSubscriber, left_of}
use Rattle.nm_notify.proofs.Left.{none_left, oldest_left, place_left, taken_all, taken_left, wider}
use Rattle.nm_notify.proofs.stream.Stream.take.Goals as goal

pub overflow_sub-place : goal.overflow_sub-place
overflow_sub-place c =
    let s = c.self.inside in
    let end = s.gone + c.len.result in
    let all = wider s.last s.last s.gone (s.gone + length s.notices.items) end s.subscribers.items (omega arith) (omega (arith, c.len.ensures)) c.self.invariant.0 in
    (place_left s.last s.gone end s.notices.items c.args.subscriber s.subscribers.items c.in-Some.place all (sym c.in-Some.ensures.place)).low

pub index-requires : goal.index-requires
index-requires c =
    let s = c.self.inside in
    let end = s.gone + c.len.result in
    let all = wider s.last s.last s.gone (s.gone + length s.notices.items) end s.subscribers.items (omega arith) (omega (arith, c.len.ensures)) c.self.invariant.0 in
    let left = place_left s.last s.gone end s.notices.items c.args.subscriber s.subscribers.items c.in-Some.place all (sym c.in-Some.ensures.place) in
    omega (arith, left.low, left.high, c.len.ensures)

-- no subscriber has more than there is, whoever took
pub invariant_of-self : goal.invariant_of-self
invariant_of-self c =
    let s = c.self.inside in
    let end = s.gone + c.len.result in
    let all = wider s.last s.last s.gone (s.gone + length s.notices.items) end s.subscribers.items (omega arith) (omega (arith, c.len.ensures)) c.self.invariant.0 in (
      subst (All (IsSubscriber s.last s.gone (s.gone + length s.notices.items))) (sym c.take_place.ensures.after)
          (wider s.last s.last s.gone end (s.gone + length s.notices.items) _ (omega arith) (omega (arith, c.len.ensures)) (taken_all s.last s.gone end c.args.subscriber s.subscribers.items all)),
      c.self.invariant.1,
      c.self.invariant.2,
    )

pub invariant_of-self-2 : goal.invariant_of-self-2
invariant_of-self-2 c =
    let s = c.self.inside in
    let end = s.gone + c.len.result in
    let all = wider s.last s.last s.gone (s.gone + length s.notices.items) end s.subscribers.items (omega arith) (omega (arith, c.len.ensures)) c.self.invariant.0 in (
      subst (All (IsSubscriber s.last s.gone (s.gone + length s.notices.items))) (sym c.take_place.ensures.after)
          (wider s.last s.last s.gone end (s.gone + length s.notices.items) _ (omega arith) (omega (arith, c.len.ensures)) (taken_all s.last s.gone end c.args.subscriber s.subscribers.items all)),
      c.self.invariant.1,
      c.self.invariant.2,
    )

pub returns-in_default-clause-notice : goal.returns-in_default-clause-notice
returns-in_default-clause-notice c =
    let s = c.self.inside in
    let end = s.gone + c.len.result in
    let is : s.gone + c.len.result ≡ s.gone + length s.notices.items = omega (arith, c.len.ensures) in
    rw (← c.self.view_is)
    (sym (none_left s.last s.gone end s.notices.items c.args.subscriber s.subscribers.items is (sym c.take_place.ensures.place ∙ c.in_default.is)))

pub returns-in_default-clause-after : goal.returns-in_default-clause-after
returns-in_default-clause-after c =
    let s = c.self.inside in
    let end = s.gone + c.len.result in
    let is : s.gone + c.len.result ≡ s.gone + length s.notices.items = omega (arith, c.len.ensures) in
    let all = wider s.last s.last s.gone (s.gone + length s.notices.items) end s.subscribers.items (omega arith) (omega (arith, is)) c.self.invariant.0 in
    let over : List (ℕ × List Notice) → StreamState = λ left. record { entries = s.entries; last = s.last; left = left } in
    rw (← c.self.view_is)
    (ap over (ap (left_of s.gone s.notices.items) c.take_place.ensures.after ∙ taken_left s.last s.gone end s.notices.items c.args.subscriber s.subscribers.items is all))

pub returns-clause-after : goal.returns-clause-after
returns-clause-after c =
    let s = c.self.inside in
    let end = s.gone + c.len.result in
    let is : s.gone + c.len.result ≡ s.gone + length s.notices.items = omega (arith, c.len.ensures) in
    let all = wider s.last s.last s.gone (s.gone + length s.notices.items) end s.subscribers.items (omega arith) (omega (arith, is)) c.self.invariant.0 in
    let over : List (ℕ × List Notice) → StreamState = λ left. record { entries = s.entries; last = s.last; left = left } in
    rw (← c.self.view_is)
    (ap over (ap (left_of s.gone s.notices.items) c.take_place.ensures.after ∙ taken_left s.last s.gone end s.notices.items c.args.subscriber s.subscribers.items is all))

pub returns-clause-notice : goal.returns-clause-notice
returns-clause-notice c =
    let s = c.self.inside in
    let end = s.gone + c.len.result in
    let is : s.gone + c.len.result ≡ s.gone + length s.notices.items = omega (arith, c.len.ensures) in
    let all = wider s.last s.last s.gone (s.gone + length s.notices.items) end s.subscribers.items (omega arith) (omega (arith, is)) c.self.invariant.0 in
    let left = place_left s.last s.gone end s.notices.items c.args.subscriber s.subscribers.items c.in-Some.place all (sym c.in-Some.ensures.place) in
    let within : c.in-Some.place - s.gone < length s.notices.items = omega (arith, left.low, left.high, is) in
    rw (← c.self.view_is) (ap Some c.index.ensures ∙ sym (ap taken_from left.left_is ∙ oldest_left s.notices.items (c.in-Some.place - s.gone) c.index.result.now within))
