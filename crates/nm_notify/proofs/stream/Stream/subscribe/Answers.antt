use Rattle.std.proofs.Common.{◌≡◌, ◌+◌, ◌++◌, ◌∷◌, [], ◌<◌, ◌∙◌, ℕ, List, length, length-append, Some, None, ap, sym, refl, arith, rules}
use Rattle.nm_notify.specs.declared.notice.Notice.{Notice}
use Rattle.nm_notify.specs.declared.subscriber.Subscriber.{Subscriber}
use Rattle.nm_notify.specs.Stream.{StreamState, next_number}
use Rattle.nm_notify.specs.Subscribers.{left_of}
use Rattle.nm_notify.proofs.Left.{fresh_left, length-left, next_so, number_is, subscribed_left}
use Rattle.nm_notify.proofs.stream.Stream.subscribe.Goals as goal

pub returns-in_default-clause-full : goal.returns-in_default-clause-full
returns-in_default-clause-full c =
    let s = c.self.inside in (
      λ e. rw (← c.self.view_is)
          (next_so s.gone s.notices.items s.subscribers.items s.last c.len.result c.number_after.result None (omega (arith, c.len.ensures)) c.number_after.ensures c.in_default.is),
      λ none. refl,
    )

pub returns-in_err-push-clause-full : goal.returns-in_err-push-clause-full
returns-in_err-push-clause-full c =
    let s = c.self.inside in
    let next : next_number c.args.self.now ≡ Some c.in-Some.number = rw (← c.self.view_is)
    (next_so s.gone s.notices.items s.subscribers.items s.last c.len.result c.number_after.result (Some c.in-Some.number) (omega (arith, c.len.ensures)) c.number_after.ensures c.in-Some.is) in
    (search rules, λ none. absurd (let no : Some c.in-Some.number ≡ None = sym next ∙ none in cc))

pub returns-clause-number : goal.returns-clause-number
returns-clause-number c =
    let s = c.self.inside in
    rw (← c.self.view_is)
    (next_so s.gone s.notices.items s.subscribers.items s.last c.len.result c.number_after.result (Some c.in-Some.number) (omega (arith, c.len.ensures)) c.number_after.ensures c.in-Some.is)

pub returns-clause-full : goal.returns-clause-full
returns-clause-full c =
    let next : next_number c.args.self.now ≡ Some c.in-Some.number = returns-clause-number c in
    (λ e. absurd cc, λ none. absurd (let no : Some c.in-Some.number ≡ None = sym next ∙ none in cc))

pub returns-clause-fresh : goal.returns-clause-fresh
returns-clause-fresh c =
    let s = c.self.inside in
    let given = number_is c.len.result s.last c.in-Some.number (sym c.number_after.ensures ∙ c.in-Some.is) in
    let above : s.last < c.in-Some.number = omega (arith, given.1) in
    rw (← c.self.view_is) (fresh_left s.last s.gone (s.gone + length s.notices.items) s.notices.items s.subscribers.items c.in-Some.number above c.self.invariant.0)

pub returns-clause-after : goal.returns-clause-after
returns-clause-after c =
    let s = c.self.inside in
    let n = c.in-Some.number in
    let given = number_is c.len.result s.last n (sym c.number_after.ensures ∙ c.in-Some.is) in
    let left : left_of s.gone s.notices.items c.push.new.self.items ≡ left_of s.gone s.notices.items s.subscribers.items ++ (n, []) ∷ [] =
    ap (left_of s.gone s.notices.items) c.in_ok-push.ensures.items
    ∙ subscribed_left s.gone s.notices.items s.subscribers.items n (s.gone + c.len-2.result) (omega (arith, c.len-2.ensures)) in
    let over : ℕ → List (ℕ × List Notice) → StreamState = λ last left. record { entries = s.entries; last = last; left = left } in
    rw (← c.self.view_is) (ap (over n) left ∙ ap (λ k. over k (left_of s.gone s.notices.items s.subscribers.items ++ (k, []) ∷ [])) given.1)

pub returns-clause-few : goal.returns-clause-few
returns-clause-few c =
    let s = c.self.inside in
    let given = number_is c.len.result s.last c.in-Some.number (sym c.number_after.ensures ∙ c.in-Some.is) in
    let new : Subscriber = record { number = c.in-Some.number; place = s.gone + c.len-2.result } in
    let all = length-left s.gone s.notices.items c.push.new.self.items in
    let pushed = ap length c.in_ok-push.ensures.items in
    let more = length-append s.subscribers.items (new ∷ []) in
    omega (arith, all, pushed, more, given.0, c.len.ensures)
