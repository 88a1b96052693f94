use Rattle.std.proofs.Common.{◌≡◌, ◌+◌, ◌∙◌, ℕ, List, length, false, not, ap, sym, subst}
use Rattle.std.specs.List.{All, list_any}
use Rattle.std.proofs.lemmas.List.Elements.{All-filter}
use Rattle.nm_notify.specs.declared.notice.Notice.{Notice}
use Rattle.nm_notify.specs.Stream.{StreamState, is_of}
use Rattle.nm_notify.specs.Subscribers.{IsSubscriber, is_numbered, left_of}
use Rattle.nm_notify.proofs.Left.{all_stay, without_left}
use Rattle.nm_notify.proofs.stream.Stream.unsubscribe.Goals as goal

pub returns-then-not-is_subscribed-clause-after : goal.returns-then-not-is_subscribed-clause-after
returns-then-not-is_subscribed-clause-after c =
    let s = c.args.self.now in
    let none : list_any (is_of c.args.subscriber) c.args.self.now.left ≡ false = cc in
    let over : List (ℕ × List Notice) → StreamState = λ left. record { entries = s.entries; last = s.last; left = left } in
    ap over (sym (all_stay c.args.subscriber s.left none))

pub invariant_of-self : goal.invariant_of-self
invariant_of-self c =
    let s = c.self.inside in
    let P = IsSubscriber s.last s.gone (s.gone + length s.notices.items) in (
      subst (All P) (sym c.drop_numbered.ensures) (All-filter (λ one. not (is_numbered c.args.subscriber one)) P s.subscribers.items c.self.invariant.0),
      c.self.invariant.1,
      c.self.invariant.2,
    )

pub returns-clause-after : goal.returns-clause-after
returns-clause-after c =
    let s = c.self.inside in
    let over : List (ℕ × List Notice) → StreamState = λ left. record { entries = s.entries; last = s.last; left = left } in
    rw (← c.self.view_is) (ap over (ap (left_of s.gone s.notices.items) c.drop_numbered.ensures ∙ without_left s.gone s.notices.items c.args.subscriber s.subscribers.items))
