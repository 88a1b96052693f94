use Rattle.std.proofs.Common.{◌≡◌, ◌+◌, ◌∙◌, ℕ, List, map, ap}
use Rattle.nm_notify.specs.declared.notice.Notice.{Notice}
use Rattle.nm_notify.specs.Notices.{is_standing, noticed}
use Rattle.nm_notify.specs.Stream.{StreamState, with_notice}
use Rattle.nm_notify.specs.Subscribers.{left_of}
use Rattle.nm_notify.proofs.Left.{told_left}
use Rattle.nm_notify.proofs.stream.Stream.observe.Goals as goal

pub returns-clause-observed : goal.returns-clause-observed
returns-clause-observed c =
    let s = c.self.inside in
    let ss = s.subscribers.items in
    let n = s.entries + 1 in
    let told : c.notice_of-told.result ≡ noticed n c.args.noted.now (is_standing c.args.before) (is_standing c.args.after) =
    c.notice_of-told.ensures ∙ ap (λ was. noticed n c.args.noted.now was c.is_standing-2.result) c.is_standing.ensures
    ∙ ap (λ now. noticed n c.args.noted.now (is_standing c.args.before) now) c.is_standing-2.ensures in
    let over : List (ℕ × List Notice) → StreamState = λ left. record { entries = n; last = s.last; left = left } in
    rw (← c.forget_taken.ensures, ← c.self.view_is)
    (ap over (ap (λ ns. left_of s.gone ns ss) c.in_ok-push_if.ensures.pushed ∙ told_left s.last s.gone s.notices.items c.notice_of-told.result ss c.self.invariant.0
    ∙ ap (λ t. map (with_notice t) (left_of s.gone s.notices.items ss)) told))
