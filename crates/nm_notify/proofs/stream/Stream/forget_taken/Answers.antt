use Rattle.std.proofs.Common.{◌≡◌, ◌+◌, ◌∙◌, ℕ, List, length, false, ap, sym, arith}
use Rattle.std.specs.List.{list_any}
use Rattle.nm_notify.specs.declared.notice.Notice.{Notice}
use Rattle.nm_notify.specs.Stream.{StreamState}
use Rattle.nm_notify.specs.Subscribers.{is_before, left_of}
use Rattle.nm_notify.proofs.Left.{forgotten_left, wider}
use Rattle.nm_notify.proofs.stream.Stream.forget_taken.Goals as goal

pub returns : goal.returns
returns c =
    let s = c.self.inside in
    let ss = s.subscribers.items in
    let end = s.gone + c.len.result in
    let is : s.gone + c.len.result ≡ s.gone + length s.notices.items = omega (arith, c.len.ensures) in
    let all = wider s.last s.last s.gone (s.gone + length s.notices.items) end ss (omega arith) (omega (arith, is)) c.self.invariant.0 in
    let none : list_any (is_before end) ss ≡ false = sym (c.any_before.ensures ∙ ap (list_any (is_before end)) c.as_slice.ensures.value) ∙ c.if-any_before.false in
    let over : List (ℕ × List Notice) → StreamState = λ left. record { entries = s.entries; last = s.last; left = left } in
    rw (← c.self.view_is) (ap over (ap (λ ns. left_of end ns ss) c.clear.ensures.items ∙ forgotten_left s.last s.gone end s.notices.items ss is all none))
