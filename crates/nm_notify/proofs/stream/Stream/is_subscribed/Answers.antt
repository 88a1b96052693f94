use Rattle.std.proofs.Common.{◌∙◌, ap}
use Rattle.std.specs.List.{list_any}
use Rattle.nm_notify.specs.Subscribers.{is_numbered}
use Rattle.nm_notify.proofs.Left.{any_left}
use Rattle.nm_notify.proofs.stream.Stream.is_subscribed.Goals as goal

pub returns : goal.returns
returns c =
    let s = c.self.inside in
    rw (← c.self.view_is)
    (c.any_numbered.ensures ∙ ap (list_any (is_numbered c.args.subscriber)) c.as_slice.ensures.value ∙ any_left s.gone s.notices.items c.args.subscriber s.subscribers.items)
