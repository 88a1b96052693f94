use Rattle.std.proofs.Common.{rules, ◌≡◌, Bool, not, filter}
use Rattle.std.proofs.lemmas.Fn.{filter_same}
use Rattle.nm_notify.specs.declared.subscriber.Subscriber.{Subscriber}
use Rattle.nm_notify.specs.Subscribers.{is_numbered}
use Rattle.nm_notify.proofs.subscriber.drop_numbered.Goals as goal

pub returns : goal.returns
returns c =
    let keeps : Subscriber → Bool = λ s. not (is_numbered c.args.number s) in
    let kept : c.retain.new.self.items ≡ filter keeps c.args.subscribers.now.items = filter_same _ _ _ (λ x b f' k. search rules) _ _ c.retain.ensures.filtered in
    kept
