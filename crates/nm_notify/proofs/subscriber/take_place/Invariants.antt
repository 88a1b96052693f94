use Rattle.std.proofs.Common.{◌≡◌, ◌++◌, drop, take}
use Rattle.nm_notify.specs.Subscribers.{gone_on, place_of}
use Rattle.nm_notify.proofs.subscriber.take_place.Given as goal

-- none of those before has the number, and none was changed
abbrev pub invariant-loop-at : goal.invariant-loop-at
invariant-loop-at l = record {
  same : l.subscribers.items ≡ l.fn.subscribers.items;
  place : place_of l.number l.end (drop l.at l.subscribers.items) ≡ place_of l.number l.end l.subscribers.items;
  after : take l.at l.subscribers.items ++ gone_on l.number l.end (drop l.at l.subscribers.items) ≡ gone_on l.number l.end l.subscribers.items;
}
