use Rattle.std.proofs.Common.{rules, ◌≡◌, Bool, not, List, filter, ap}
use Rattle.std.proofs.lemmas.Fn.{filter_same}
use Rattle.nm_partial.specs.Partial.{PartialLock, PartialState, is_of}
use Rattle.nm_partial.proofs.Numbered.{numbered-filter}
use Rattle.nm_partial.proofs.locks.PartialLocks.drop_session.Goals as goal

pub invariant_of-self : goal.invariant_of-self
invariant_of-self g c =
    let keeps : PartialLock g.row.C-Node.Denot → Bool = λ lock. not (is_of c.args.session lock) in
    let kept : c.retain.new.self.items ≡ filter keeps c.self.inside.locks.items = filter_same _ _ _ (λ x b f' k. search rules) _ _ c.retain.ensures.filtered in
    rw kept (numbered-filter keeps c.self.inside.locks.items c.self.inside.last c.self.invariant)

pub returns : goal.returns
returns g c =
    let keeps : PartialLock g.row.C-Node.Denot → Bool = λ lock. not (is_of c.args.session lock) in
    let kept : c.retain.new.self.items ≡ filter keeps c.self.inside.locks.items = filter_same _ _ _ (λ x b f' k. search rules) _ _ c.retain.ensures.filtered in
    let over : List (PartialLock g.row.C-Node.Denot) → PartialState g.row.C-Node.Denot = λ locks. record { locks = locks; last = c.self.inside.last } in
    rw (← c.self.view_is) (ap over kept)
