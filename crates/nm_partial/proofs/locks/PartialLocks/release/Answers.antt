use Rattle.std.proofs.Common.{rules, ◌≡◌, Bool, false, not, List, filter, ap, sym}
use Rattle.std.specs.List.{list_any}
use Rattle.std.proofs.lemmas.Fn.{filter_same}
use Rattle.nm_partial.specs.Partial.{PartialLock, PartialState, is_held_as}
use Rattle.nm_partial.proofs.Numbered.{numbered-filter}
use Rattle.nm_partial.proofs.Failing.{all_kept}
use Rattle.nm_partial.proofs.locks.PartialLocks.release.Goals as goal

pub returns-then-not-holds-clause-after : goal.returns-then-not-holds-clause-after
returns-then-not-holds-clause-after g c =
    let none : list_any (is_held_as c.args.session c.args.id) c.args.self.now.locks ≡ false = cc in
    let over : List (PartialLock g.row.C-Node.Denot) → PartialState g.row.C-Node.Denot = λ locks. record { locks = locks; last = c.args.self.now.last } in
    ap over (sym (all_kept (is_held_as c.args.session c.args.id) c.args.self.now.locks none))

pub invariant_of-self : goal.invariant_of-self
invariant_of-self g c =
    let keeps : PartialLock g.row.C-Node.Denot → Bool = λ lock. not (is_held_as c.args.session c.args.id lock) in
    let kept : c.retain.new.self.items ≡ filter keeps c.self.inside.locks.items = filter_same _ _ _ (λ x b f' k. search rules) _ _ c.retain.ensures.filtered in
    rw kept (numbered-filter keeps c.self.inside.locks.items c.self.inside.last c.self.invariant)

pub returns-clause-after : goal.returns-clause-after
returns-clause-after g c =
    let keeps : PartialLock g.row.C-Node.Denot → Bool = λ lock. not (is_held_as c.args.session c.args.id lock) in
    let kept : c.retain.new.self.items ≡ filter keeps c.self.inside.locks.items = filter_same _ _ _ (λ x b f' k. search rules) _ _ c.retain.ensures.filtered in
    let over : List (PartialLock g.row.C-Node.Denot) → PartialState g.row.C-Node.Denot = λ locks. record { locks = locks; last = c.self.inside.last } in
    rw (← c.self.view_is) (ap over kept)
