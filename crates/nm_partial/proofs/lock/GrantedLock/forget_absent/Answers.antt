use Rattle.std.proofs.Common.{rules, ◌≡◌, List, filter, ap}
use Rattle.std.proofs.lemmas.Fn.{filter_same}
use Rattle.nm_partial.specs.Partial.{PartialLock}
use Rattle.nm_partial.proofs.lock.GrantedLock.forget_absent.Goals as goal

pub returns : goal.returns
returns g c =
    let m = g.C.Content.meaning c.args.content.now in
    let kept : c.retain.new.self.items ≡ filter (m.exists c.args.config.now) c.self.inside.nodes.items = filter_same _ _ _ (λ x b f' k. search rules) _ _ c.retain.ensures.filtered in
    let over : List g.row.C-Node.Denot → PartialLock g.row.C-Node.Denot = λ nodes. record { id = c.self.inside.id; session = c.self.inside.session; nodes = nodes } in
    rw (← c.self.view_is) (ap over kept)
