use Rattle.std.proofs.Common.{◌≡◌, ◌<◌, true, ◌++◌, ◌∷◌, [], length, vec_len, vec_capacity, sym, ◌∙◌, ap, subst, arith, rules, length-append}
use Rattle.nm_journal.specs.Entries.{IsInOrder, may_follow}
use Rattle.nm_journal.proofs.Bound.{at_most, order_push}
use Rattle.nm_journal.proofs.journal.Journal.append.Goals as goal

pub write_record-requires-clause-few : goal.write_record-requires-clause-few
write_record-requires-clause-few g c =
    let entries = c.self.inside.entries.items in
    let follows : may_follow entries c.args.entry ≡ true = ap (λ journal. may_follow journal.entries c.args.entry) c.self.view_is ∙ c.requires.may.follows in
    let few = at_most (entries ++ c.args.entry ∷ []) (order_push entries c.args.entry c.self.invariant.0 follows) in
    omega (arith, length-append entries (c.args.entry ∷ []), ap length c.deref.ensures.value)

pub unwrap-requires : goal.unwrap-requires
unwrap-requires g c =
    let entries = c.self.inside.entries.items in
    let follows : may_follow entries c.args.entry ≡ true = ap (λ journal. may_follow journal.entries c.args.entry) c.self.view_is ∙ c.requires.may.follows in
    let few = at_most (entries ++ c.args.entry ∷ []) (order_push entries c.args.entry c.self.invariant.0 follows) in
    let room : vec_len c.self.inside.entries < vec_capacity c.self.inside.entries = omega (arith, length-append entries (c.args.entry ∷ []), ap length c.deref.ensures.value, c.deref.ensures.len, c.self.invariant.1) in
    c.push.ensures.succeeds room

pub invariant_of-self : goal.invariant_of-self
invariant_of-self g c =
    let entries = c.self.inside.entries.items in
    let follows : may_follow entries c.args.entry ≡ true = ap (λ journal. may_follow journal.entries c.args.entry) c.self.view_is ∙ c.requires.may.follows in
    let pushed : c.push.new.self.items ≡ entries ++ c.args.entry ∷ [] = search rules in
    (subst IsInOrder (sym pushed) (order_push entries c.args.entry c.self.invariant.0 follows), omega (arith, c.self.invariant.1, c.push.ensures.capacity))
