use Rattle.std.proofs.Common.{◌+◌, length, ap, arith}
use Rattle.nm_schema_nodes.specs.Forks.{Forking, forking}
use Rattle.nm_schema_nodes.proofs.Walks.{case-made}
use Rattle.nm_schema_nodes.proofs.forks.Forks.add_case.Goals as goal

pub put_inner_forks-requires : goal.put_inner_forks-requires
put_inner_forks-requires c = rw c.choices.ensures (c.room.ensures.forks (c.len-outer.result + 1) (omega (arith, c.len-outer.ensures, ap (λ (f : Forking). length f.cases) c.self.view_is)))

pub put_branches-requires : goal.put_branches-requires
put_branches-requires c = rw c.cases.ensures (c.room.ensures.branches c.len-first_choice.result (omega (arith, c.len-first_choice.ensures, ap (λ (f : Forking). length f.choices) c.self.view_is)))

pub put_inner_spots-requires : goal.put_inner_spots-requires
put_inner_spots-requires c = rw c.spots.ensures (c.room.ensures.of_spots (c.len-outer.result + 1) (omega (arith, c.len-outer.ensures, ap (λ (f : Forking). length f.cases) c.self.view_is)))

pub invariant_of-result : goal.invariant_of-result
invariant_of-result c = case-made (forking c.self.inside.choices.items c.self.inside.cases.items c.self.inside.spots.items) c.args.other.now c.args.row c.put_inner_forks.new.choices.items c.push.new.self.items c.put_branches.new.cases.items c.put_inner_spots.new.spots.items c.len-outer.result c.len-first_choice.result c.choices.result.now c.cases.result.now c.spots.result.now
    (omega (arith, c.requires, ap (λ (f : Forking). length f.choices) c.self.view_is)) c.self.invariant c.laws.ensures (omega (arith, c.len-outer.ensures)) (omega (arith, c.len-first_choice.ensures)) c.choices.ensures c.cases.ensures c.spots.ensures
    c.in_ok-put_inner_forks.ensures c.in_ok-push.ensures.items c.in_ok-put_branches.ensures c.in_ok-put_inner_spots.ensures
