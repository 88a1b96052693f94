use Rattle.std.proofs.Common.{◌≡◌, ◌+◌, sym, subst, arith}
use Rattle.nm_validate_places.specs.Tables.{Table, AreNone}
use Rattle.nm_validate_places.proofs.Tabled.{none_zero, none_more}
use Rattle.nm_validate_places.proofs.tables.no_nodes.Goals as goal

pub loop-at-init : goal.loop-at-init
loop-at-init c = subst (λ (gs : Table). AreNone 0 gs) (sym c.in_ok-groups.ensures.items) none_zero

pub loop-at-preserved : goal.loop-at-preserved
loop-at-preserved c =
    subst (λ (gs : Table). AreNone (c.loop-at._at + 1) gs) (sym c.in_ok-push.ensures.items) (none_more c.loop-at._at c.loop-at.groups.items c.new.result c.loop-at.invariant c.new.ensures.items)

pub returns : goal.returns
returns c =
    let past = c.loop-at-test.false in
    let ends = c.loop-at.auto._at-end in
    let all : c.loop-at._at ≡ c.args.count = omega (arith, past, ends) in
    subst (λ n. AreNone n c.loop-at.groups.items) all c.loop-at.invariant
