use Rattle.std.proofs.Common.{◌≡◌, ◌+◌, List, sym, subst, arith}
use Rattle.nm_validate_places.specs.Groups.{Group, AreEmpty}
use Rattle.nm_validate_places.proofs.Grouped.{empty_none, empty_push}
use Rattle.nm_validate_places.proofs.areas.no_groups.Goals as goal

pub loop-at-init : goal.loop-at-init
loop-at-init c = subst (λ (gs : List Group). AreEmpty 0 gs) (sym c.in_ok-groups.ensures.items) empty_none

pub loop-at-preserved : goal.loop-at-preserved
loop-at-preserved c =
    subst (λ (gs : List Group). AreEmpty (c.loop-at._at + 1) gs) (sym c.in_ok-push.ensures.items) (empty_push c.loop-at._at c.loop-at.groups.items c.new.result c.loop-at.invariant c.new.ensures.items)

pub returns : goal.returns
returns c =
    let past = c.loop-at-test.false in
    let ends = c.loop-at.auto._at-end in
    let all : c.loop-at._at ≡ c.args.count = omega (arith, past, ends) in
    subst (λ n. AreEmpty n c.loop-at.groups.items) all c.loop-at.invariant
