use Rattle.std.proofs.Common.{refl, subst}
use Rattle.nm_schema_names.specs.Clash.{Parts, AreApart, has_name, brought_by}
use Rattle.nm_schema_names.proofs.Parts.{apart_start, apart_more}
use Rattle.nm_schema_names.proofs.earlier.Earlier.is_apart.Goals as goal

pub loop-wide-init : goal.loop-wide-init
loop-wide-init c = apart_start c.args.known.now c.args.self.now.names c.deref-wide-items.result.now c.args.at
    (subst (λ (p : Parts). AreApart (has_name p.names) (brought_by c.args.known.now c.args.at)) c.self.view_is (c.in_ok-are_apart_from.ensures c.if-not-branch.false))

pub loop-wide-preserved : goal.loop-wide-preserved
loop-wide-preserved c =
    apart_more c.args.known.now c.args.self.now.names c.deref-wide-items.result.now c.loop-wide.wide-index _ c.args.at c.loop-wide-test.true refl (c.in_ok-are_apart.ensures c.if-not-branch-2.false) c.loop-wide.invariant
