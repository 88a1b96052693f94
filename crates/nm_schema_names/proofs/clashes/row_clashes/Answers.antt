use Rattle.std.proofs.Common.{List, Option, ℕ, sym, subst}
use Rattle.std.proofs.lemmas.Result.{IfOk-weaker}
use Rattle.nm_graph.specs.Graph.{Graph}
use Rattle.nm_schema_names.specs.Clash.{known_at, claimed, AreClashes}
use Rattle.nm_schema_names.specs.Sharing.{AreShared}
use Rattle.nm_schema_names.proofs.Sharing.{are-shared}
use Rattle.nm_schema_names.proofs.Clashing.{clashes-known}
use Rattle.nm_schema_names.proofs.clashes.row_clashes.Goals as goal

pub sources-requires : goal.sources-requires
sources-requires c = record {
  shared = subst (λ (graph : Graph). AreShared graph c.deref-6.result.now) (sym c.deref-5.ensures.value)
      (subst (λ (values : List (Option (List ℕ))). AreShared c.in_ok-claiming.claiming.items values) (sym c.deref-6.ensures.value)
      (are-shared c.args.rows.now c.args.groupings.now c.in_ok-claiming.claiming.items c.in_ok-claims.claims.items c.in_ok-claiming.ensures.claiming c.in_ok-claims.ensures));
}

pub returns : goal.returns
returns c = IfOk-weaker c.clashes.result (λ clashes. AreClashes (known_at c.deref-8.result.now) c.args.rows.now clashes.items) (λ clashes. AreClashes (claimed c.args.rows.now c.args.groupings.now) c.args.rows.now clashes.items)
    (λ clashes are. clashes-known c.args.rows.now c.args.groupings.now c.in_ok-claims.claims.items clashes.items c.in_ok-claims.ensures
    (subst (λ (values : List (Option (List ℕ))). AreClashes (known_at values) c.args.rows.now clashes.items) c.deref-8.ensures.value are)) c.clashes.ensures
