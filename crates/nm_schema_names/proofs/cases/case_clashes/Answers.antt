use Rattle.std.proofs.Common.{◌∙◌, [], replicate, ap}
use Rattle.nm_schema_names.specs.Clash.{case_clash}
use Rattle.nm_schema_names.proofs.Casing.{cases_start}
use Rattle.nm_schema_names.proofs.Filling.{filled_none, filled_more}
use Rattle.nm_schema_names.proofs.cases.case_clashes.Goals as goal

pub loop-at-init : goal.loop-at-init
loop-at-init c = record {
  taken = cases_start c.args.rows.now c.in_ok-taken.taken.items (c.in_ok-taken.ensures ∙ ap (λ n. replicate n []) c.len.ensures);
  found = rw c.in_ok-clashes.ensures.items (filled_none (case_clash c.args.rows.now));
}

pub loop-at-preserved : goal.loop-at-preserved
loop-at-preserved c = record {
  taken = c.in-Ok.ensures.taken;
  found = rw c.in_ok-push-in-Ok.ensures.items (filled_more (case_clash c.args.rows.now) c.loop-at.at c.loop-at.clashes.items c.in-Ok.clash c.loop-at.invariant.found c.in-Ok.ensures.clash);
}
