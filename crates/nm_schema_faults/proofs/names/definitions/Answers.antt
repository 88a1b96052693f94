use Rattle.std.proofs.Common.{◌≡◌, ◌∙◌, List, length, map, ap, arith}
use Rattle.std.specs.List.{range_with_len}
use Rattle.nm_schema_statements.specs.declared.row.Row.{Row}
use Rattle.nm_schema_names.specs.Leads.{leads_to}
use Rattle.nm_schema_faults.specs.Facts.{definitions}
use Rattle.nm_schema_faults.proofs.Defining.{defined_more}
use Rattle.nm_schema_faults.proofs.names.definitions.Goals as goal

pub loop-at-preserved : goal.loop-at-preserved
loop-at-preserved c =
    defined_more c.args.names.now c.loop-at.at c.loop-at.found.items c.push.new.self.items c.leads_to.result c.loop-at.invariant c.leads_to.ensures.value c.leads_to.ensures.within c.in_ok-push.ensures.items

pub returns-clause-value : goal.returns-clause-value
unfolding definitions
returns-clause-value c =
    let count : length c.rows-2.result.now ≡ length c.args.names.now = ap (λ (r : List Row). length r) c.rows-2.ensures in
    let bound = c.loop-at.auto.at-end in
    let all : c.loop-at.at ≡ length c.args.names.now = omega (arith, count, bound, c.len-at-end.ensures, c.loop-at-test.false) in
    c.loop-at.invariant.made ∙ ap (λ n. map (leads_to c.args.names.now) (range_with_len 0 n)) all
