use Rattle.std.proofs.Common.{◌≡◌, ◌+◌, ◌-◌, ◌∙◌, List, ℕ, refl, ap, arith, cond, get_or, Some}
use Rattle.std.proofs.lemmas.Map.Text.{btree_map_updates_str}
use Rattle.std.specs.Str.{bytes_eq}
use Rattle.nm_schema_statements.specs.declared.row.Row.{Row}
use Rattle.nm_schema_uses.specs.Arguments.{argument_at}
use Rattle.nm_schema_keys.specs.Membership.{led}
use Rattle.nm_schema_keys.proofs.Looking.{unfilled, filled}
use Rattle.nm_schema_keys.proofs.members.first_of_each.Goals as goal

pub loop-at-init : goal.loop-at-init
loop-at-init c = record {
  within = omega arith;
  first = unfilled c.args.names.now c.args.nodes.now _ c.new-first.result (omega arith) (λ name. rw c.new-first.ensures.empty refl);
}

pub loop-at-preserved : goal.loop-at-preserved
loop-at-preserved c =
    let on : c.loop-at.at ≡ (c.loop-at.at - 1) + 1 = omega arith in
    record {
      within = omega arith;
      first = filled c.args.names.now c.args.nodes.now (c.loop-at.at - 1) c.loop-at.at c.loop-at.first c.insert.new.self (omega arith) on c.loop-at.invariant.first
          (λ name. btree_map_updates_str c.argument_at.result.now c.loop-at.first c.insert.new.self _ c.in_ok-insert.ensures.updates name ∙ ap (λ (text : List ℕ). cond (bytes_eq text name) (Some (get_or c.args.nodes.now (c.loop-at.at - 1) 0)) (led c.loop-at.first name)) (c.argument_at.ensures ∙ ap (λ (rows : List Row). argument_at rows (get_or c.args.nodes.now (c.loop-at.at - 1) 0)) c.rows.ensures));
    }
