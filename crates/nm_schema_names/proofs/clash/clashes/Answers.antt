use Rattle.std.proofs.Common.{◌∙◌, ◌<◌, ◌+◌, length, None, slice_index_or, arith, ap, subst, replicate}
use Rattle.nm_schema_names.specs.Clash.{known_at, knowledge, Knowledge, no_parts, AreTaken, clash_by}
use Rattle.nm_schema_names.proofs.Holders.{held-within}
use Rattle.nm_schema_names.proofs.Naming.{taken_start}
use Rattle.nm_schema_names.proofs.Filling.{filled_none, filled_more}
use Rattle.nm_schema_names.proofs.clash.clashes.Goals as goal

pub loop-at-init : goal.loop-at-init
loop-at-init c = record {
  same = c.in_ok-known.ensures;
  taken = taken_start (knowledge c.args.rows.now c.args.brought.now) c.in_ok-taken.taken.items (c.in_ok-taken.ensures ∙ ap (λ n. replicate n no_parts) c.len.ensures);
  found = rw c.new-clashes.ensures.items (filled_none (clash_by (known_at c.args.brought.now) c.args.rows.now));
}

pub next_clash-requires-clause-held : goal.next_clash-requires-clause-held
next_clash-requires-clause-held c =
    let lt : c.loop-at.at < length c.args.rows.now = omega arith in
    held-within c.args.rows.now c.laws.ensures c.loop-at.at (slice_index_or c.args.holders.now c.loop-at.at None) lt (c.requires.holders.each c.loop-at.at lt)

pub loop-at-preserved : goal.loop-at-preserved
loop-at-preserved c = record {
  same = c.in-Ok.ensures.known ∙ c.loop-at.invariant.same;
  taken = subst (λ (k : Knowledge). AreTaken k (c.loop-at.at + 1) c.next_clash.new.taken.items) c.loop-at.invariant.same c.in-Ok.ensures.taken;
  found = rw c.in_ok-push-in-Ok.ensures.items (filled_more (clash_by (known_at c.args.brought.now) c.args.rows.now) c.loop-at.at c.loop-at.clashes.items c.in-Ok.clash c.loop-at.invariant.found
      (c.in-Ok.ensures.clash ∙ ap (λ (k : Knowledge). clash_by (known_at k.brought) c.args.rows.now c.loop-at.at) c.loop-at.invariant.same));
}
