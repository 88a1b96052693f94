use Rattle.std.proofs.Common.{◌≡◌, ◌<◌, ◌+◌, ◌∙◌, ℕ, List, length, sym, ap, arith}
use Rattle.nm_schema_statements.specs.declared.row.Row.{Row}
use Rattle.nm_schema_statements.specs.Rows.{roots}
use Rattle.nm_schema_nodes.specs.Expansion.{is_large, counts_before}
use Rattle.nm_schema_nodes.proofs.Bounds.{from-next, from-found, from-start, none-counted}
use Rattle.nm_schema_nodes.proofs.Scanning.{large-many, large-deep, counted-more, not-large}
use Rattle.nm_schema_nodes.proofs.limits.first_large.Goals as goal

pub loop-owner-init : goal.loop-owner-init
loop-owner-init c = record {
  few = omega arith;
  total = none-counted c.args.shape.now.rows c.args.shape.now.groupings;
  rest = from-start c.args.shape.now.rows c.args.shape.now.groupings;
}

pub returns-then-total-gt-MOST_NODES : goal.returns-then-total-gt-MOST_NODES
returns-then-total-gt-MOST_NODES c =
    let all : c.roots-roots.result.now ≡ roots c.args.shape.now.rows = c.roots-roots.ensures ∙ ap (λ (rows : List Row). roots rows) c.rows-rows.ensures in
    let lt : c.loop-owner.owner < length (roots c.args.shape.now.rows) = omega (arith, ap (λ (l : List ℕ). length l) all) in
    sym (from-found (is_large c.args.shape.now.rows c.args.shape.now.groupings) c.loop-owner.owner (length (roots c.args.shape.now.rows)) lt
    (large-many c.args.shape.now.rows c.args.shape.now.groupings c.loop-owner.owner c.roots-roots.result.now c.loop-owner.total c.count_at-total.result all c.loop-owner-test.true c.loop-owner.invariant.total c.count_at-total.ensures c.if-total-gt-MOST_NODES.true))
    ∙ c.loop-owner.invariant.rest

pub returns-then-height_at-gt-MOST_DEEP : goal.returns-then-height_at-gt-MOST_DEEP
returns-then-height_at-gt-MOST_DEEP c =
    let all : c.roots-roots.result.now ≡ roots c.args.shape.now.rows = c.roots-roots.ensures ∙ ap (λ (rows : List Row). roots rows) c.rows-rows.ensures in
    let lt : c.loop-owner.owner < length (roots c.args.shape.now.rows) = omega (arith, ap (λ (l : List ℕ). length l) all) in
    sym (from-found (is_large c.args.shape.now.rows c.args.shape.now.groupings) c.loop-owner.owner (length (roots c.args.shape.now.rows)) lt
    (large-deep c.args.shape.now.rows c.args.shape.now.groupings c.loop-owner.owner c.roots-roots.result.now c.loop-owner.total c.count_at-total.result c.height_at.result all c.loop-owner-test.true c.height_at.ensures c.if-height_at-gt-MOST_DEEP.true))
    ∙ c.loop-owner.invariant.rest

pub loop-owner-preserved : goal.loop-owner-preserved
loop-owner-preserved c =
    let all : c.roots-roots.result.now ≡ roots c.args.shape.now.rows = c.roots-roots.ensures ∙ ap (λ (rows : List Row). roots rows) c.rows-rows.ensures in
    let lt : c.loop-owner.owner < length (roots c.args.shape.now.rows) = omega (arith, ap (λ (l : List ℕ). length l) all) in
    let more : c.loop-owner.total + c.count_at-total.result ≡ counts_before c.args.shape.now.rows c.args.shape.now.groupings (c.loop-owner.owner + 1) =
    counted-more c.args.shape.now.rows c.args.shape.now.groupings c.loop-owner.owner c.roots-roots.result.now c.loop-owner.total c.count_at-total.result all c.loop-owner-test.true c.loop-owner.invariant.total c.count_at-total.ensures c.if-total-gt-MOST_NODES.false in
    record {
      few = c.if-total-gt-MOST_NODES.false;
      total = more;
      rest = sym (from-next (is_large c.args.shape.now.rows c.args.shape.now.groupings) c.loop-owner.owner (length (roots c.args.shape.now.rows)) lt
          (not-large c.args.shape.now.rows c.args.shape.now.groupings c.loop-owner.owner c.roots-roots.result.now c.loop-owner.total c.count_at-total.result c.height_at.result all c.loop-owner-test.true more c.if-total-gt-MOST_NODES.false c.height_at.ensures c.if-height_at-gt-MOST_DEEP.false))
          ∙ c.loop-owner.invariant.rest;
    }
