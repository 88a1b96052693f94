use Rattle.std.proofs.Common.{◌≡◌, ◌+◌, false, ◌||◌, drop, get_or, sym, ap, ◌∙◌}
use Rattle.std.specs.List.{list_any}
use Rattle.std.proofs.lemmas.List.{drop_all, drop_more}
use Rattle.nm_validate_rules.specs.Cases.{exists_at}
use Rattle.nm_validate_places.proofs.cases.any_at.Goals as goal

pub loop-at-preserved : goal.loop-at-preserved
loop-at-preserved g c =
    let there = exists_at c.args.schema.now (g.M.RowMap.rows c.args.config.now) c.args.above.now in
    let nodes = c.args.nodes.now in
    let i = c.loop-at.at-index in
    let not_there : there (get_or nodes i 0) ≡ false = sym c.in_ok-exists_at.ensures ∙ c.if-branch.false in
    sym (ap (list_any there) (drop_more nodes i 0 c.loop-at-test.true) ∙ ap (λ b. b || list_any there (drop (i + 1) nodes)) not_there) ∙ c.loop-at.invariant

pub returns : goal.returns
returns g c =
    ap (list_any (exists_at c.args.schema.now (g.M.RowMap.rows c.args.config.now) c.args.above.now)) (sym (drop_all c.loop-at.at-index c.args.nodes.now c.loop-at-test.false)) ∙ c.loop-at.invariant
