use Rattle.std.proofs.Common.{◌∙◌, sym}
use Rattle.nm_schema_names.proofs.Holders.{holder-fork}
use Rattle.nm_schema_names.proofs.claims.next_holder.Goals as goal

pub returns-then-is_fork_at : goal.returns-then-is_fork_at
returns-then-is_fork_at c = c.requires.each c.in-Some.parent c.in-Some.ensures.earlier ∙ holder-fork c.args.rows.now c.laws.ensures c.args.at c.in-Some.parent (sym c.is_part_at.ensures ∙ c.if-not-is_part_at.false)
    (sym c.in-Some.ensures.around) (sym c.is_fork_at.ensures ∙ c.if-is_fork_at.true)
