use Rattle.std.proofs.Common.{◌≡◌, ℕ, Bool, IfOk, ap, subst, ◌∙◌}
use Rattle.std.specs.List.{list_any}
use Rattle.nm_validate_rules.specs.Cases.{numbers}
use Rattle.nm_validate_rules.specs.Violated.{is_of_choice}
use Rattle.nm_validate_places.proofs.Below.{any_kept}
use Rattle.nm_validate_rules.specs.Reads.{choice_reads, tells}
use Rattle.nm_incremental.proofs.reading.choice_reads.Goals as goal

pub returns : goal.returns
unfolding choice_reads
returns c =
    let t = c.args.schema.now in
    subst (λ (b : Bool). IfOk c.any_tells.result (λ is. is ≡ b)) (
    ap (list_any (λ (x : ℕ). tells t c.args.above.now x c.args.row.now)) (c.nodes_in.ensures ∙ c.requires.choices.each c.args.at c.requires.within)
    ∙ any_kept (is_of_choice t c.args.at) (λ (x : ℕ). tells t c.args.above.now x c.args.row.now) (numbers t.nodes)) c.any_tells.ensures
