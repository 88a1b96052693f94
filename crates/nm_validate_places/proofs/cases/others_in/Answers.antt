use Rattle.std.proofs.Common.{◌++◌, ◌==◌, not, sym, ap, ◌∙◌, append-nil}
use Rattle.std.specs.Prelude.{filter}
use Rattle.std.proofs.lemmas.List.{drop_all}
use Rattle.nm_validate_places.proofs.cases.others_in.Goals as goal

pub returns : goal.returns
returns c =
    let all = c.loop-other.all.items in
    sym (append-nil all) ∙ ap (λ others. all ++ filter (λ other. not (other == c.args.at)) others) (sym (drop_all c.loop-other.other-index c.args.nodes.now c.loop-other-test.false)) ∙ c.loop-other.invariant
