use Rattle.std.proofs.Common.{◌≡◌, ◌+◌, false, ◌||◌, drop, get_or, sym, ap, ◌∙◌}
use Rattle.std.proofs.lemmas.List.{drop_all, drop_more}
use Rattle.nm_schema_tree.specs.Nodes.{same_parent, parent_of}
use Rattle.nm_validate.specs.Others.{any_in}
use Rattle.nm_validate.proofs.one_case.any_below.Goals as goal

pub loop-at-preserved : goal.loop-at-preserved
loop-at-preserved c =
    let t = c.args.schema.now in
    let nodes = c.args.nodes.now in
    let within = c.args.within in
    let i = c.loop-at.at-index in
    let at = get_or nodes i 0 in
    let other : same_parent (parent_of t.nodes at) within ≡ false = ap (λ p. same_parent p within) (sym c.parent.ensures) ∙ sym c.is_same.ensures ∙ c.if-is_same.false in
    sym (ap (λ ns. any_in t ns within) (drop_more nodes i 0 c.loop-at-test.true) ∙ ap (λ b. b || any_in t (drop (i + 1) nodes) within) other) ∙ c.loop-at.invariant

pub returns : goal.returns
returns c = ap (λ ns. any_in c.args.schema.now ns c.args.within) (sym (drop_all c.loop-at.at-index c.args.nodes.now c.loop-at-test.false)) ∙ c.loop-at.invariant
