use Rattle.std.proofs.Common.{◌≡◌, ◌∙◌, ◌+◌, ◌||◌, true, false, drop, get_or, sym, ap}
use Rattle.std.specs.List.{list_any}
use Rattle.std.proofs.lemmas.List.{drop_all, drop_more}
use Rattle.nm_schema_names.specs.Clash.{brings}
use Rattle.nm_schema_names.proofs.earlier.is_brought.Goals as goal

pub loop-at-preserved : goal.loop-at-preserved
loop-at-preserved c =
    let there = brings c.args.known.now c.args.name.now in
    let wide = c.args.wide.now in
    let i = c.loop-at.at-index in
    let not_there : there (get_or wide i 0) ≡ false = sym c.brings.ensures ∙ c.if-brings.false in
    sym (ap (list_any there) (drop_more wide i 0 c.loop-at-test.true) ∙ ap (λ b. b || list_any there (drop (i + 1) wide)) not_there) ∙ c.loop-at.invariant

pub returns-then-brings : goal.returns-then-brings
returns-then-brings c =
    let there = brings c.args.known.now c.args.name.now in
    let wide = c.args.wide.now in
    let i = c.loop-at.at-index in
    let is_there : there (get_or wide i 0) ≡ true = sym c.brings.ensures ∙ c.if-brings.true in
    sym (ap (list_any there) (drop_more wide i 0 c.loop-at-test.true) ∙ ap (λ b. b || list_any there (drop (i + 1) wide)) is_there) ∙ c.loop-at.invariant

pub returns : goal.returns
returns c = ap (list_any (brings c.args.known.now c.args.name.now)) (sym (drop_all c.loop-at.at-index c.args.wide.now c.loop-at-test.false)) ∙ c.loop-at.invariant
