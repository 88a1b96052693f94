use Rattle.std.proofs.Common.{◌≡◌, ◌∙◌, None, sym, subst, arith}
use Rattle.std.proofs.lemmas.Result.{IfOk-weaker}
use Rattle.nm_schema_uses.specs.Outline.{Outline}
use Rattle.nm_schema_names.specs.Clash.{clash_flaw, duplicate}
use Rattle.nm_schema_names.proofs.Clashing.{clash-read, case-read, clash-past}
use Rattle.nm_schema_names.proofs.clashes.Clashes.clash_flaw.Goals as goal

pub returns-then-at-len : goal.returns-then-at-len
returns-then-at-len c =
    let size = c.self.invariant.clashes.size in
    subst (λ (s : Outline). None ≡ clash_flaw s.rows s.groupings c.args.at) c.self.view_is (clash-past c.self.inside.rows.now c.self.inside.groupings.now c.args.at (omega arith))

pub returns-then-is_some : goal.returns-then-is_some
returns-then-is_some c =
    let all : duplicate c.index-clash.result.now ≡ clash_flaw c.args.self.now.rows c.args.self.now.groupings c.args.at =
    subst (λ (s : Outline). duplicate c.index-clash.result.now ≡ clash_flaw s.rows s.groupings c.args.at) c.self.view_is
    (clash-read c.self.inside.rows.now c.self.inside.groupings.now c.self.inside.clashes.items c.self.inside.case_clashes.items c.args.at c.index-clash.result.now c.self.invariant (omega arith) c.index-clash.ensures
    (sym c.is_some.ensures ∙ c.if-is_some.true)) in
    IfOk-weaker c.duplicate.result (λ flaw. flaw ≡ duplicate c.index-clash.result.now) (λ flaw. flaw ≡ clash_flaw c.args.self.now.rows c.args.self.now.groupings c.args.at) (λ flaw e. e ∙ all) c.duplicate.ensures

pub returns : goal.returns
returns c =
    let all : duplicate c.index.result.now ≡ clash_flaw c.args.self.now.rows c.args.self.now.groupings c.args.at =
    subst (λ (s : Outline). duplicate c.index.result.now ≡ clash_flaw s.rows s.groupings c.args.at) c.self.view_is
    (case-read c.self.inside.rows.now c.self.inside.groupings.now c.self.inside.clashes.items c.self.inside.case_clashes.items c.args.at c.index-clash.result.now c.index.result.now c.self.invariant (omega arith) c.index-clash.ensures
    (sym c.is_some.ensures ∙ c.if-is_some.false) c.index.ensures) in
    IfOk-weaker c.duplicate-2.result (λ flaw. flaw ≡ duplicate c.index.result.now) (λ flaw. flaw ≡ clash_flaw c.args.self.now.rows c.args.self.now.groupings c.args.at) (λ flaw e. e ∙ all) c.duplicate-2.ensures
