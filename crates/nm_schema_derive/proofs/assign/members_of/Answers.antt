use Rattle.std.proofs.Common.{Err, Ok, fold, [], ap, sym, ◌∙◌, ℕ, List, Bor, option_map}
use Rattle.std.proofs.lemmas.List.{take_all}
use Rattle.nm_schema_derive.specs.declared.members.ListFault.TheVariants.{Flawed}
use Rattle.nm_schema_derive.specs.declared.members.Member.{Member}
use Rattle.nm_schema_derive.specs.Members.{with_statement, members_of}
use Rattle.nm_schema_derive.proofs.Takings.{first_flaw}
use Rattle.nm_schema_derive.proofs.assign.members_of.Goals as goal

pub returns-in-Err : goal.returns-in-Err
returns-in-Err c =
    let base = option_map (λ (members : Bor (List Member)). members.now) c.args.base in
    first_flaw c.args.numbering.now base c.args.statements.now c.loop-listed.listed-index c.listed-item.result c.loop-listed.taken c.in-Err.flaw c.loop-listed-test.true c.listed-item.is c.loop-listed.invariant c.in-Err.ensures
    ∙ ap (λ (n : ℕ). Err (Flawed n c.in-Err.flaw)) (sym c.len.ensures)

pub returns : goal.returns
unfolding members_of
returns c =
    let base = option_map (λ (members : Bor (List Member)). members.now) c.args.base in
    sym (ap (fold (with_statement c.args.numbering.now base) (Ok [])) (take_all c.loop-listed.listed-index c.args.statements.now c.loop-listed-test.false))
    ∙ c.loop-listed.invariant
