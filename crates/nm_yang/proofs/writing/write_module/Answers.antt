use Rattle.std.proofs.Common.{◌≡◌, ◌++◌, ap, ◌∙◌}
use Rattle.nm_yang.specs.Written.{written}
use Rattle.nm_yang.proofs.Whole.{read_again}
use Rattle.nm_yang.proofs.writing.write_module.Goals as goal

pub returns-clause-read_again : goal.returns-clause-read_again
returns-clause-read_again c =
    let e = c.in_ok-put_statement.ensures in
    let n = c.new-out.ensures.items in
    let is : c.put_statement.new.out.items ≡ written c.args.statement.now = e ∙ ap (λ l. l ++ written c.args.statement.now) n in
    λ h le. read_again c.put_statement.new.out.items c.args.statement.now is h le
