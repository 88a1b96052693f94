use Rattle.std.proofs.Common.{subst, List, ℕ}
use Rattle.nm_schema_derive.proofs.Ranges.{IsExact, gives, ascends, lies_inside, answered}
use Rattle.nm_schema_derive.proofs.parts.read_parts.Goals as goal

pub returns-clause-given : goal.returns-clause-given
returns-clause-given c =
    gives c.args.form.now c.args.base.now c.args.text.now c.read.result (subst (λ (t : List ℕ). IsExact c.args.form.now c.args.base.now t c.read.result) c.as_bytes.ensures.value c.read.ensures)

pub returns-clause-ascending : goal.returns-clause-ascending
returns-clause-ascending c =
    ascends c.args.form.now c.args.base.now c.args.text.now c.read.result (subst (λ (t : List ℕ). IsExact c.args.form.now c.args.base.now t c.read.result) c.as_bytes.ensures.value c.read.ensures)

pub returns-clause-inside : goal.returns-clause-inside
returns-clause-inside c =
    lies_inside c.args.form.now c.args.base.now c.args.text.now c.read.result (subst (λ (t : List ℕ). IsExact c.args.form.now c.args.base.now t c.read.result) c.as_bytes.ensures.value c.read.ensures)

pub returns-clause-found : goal.returns-clause-found
returns-clause-found c = λ parts s g t i.
    answered c.args.form.now c.args.base.now c.args.text.now c.read.result (subst (λ (t : List ℕ). IsExact c.args.form.now c.args.base.now t c.read.result) c.as_bytes.ensures.value c.read.ensures) parts s g t i
