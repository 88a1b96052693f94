use Rattle.std.proofs.Common.{Some, None, All, List, subst, sym}
use Rattle.nm_schema_derive.specs.declared.members.Member.{Member}
use Rattle.nm_schema_derive.specs.Built.{HasPositions}
use Rattle.nm_schema_derive.specs.Members.{IsPosition}
use Rattle.nm_schema_derive.specs.Shape.{built_of}
use Rattle.nm_schema_derive.proofs.Numbers.{answer_fits, base_of}
use Rattle.nm_schema_derive.proofs.derived.Derived.with_bits.Goals as goal

pub flagged-requires-clause-positions : goal.flagged-requires-clause-positions
flagged-requires-clause-positions c = answer_fits None c.args.statements.now c.numbered-made.result tt c.numbered-made.ensures.exact

pub flagged-requires-in-Bits-clause-positions : goal.flagged-requires-in-Bits-clause-positions
flagged-requires-in-Bits-clause-positions c =
    let own = subst (λ s. HasPositions (built_of s)) c.in-Bits.is c.self.invariant.0 in
    let lent = subst (λ (ms : List Member). All IsPosition ms) (sym c.deref.ensures) own in
    answer_fits (Some c.deref.result.now) c.args.statements.now c.restricted-made.result (base_of c.deref.result.now lent) c.restricted-made.ensures.exact
