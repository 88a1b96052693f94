use Rattle.std.proofs.Common.{rules, arith, ◌≤◌, length}
use Rattle.nm_schema_typing.proofs.JudgedRows.{judgements_are}
use Rattle.nm_schema_typing.proofs.listing.judgements_of.Goals as goal

pub returns : goal.returns
returns c =
    let most : length c.args.rows.now ≤ c.loop-at.at = omega (arith, c.loop-at-test.false, c.len.ensures) in
    record { exact = judgements_are c.args.rows.now c.args.typedefs.now c.loop-at.judgements.items c.loop-at.at most c.loop-at.invariant.0 c.loop-at.invariant.1 }
