use Rattle.std.proofs.Common.{◌≡◌, ◌<◌, ◌^◌, Some, sym, ◌∙◌, ap, subst, arith, rules}
use Rattle.nm_proto.specs.declared.journal.Entry.{Entry}
use Rattle.nm_journal.specs.Record.{record_of, entry_of, seconds_of}
use Rattle.nm_journal.specs.Entries.{has_record, is_timed}
use Rattle.nm_journal.proofs.Records.{decided_back, timed_back}
use Rattle.nm_journal.proofs.record.block_of.Goals as goal

pub returns-in-Started-clause-read_back : goal.returns-in-Started-clause-read_back
returns-in-Started-clause-read_back c =
    let here = c.in-Started.is in
    let devices : c.in-Started.devices.0 < 2 ^ 32 = search rules in
    let seconds : seconds_of c.in-Started.timeout < 2 ^ 32 = omega (arith, c.seconds_of.type_inv, c.seconds_of.ensures) in
    subst (λ (entry : Entry). entry_of (record_of entry) ≡ Some entry) (sym here)
    (timed_back c.in-Started.change c.in-Started.devices.0 c.in-Started.timeout devices seconds (ap has_record (sym here) ∙ c.requires.has) (ap is_timed (sym here) ∙ c.requires.timed))

pub returns-in-Decided-clause-read_back : goal.returns-in-Decided-clause-read_back
returns-in-Decided-clause-read_back c =
    let here = c.in-Decided.is in
    subst (λ (entry : Entry). entry_of (record_of entry) ≡ Some entry) (sym here) (decided_back c.in-Decided.change c.in-Decided.verdict (ap has_record (sym here) ∙ c.requires.has))
